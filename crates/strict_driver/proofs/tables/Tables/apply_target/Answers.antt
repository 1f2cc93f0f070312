-- That the tables change as the call says.
use Rattle.strict_driver.proofs.tables.Tables.apply_target.Goals as goal

pub returns-in-DeleteRenderbuffer-clause-ok : goal.returns-in-DeleteRenderbuffer-clause-ok
returns-in-DeleteRenderbuffer-clause-ok c t js = rw c.in-DeleteRenderbuffer.is (c.delete_renderbuffer.ensures.state t js)

pub returns-in-FramebufferTexture-clause-ok : goal.returns-in-FramebufferTexture-clause-ok
returns-in-FramebufferTexture-clause-ok c t js = rw c.in-FramebufferTexture.is (c.attach_texture.ensures.state t js)

pub returns-in-FramebufferRenderbuffer-clause-ok : goal.returns-in-FramebufferRenderbuffer-clause-ok
returns-in-FramebufferRenderbuffer-clause-ok c t js = rw c.in-FramebufferRenderbuffer.is (c.attach_renderbuffer.ensures.state t js)
