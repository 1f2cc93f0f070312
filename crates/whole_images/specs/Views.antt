-- What a framebuffer that is bound is drawn to and read from.
use Rattle.gl_plain.specs.State.{Surface}
use Rattle.gl_plain.specs.subjects.Targets.{Drawable, target_of}
use Rattle.texture_mgr.specs.declared.textures.Textures.{Textures}
use Rattle.texture_mgr.specs.Tables.{tables}
use Rattle.target_mgr.specs.declared.targets.Targets.{Targets}
use Rattle.target_mgr.specs.Tables.{renderbuffers, framebuffers}

-- the images of these textures and renderbuffers, for a default framebuffer of these sides
abbrev pub drawable : Surface → Textures → Targets → Drawable
drawable surface t g = record { surface = surface; textures = (tables t).objects; renderbuffers = (renderbuffers g).objects; target = target_of (framebuffers g) }
