-- The calls on renderbuffers and framebuffers.
use Rattle.gl_plain.specs.declared.driver_calls.ObjectDriver.{ObjectDriver}
use Rattle.gl_plain.specs.declared.driver_calls.ObjectDriver.TheVariants.{GenBuffer, BindBuffer, BufferData, BufferSubData, DeleteBuffer, GenTexture, BindTexture, DeleteTexture, GenRenderbuffer, BindRenderbuffer, DeleteRenderbuffer, GenFramebuffer, BindFramebuffer, DeleteFramebuffer, FramebufferTexture, FramebufferRenderbuffer, VertexAttrib4, VertexAttribPointer, SetArray}

-- a call on objects is one on renderbuffers or framebuffers
abbrev pub IsOnTarget : ObjectDriver → Type 0
IsOnTarget GenBuffer = ⊥
IsOnTarget (BindBuffer target name) = ⊥
IsOnTarget (BufferData target bytes usage) = ⊥
IsOnTarget (BufferSubData target offset bytes) = ⊥
IsOnTarget (DeleteBuffer name) = ⊥
IsOnTarget GenTexture = ⊥
IsOnTarget (BindTexture target name) = ⊥
IsOnTarget (DeleteTexture name) = ⊥
IsOnTarget GenRenderbuffer = Unit {0}
IsOnTarget (BindRenderbuffer name) = Unit {0}
IsOnTarget (DeleteRenderbuffer name) = Unit {0}
IsOnTarget GenFramebuffer = Unit {0}
IsOnTarget (BindFramebuffer name) = Unit {0}
IsOnTarget (DeleteFramebuffer name) = Unit {0}
IsOnTarget (FramebufferTexture attachment textarget name) = Unit {0}
IsOnTarget (FramebufferRenderbuffer attachment name) = Unit {0}
IsOnTarget (VertexAttrib4 index values) = ⊥
IsOnTarget (VertexAttribPointer index size kind normalized stride offset) = ⊥
IsOnTarget (SetArray index on) = ⊥
