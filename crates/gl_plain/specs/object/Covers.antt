-- What is written of images behind a command on objects: a texture that is made has none, nor has one that is deleted.
use Rattle.std.specs.Prelude.{ℕ, false, ◌==◌, if◌then◌else◌, Option, None, Some}
use Rattle.std.specs.FinMap as map
use Rattle.gl_plain.specs.declared.objects.Name.{Name}
use Rattle.gl_plain.specs.declared.commands.ObjectCommand.{ObjectCommand}
use Rattle.gl_plain.specs.declared.commands.ObjectCommand.TheVariants.{GenBuffers, BindBuffer, BufferData, BufferSubData, DeleteBuffers, GenTextures, BindTexture, DeleteTextures, GenRenderbuffers, BindRenderbuffer, DeleteRenderbuffers, GenFramebuffers, BindFramebuffer, DeleteFramebuffers, FramebufferTexture2D, FramebufferRenderbuffer, VertexAttrib4f, VertexAttribPointer, EnableVertexAttribArray, DisableVertexAttribArray, CreateShader, ShaderSource, CompileShader, DeleteShader, CreateProgram, AttachShader, DetachShader, BindAttribLocation, LinkProgram, ValidateProgram, UseProgram, DeleteProgram, Uniform}
use Rattle.gl_plain.specs.subjects.Images.{Covers, without_covers, Marks, with_mark}
use Rattle.gl_plain.specs.Oracle.{Oracle, first}
use Rattle.gl_plain.specs.State.{EsState}

-- by what the table has of the name, if anything
abbrev pub deleted_covers : Covers → Option Name → Covers
deleted_covers f None = f
deleted_covers f (Some x) = without_covers f x.number

-- by what the table has of the name, if anything: the object of a name is made at its first bind
abbrev pub bound_covers : Covers → ℕ → Oracle → Option Name → Covers
bound_covers f id o None = if id == 0 then f else without_covers f (first o.textures)
bound_covers f id o (Some x) = if x.is_object then f else without_covers f x.number

abbrev pub object_covers : EsState → ObjectCommand → Oracle → Covers → Covers
object_covers s (GenBuffers id) o f = f
object_covers s (BindBuffer target id) o f = f
object_covers s (BufferData target size usage words) o f = f
object_covers s (BufferSubData target offset size words) o f = f
object_covers s (DeleteBuffers id) o f = f
object_covers s (GenTextures id) o f = f
object_covers s (BindTexture target id) o f = bound_covers f id o (map.get s.textures.names id)
object_covers s (DeleteTextures id) o f = deleted_covers f (map.get s.textures.names id)
object_covers s (GenRenderbuffers id) o f = f
object_covers s (BindRenderbuffer target id) o f = f
object_covers s (DeleteRenderbuffers id) o f = f
object_covers s (GenFramebuffers id) o f = f
object_covers s (BindFramebuffer target id) o f = f
object_covers s (DeleteFramebuffers id) o f = f
object_covers s (FramebufferTexture2D target attachment textarget texture level) o f = f
object_covers s (FramebufferRenderbuffer target attachment rbtarget renderbuffer) o f = f
object_covers s (VertexAttrib4f index x y z w) o f = f
object_covers s (VertexAttribPointer index a) o f = f
object_covers s (EnableVertexAttribArray index) o f = f
object_covers s (DisableVertexAttribArray index) o f = f
object_covers s (CreateShader id kind) o f = f
object_covers s (ShaderSource shader words) o f = f
object_covers s (CompileShader shader) o f = f
object_covers s (DeleteShader shader) o f = f
object_covers s (CreateProgram id) o f = f
object_covers s (AttachShader program shader) o f = f
object_covers s (DetachShader program shader) o f = f
object_covers s (BindAttribLocation program index words) o f = f
object_covers s (LinkProgram program) o f = f
object_covers s (ValidateProgram program) o f = f
object_covers s (UseProgram program) o f = f
object_covers s (DeleteProgram program) o f = f
object_covers s (Uniform location kind count transpose words) o f = f

-- by what the table has of the name, if anything: the object of a name is made at its first bind
abbrev pub bound_marks : Marks → ℕ → Oracle → Option Name → Marks
bound_marks m id o None = if id == 0 then m else with_mark m (first o.renderbuffers) false
bound_marks m id o (Some x) = if x.is_object then m else with_mark m x.number false

-- by what the table has of the name, if anything
abbrev pub deleted_marks : Marks → Option Name → Marks
deleted_marks m None = m
deleted_marks m (Some x) = with_mark m x.number false

-- which renderbuffers are written behind a command: one that is made is not, nor is one that is deleted
abbrev pub object_marks : EsState → ObjectCommand → Oracle → Marks → Marks
object_marks s (GenBuffers id) o m = m
object_marks s (BindBuffer target id) o m = m
object_marks s (BufferData target size usage words) o m = m
object_marks s (BufferSubData target offset size words) o m = m
object_marks s (DeleteBuffers id) o m = m
object_marks s (GenTextures id) o m = m
object_marks s (BindTexture target id) o m = m
object_marks s (DeleteTextures id) o m = m
object_marks s (GenRenderbuffers id) o m = m
object_marks s (BindRenderbuffer target id) o m = bound_marks m id o (map.get s.renderbuffers.names id)
object_marks s (DeleteRenderbuffers id) o m = deleted_marks m (map.get s.renderbuffers.names id)
object_marks s (GenFramebuffers id) o m = m
object_marks s (BindFramebuffer target id) o m = m
object_marks s (DeleteFramebuffers id) o m = m
object_marks s (FramebufferTexture2D target attachment textarget texture level) o m = m
object_marks s (FramebufferRenderbuffer target attachment rbtarget renderbuffer) o m = m
object_marks s (VertexAttrib4f index x y z w) o m = m
object_marks s (VertexAttribPointer index a) o m = m
object_marks s (EnableVertexAttribArray index) o m = m
object_marks s (DisableVertexAttribArray index) o m = m
object_marks s (CreateShader id kind) o m = m
object_marks s (ShaderSource shader words) o m = m
object_marks s (CompileShader shader) o m = m
object_marks s (DeleteShader shader) o m = m
object_marks s (CreateProgram id) o m = m
object_marks s (AttachShader program shader) o m = m
object_marks s (DetachShader program shader) o m = m
object_marks s (BindAttribLocation program index words) o m = m
object_marks s (LinkProgram program) o m = m
object_marks s (ValidateProgram program) o m = m
object_marks s (UseProgram program) o m = m
object_marks s (DeleteProgram program) o m = m
object_marks s (Uniform location kind count transpose words) o m = m
