-- The argument rules of the commands on objects.
use Rattle.std.specs.Prelude.{Bool, false, List, ℕ, Option, None, Some}
use Rattle.gl_plain.specs.declared.commands.DataWords.{DataWords}
use Rattle.gl_plain.specs.declared.commands.ObjectCommand.{ObjectCommand}
use Rattle.gl_plain.specs.declared.commands.ObjectCommand.TheVariants.{GenBuffers, BindBuffer, BufferData, BufferSubData, DeleteBuffers, GenTextures, BindTexture, DeleteTextures, GenRenderbuffers, BindRenderbuffer, DeleteRenderbuffers, GenFramebuffers, BindFramebuffer, DeleteFramebuffers, FramebufferTexture2D, FramebufferRenderbuffer, VertexAttrib4f, VertexAttribPointer, EnableVertexAttribArray, DisableVertexAttribArray, CreateShader, ShaderSource, CompileShader, DeleteShader, CreateProgram, AttachShader, DetachShader, BindAttribLocation, LinkProgram, ValidateProgram, UseProgram, DeleteProgram, Uniform}
use Rattle.gl_plain.specs.subjects.Data.{IsData}
use Rattle.gl_plain.specs.subjects.Buffers.{gen_buffers_is_bad, bind_buffer_is_bad, buffer_data_is_bad, buffer_sub_data_is_bad}
use Rattle.gl_plain.specs.subjects.Names.{gen_is_bad, bind_is_bad}
use Rattle.gl_plain.specs.subjects.Programs.{create_is_bad, shader_source_is_bad, bind_attrib_location_is_bad}
use Rattle.gl_plain.specs.subjects.Uniforms.{uniform_is_bad}
use Rattle.gl_plain.specs.State.{EsState}
use Rattle.gl_plain.specs.object.Commands.{object_data_words}

-- an argument rule of a command on objects is broken, other than those on buckets
abbrev pub object_is_bad : EsState → ObjectCommand → Bool
object_is_bad s (GenBuffers id) = gen_buffers_is_bad s.buffers.names id
object_is_bad s (BindBuffer target id) = bind_buffer_is_bad id
object_is_bad s (BufferData target size usage words) = buffer_data_is_bad size words
object_is_bad s (BufferSubData target offset size words) = buffer_sub_data_is_bad size words
object_is_bad s (DeleteBuffers id) = false
object_is_bad s (GenTextures id) = gen_is_bad s.textures.names id
object_is_bad s (BindTexture target id) = bind_is_bad id
object_is_bad s (DeleteTextures id) = false
object_is_bad s (GenRenderbuffers id) = gen_is_bad s.renderbuffers.names id
object_is_bad s (BindRenderbuffer target id) = bind_is_bad id
object_is_bad s (DeleteRenderbuffers id) = false
object_is_bad s (GenFramebuffers id) = gen_is_bad s.framebuffers.names id
object_is_bad s (BindFramebuffer target id) = bind_is_bad id
object_is_bad s (DeleteFramebuffers id) = false
object_is_bad s (FramebufferTexture2D target attachment textarget texture level) = false
object_is_bad s (FramebufferRenderbuffer target attachment rbtarget renderbuffer) = false
object_is_bad s (VertexAttrib4f index x y z w) = false
object_is_bad s (VertexAttribPointer index a) = false
object_is_bad s (EnableVertexAttribArray index) = false
object_is_bad s (DisableVertexAttribArray index) = false
object_is_bad s (CreateShader id kind) = create_is_bad s.programs.names id
object_is_bad s (ShaderSource shader words) = shader_source_is_bad words
object_is_bad s (CompileShader shader) = false
object_is_bad s (DeleteShader shader) = false
object_is_bad s (CreateProgram id) = create_is_bad s.programs.names id
object_is_bad s (AttachShader program shader) = false
object_is_bad s (DetachShader program shader) = false
object_is_bad s (BindAttribLocation program index words) = bind_attrib_location_is_bad words
object_is_bad s (LinkProgram program) = false
object_is_bad s (ValidateProgram program) = false
object_is_bad s (UseProgram program) = false
object_is_bad s (DeleteProgram program) = false
object_is_bad s (Uniform location kind count transpose words) = uniform_is_bad kind count words

-- the bytes that a command has as its data are those that its words name
abbrev pub IsDataOf : Option DataWords → List ℕ → Type 0
IsDataOf None payload = Unit {0}
IsDataOf (Some words) payload = IsData words payload

abbrev pub IsObjectData : ObjectCommand → List ℕ → Type 0
IsObjectData c payload = IsDataOf (object_data_words c) payload
