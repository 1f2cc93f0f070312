-- The code that a call on objects is refused with: the first whose condition holds, in the order INVALID_ENUM, INVALID_VALUE, OUT_OF_MEMORY by
-- a limit, INVALID_FRAMEBUFFER_OPERATION, INVALID_OPERATION.
use Rattle.std.specs.Prelude.{ℕ, pos, List, Option, None}
use Rattle.gl_plain.specs.declared.errors.GlError.{GlError}
use Rattle.gl_plain.specs.declared.calls.ObjectCall.{ObjectCall}
use Rattle.gl_plain.specs.declared.calls.ObjectCall.TheVariants as calls
use Rattle.gl_plain.specs.declared.commands.ObjectCommand.{ObjectCommand}
use Rattle.gl_plain.specs.declared.commands.ObjectCommand.TheVariants.{GenBuffers, BindBuffer, BufferData, BufferSubData, DeleteBuffers, GenTextures, BindTexture, DeleteTextures, GenRenderbuffers, BindRenderbuffer, DeleteRenderbuffers, GenFramebuffers, BindFramebuffer, DeleteFramebuffers, FramebufferTexture2D, FramebufferRenderbuffer, VertexAttrib4f, VertexAttribPointer, EnableVertexAttribArray, DisableVertexAttribArray, CreateShader, ShaderSource, CompileShader, DeleteShader, CreateProgram, AttachShader, DetachShader, BindAttribLocation, LinkProgram, ValidateProgram, UseProgram, DeleteProgram, Uniform}
use Rattle.gl_plain.specs.subjects.Names.{gen_refusal}
use Rattle.gl_base.specs.declared.target_enums.TheConstants.{FRAMEBUFFER, RENDERBUFFER}
use Rattle.gl_plain.specs.subjects.Targets.{bind_refusal, framebuffer_texture_refusal, framebuffer_renderbuffer_refusal}
use Rattle.gl_plain.specs.subjects.Buffers.{gen_buffers_refusal, bind_buffer_refusal, buffer_data_refusal, buffer_sub_data_refusal}
use Rattle.gl_plain.specs.subjects.Attributes.{attribute_refusal, vertex_attrib_pointer_refusal}
use Rattle.gl_plain.specs.subjects.Textures.{gen_textures_refusal, bind_texture_refusal}
use Rattle.gl_plain.specs.subjects.Programs.{create_shader_refusal, create_program_refusal, shader_refusal, program_refusal, delete_shader_refusal, delete_program_refusal, attach_shader_refusal, detach_shader_refusal, bind_attrib_location_refusal, use_program_refusal}
use Rattle.gl_plain.specs.subjects.Uniforms.{uniform_refusal}
use Rattle.gl_plain.specs.subjects.Data.{data_in}
use Rattle.gl_plain.specs.State.{EsState}

-- the refusal of a call
abbrev pub object_refusal : EsState → ObjectCall → Option GlError
object_refusal s (calls.GenBuffers count) = gen_refusal s.buffers.names count
object_refusal s (calls.BindBuffer target buffer) = bind_buffer_refusal s.buffers target buffer
object_refusal s (calls.BufferData target size «data» usage) = buffer_data_refusal s.buffers target size usage
object_refusal s (calls.BufferSubData target offset size «data») = buffer_sub_data_refusal s.buffers target offset size
object_refusal s (calls.DeleteBuffers buffers) = None
object_refusal s (calls.GenTextures count) = gen_refusal s.textures.names count
object_refusal s (calls.BindTexture target texture) = bind_texture_refusal s.textures target texture
object_refusal s (calls.DeleteTextures textures) = None
object_refusal s (calls.GenRenderbuffers count) = gen_refusal s.renderbuffers.names count
object_refusal s (calls.BindRenderbuffer target renderbuffer) = bind_refusal RENDERBUFFER s.renderbuffers target renderbuffer
object_refusal s (calls.DeleteRenderbuffers renderbuffers) = None
object_refusal s (calls.GenFramebuffers count) = gen_refusal s.framebuffers.names count
object_refusal s (calls.BindFramebuffer target framebuffer) = bind_refusal FRAMEBUFFER s.framebuffers target framebuffer
object_refusal s (calls.DeleteFramebuffers framebuffers) = None
object_refusal s (calls.FramebufferTexture2D target attachment textarget texture level) = framebuffer_texture_refusal s.framebuffers s.textures target attachment textarget texture level
object_refusal s (calls.FramebufferRenderbuffer target attachment rbtarget renderbuffer) = framebuffer_renderbuffer_refusal s.framebuffers s.renderbuffers target attachment rbtarget renderbuffer
object_refusal s (calls.VertexAttrib4f index x y z w) = attribute_refusal index
object_refusal s (calls.VertexAttribPointer index size kind normalized stride pointer) = vertex_attrib_pointer_refusal index size kind stride
object_refusal s (calls.EnableVertexAttribArray index) = attribute_refusal index
object_refusal s (calls.DisableVertexAttribArray index) = attribute_refusal index
object_refusal s (calls.CreateShader kind) = create_shader_refusal s.programs kind
object_refusal s (calls.ShaderSource shader source) = shader_refusal s.programs shader
object_refusal s (calls.CompileShader shader) = shader_refusal s.programs shader
object_refusal s (calls.DeleteShader shader) = delete_shader_refusal s.programs shader
object_refusal s calls.CreateProgram = create_program_refusal s.programs
object_refusal s (calls.AttachShader program shader) = attach_shader_refusal s.programs program shader
object_refusal s (calls.DetachShader program shader) = detach_shader_refusal s.programs program shader
object_refusal s (calls.BindAttribLocation program index name) = bind_attrib_location_refusal s.programs program index name
object_refusal s (calls.LinkProgram program) = program_refusal s.programs program
object_refusal s (calls.ValidateProgram program) = program_refusal s.programs program
object_refusal s (calls.UseProgram program) = use_program_refusal s.programs program
object_refusal s (calls.DeleteProgram program) = delete_program_refusal s.programs program
object_refusal s (calls.Uniform location kind count transpose values) = uniform_refusal s.programs.installed location kind count transpose (data_in values)

-- the refusal of a command, with its data: that of its call, but a reserved name is not counted
abbrev pub object_command_refusal : EsState → ObjectCommand → List ℕ → Option GlError
object_command_refusal s (GenBuffers id) payload = gen_buffers_refusal s.buffers id
object_command_refusal s (BindBuffer target id) payload = bind_buffer_refusal s.buffers target id
object_command_refusal s (BufferData target size usage words) payload = buffer_data_refusal s.buffers target size usage
object_command_refusal s (BufferSubData target offset size words) payload = buffer_sub_data_refusal s.buffers target offset size
object_command_refusal s (DeleteBuffers id) payload = None
object_command_refusal s (GenTextures id) payload = gen_textures_refusal s.textures
object_command_refusal s (BindTexture target id) payload = bind_texture_refusal s.textures target id
object_command_refusal s (DeleteTextures id) payload = None
object_command_refusal s (GenRenderbuffers id) payload = gen_refusal s.renderbuffers.names (pos 1)
object_command_refusal s (BindRenderbuffer target id) payload = bind_refusal RENDERBUFFER s.renderbuffers target id
object_command_refusal s (DeleteRenderbuffers id) payload = None
object_command_refusal s (GenFramebuffers id) payload = gen_refusal s.framebuffers.names (pos 1)
object_command_refusal s (BindFramebuffer target id) payload = bind_refusal FRAMEBUFFER s.framebuffers target id
object_command_refusal s (DeleteFramebuffers id) payload = None
object_command_refusal s (FramebufferTexture2D target attachment textarget texture level) payload = framebuffer_texture_refusal s.framebuffers s.textures target attachment textarget texture level
object_command_refusal s (FramebufferRenderbuffer target attachment rbtarget renderbuffer) payload = framebuffer_renderbuffer_refusal s.framebuffers s.renderbuffers target attachment rbtarget renderbuffer
object_command_refusal s (VertexAttrib4f index x y z w) payload = attribute_refusal index
object_command_refusal s (VertexAttribPointer index a) payload = vertex_attrib_pointer_refusal index a.size a.kind a.stride
object_command_refusal s (EnableVertexAttribArray index) payload = attribute_refusal index
object_command_refusal s (DisableVertexAttribArray index) payload = attribute_refusal index
object_command_refusal s (CreateShader id kind) payload = create_shader_refusal s.programs kind
object_command_refusal s (ShaderSource shader words) payload = shader_refusal s.programs shader
object_command_refusal s (CompileShader shader) payload = shader_refusal s.programs shader
object_command_refusal s (DeleteShader shader) payload = delete_shader_refusal s.programs shader
object_command_refusal s (CreateProgram id) payload = create_program_refusal s.programs
object_command_refusal s (AttachShader program shader) payload = attach_shader_refusal s.programs program shader
object_command_refusal s (DetachShader program shader) payload = detach_shader_refusal s.programs program shader
object_command_refusal s (BindAttribLocation program index words) payload = bind_attrib_location_refusal s.programs program index payload
object_command_refusal s (LinkProgram program) payload = program_refusal s.programs program
object_command_refusal s (ValidateProgram program) payload = program_refusal s.programs program
object_command_refusal s (UseProgram program) payload = use_program_refusal s.programs program
object_command_refusal s (DeleteProgram program) payload = delete_program_refusal s.programs program
object_command_refusal s (Uniform location kind count transpose words) payload = uniform_refusal s.programs.installed location kind count transpose payload
