-- The own laws of the commands on objects, a line each.
use Rattle.std.proofs.Common.{◌≡◌, ℕ, false, List, None}
use Rattle.gl_plain.specs.declared.commands.ObjectCommand.{ObjectCommand}
use Rattle.gl_plain.specs.declared.commands.ObjectCommand.TheVariants.{GenBuffers, BindBuffer, BufferData, BufferSubData, DeleteBuffers, GenTextures, BindTexture, DeleteTextures, GenRenderbuffers, BindRenderbuffer, DeleteRenderbuffers, GenFramebuffers, BindFramebuffer, DeleteFramebuffers, FramebufferTexture2D, FramebufferRenderbuffer, VertexAttrib4f, VertexAttribPointer, EnableVertexAttribArray, DisableVertexAttribArray, CreateShader, ShaderSource, CompileShader, DeleteShader, CreateProgram, AttachShader, DetachShader, BindAttribLocation, LinkProgram, ValidateProgram, UseProgram, DeleteProgram, Uniform}
use Rattle.gl_plain.specs.State.{EsState, DriverState}
use Rattle.gl_plain.specs.Agreement.{TablesAgree}
use Rattle.gl_plain.specs.object.Arguments.{object_is_bad, IsObjectData}
use Rattle.gl_plain.specs.object.Refusal.{object_command_refusal}
use Rattle.gl_laws.proofs.OwnLaws.{OwnMayGoOn, OwnLeaves}
use Rattle.gl_laws.proofs.Buffers.{gen_may, gen_leaves, bind_buffer_may, bind_buffer_leaves, buffer_data_may, buffer_data_leaves, buffer_sub_data_may, buffer_sub_data_leaves, delete_buffers_may, delete_buffers_leaves}
use Rattle.gl_laws.proofs.Textures.{gen_textures_may, gen_textures_leaves, bind_texture_may, bind_texture_leaves, delete_textures_may, delete_textures_leaves}
use Rattle.gl_laws.proofs.Renderbuffers.{gen_renderbuffers_may, gen_renderbuffers_leaves, bind_renderbuffer_may, bind_renderbuffer_leaves, delete_renderbuffers_may, delete_renderbuffers_leaves}
use Rattle.gl_laws.proofs.Framebuffers.{gen_framebuffers_may, gen_framebuffers_leaves, bind_framebuffer_may, bind_framebuffer_leaves, delete_framebuffers_may, delete_framebuffers_leaves, framebuffer_texture_may, framebuffer_texture_leaves, framebuffer_renderbuffer_may, framebuffer_renderbuffer_leaves}
use Rattle.gl_laws.proofs.Programs.{create_shader_may, create_shader_leaves, create_program_may, create_program_leaves, shader_source_may, shader_source_leaves, compile_shader_may, compile_shader_leaves, attach_shader_may, attach_shader_leaves, detach_shader_may, detach_shader_leaves, bind_attrib_location_may, bind_attrib_location_leaves}
use Rattle.gl_laws.proofs.ProgramsInUse.{delete_shader_may, delete_shader_leaves, delete_program_may, delete_program_leaves, link_program_may, link_program_leaves, validate_program_may, validate_program_leaves, use_program_may, use_program_leaves}
use Rattle.gl_laws.proofs.Uniforms.{uniform_may, uniform_leaves}
use Rattle.gl_laws.proofs.Attributes.{vertex_attrib_4f_may, vertex_attrib_4f_leaves, vertex_attrib_pointer_may, vertex_attrib_pointer_leaves, enable_may, enable_leaves, disable_may, disable_leaves}

module _ (s : EsState) (d : DriverState) (a : TablesAgree s d.tables) where
  pub object_may : (c : ObjectCommand) (payload : List ℕ) → object_is_bad s c ≡ false → object_command_refusal s c payload ≡ None → IsObjectData c payload → OwnMayGoOn s d c payload
  object_may (GenBuffers id) payload fair allowed given = gen_may s d a id payload fair
  object_may (BindBuffer target id) payload fair allowed given = bind_buffer_may s d a target id payload allowed
  object_may (BufferData target size usage words) payload fair allowed given = buffer_data_may s d a target size usage words payload allowed fair given
  object_may (BufferSubData target offset size words) payload fair allowed given = buffer_sub_data_may s d a target offset size words payload allowed fair given
  object_may (DeleteBuffers id) payload fair allowed given = delete_buffers_may s d a id payload
  object_may (GenTextures id) payload fair allowed given = gen_textures_may s d a id payload fair
  object_may (BindTexture target id) payload fair allowed given = bind_texture_may s d a target id payload allowed
  object_may (DeleteTextures id) payload fair allowed given = delete_textures_may s d a id payload
  object_may (GenRenderbuffers id) payload fair allowed given = gen_renderbuffers_may s d a id payload fair
  object_may (BindRenderbuffer target id) payload fair allowed given = bind_renderbuffer_may s d a target id payload
  object_may (DeleteRenderbuffers id) payload fair allowed given = delete_renderbuffers_may s d a id payload
  object_may (GenFramebuffers id) payload fair allowed given = gen_framebuffers_may s d a id payload fair
  object_may (BindFramebuffer target id) payload fair allowed given = bind_framebuffer_may s d a target id payload
  object_may (DeleteFramebuffers id) payload fair allowed given = delete_framebuffers_may s d a id payload
  object_may (FramebufferTexture2D target attachment textarget texture level) payload fair allowed given = framebuffer_texture_may s d a target attachment textarget texture level payload allowed
  object_may (FramebufferRenderbuffer target attachment rbtarget renderbuffer) payload fair allowed given = framebuffer_renderbuffer_may s d a target attachment rbtarget renderbuffer payload allowed
  object_may (VertexAttrib4f index x y z w) payload fair allowed given = vertex_attrib_4f_may s d a index payload x y z w allowed
  object_may (VertexAttribPointer index w) payload fair allowed given = vertex_attrib_pointer_may s d a index payload w allowed
  object_may (EnableVertexAttribArray index) payload fair allowed given = enable_may s d a index payload allowed
  object_may (DisableVertexAttribArray index) payload fair allowed given = disable_may s d a index payload allowed
  object_may (CreateShader id kind) payload fair allowed given = create_shader_may s d a id payload fair kind allowed
  object_may (ShaderSource shader words) payload fair allowed given = shader_source_may s d a shader payload words allowed
  object_may (CompileShader shader) payload fair allowed given = compile_shader_may s d a shader payload allowed
  object_may (DeleteShader shader) payload fair allowed given = delete_shader_may s d a payload shader allowed
  object_may (CreateProgram id) payload fair allowed given = create_program_may s d a id payload fair
  object_may (AttachShader program shader) payload fair allowed given = attach_shader_may s d a program shader payload allowed
  object_may (DetachShader program shader) payload fair allowed given = detach_shader_may s d a program shader payload allowed
  object_may (BindAttribLocation program index words) payload fair allowed given = bind_attrib_location_may s d a program index words payload allowed
  object_may (LinkProgram program) payload fair allowed given = link_program_may s d a program payload
  object_may (ValidateProgram program) payload fair allowed given = validate_program_may s d a program payload
  object_may (UseProgram program) payload fair allowed given = use_program_may s d a program payload allowed
  object_may (DeleteProgram program) payload fair allowed given = delete_program_may s d a payload program allowed
  object_may (Uniform location kind count transpose words) payload fair allowed given = uniform_may s d a location kind count transpose words payload allowed fair given

  pub object_leaves : (c : ObjectCommand) (payload : List ℕ) → object_is_bad s c ≡ false → object_command_refusal s c payload ≡ None → OwnLeaves s d c payload
  object_leaves (GenBuffers id) payload fair allowed = gen_leaves s d a id payload fair
  object_leaves (BindBuffer target id) payload fair allowed = bind_buffer_leaves s d a target id payload allowed
  object_leaves (BufferData target size usage words) payload fair allowed = buffer_data_leaves s d a target size usage words payload allowed
  object_leaves (BufferSubData target offset size words) payload fair allowed = buffer_sub_data_leaves s d a target offset size words payload allowed
  object_leaves (DeleteBuffers id) payload fair allowed = delete_buffers_leaves s d a id payload
  object_leaves (GenTextures id) payload fair allowed = gen_textures_leaves s d a id payload fair
  object_leaves (BindTexture target id) payload fair allowed = bind_texture_leaves s d a target id payload allowed
  object_leaves (DeleteTextures id) payload fair allowed = delete_textures_leaves s d a id payload
  object_leaves (GenRenderbuffers id) payload fair allowed = gen_renderbuffers_leaves s d a id payload fair
  object_leaves (BindRenderbuffer target id) payload fair allowed = bind_renderbuffer_leaves s d a target id payload
  object_leaves (DeleteRenderbuffers id) payload fair allowed = delete_renderbuffers_leaves s d a id payload
  object_leaves (GenFramebuffers id) payload fair allowed = gen_framebuffers_leaves s d a id payload fair
  object_leaves (BindFramebuffer target id) payload fair allowed = bind_framebuffer_leaves s d a target id payload
  object_leaves (DeleteFramebuffers id) payload fair allowed = delete_framebuffers_leaves s d a id payload
  object_leaves (FramebufferTexture2D target attachment textarget texture level) payload fair allowed = framebuffer_texture_leaves s d a target attachment textarget texture level payload
  object_leaves (FramebufferRenderbuffer target attachment rbtarget renderbuffer) payload fair allowed = framebuffer_renderbuffer_leaves s d a target attachment rbtarget renderbuffer payload
  object_leaves (VertexAttrib4f index x y z w) payload fair allowed = vertex_attrib_4f_leaves s d a index payload x y z w
  object_leaves (VertexAttribPointer index w) payload fair allowed = vertex_attrib_pointer_leaves s d a index payload w
  object_leaves (EnableVertexAttribArray index) payload fair allowed = enable_leaves s d a index payload
  object_leaves (DisableVertexAttribArray index) payload fair allowed = disable_leaves s d a index payload
  object_leaves (CreateShader id kind) payload fair allowed = create_shader_leaves s d a id payload fair kind
  object_leaves (ShaderSource shader words) payload fair allowed = shader_source_leaves s d a shader payload words
  object_leaves (CompileShader shader) payload fair allowed = compile_shader_leaves s d a shader payload
  object_leaves (DeleteShader shader) payload fair allowed = delete_shader_leaves s d a payload shader
  object_leaves (CreateProgram id) payload fair allowed = create_program_leaves s d a id payload fair
  object_leaves (AttachShader program shader) payload fair allowed = attach_shader_leaves s d a program shader payload
  object_leaves (DetachShader program shader) payload fair allowed = detach_shader_leaves s d a program shader payload
  object_leaves (BindAttribLocation program index words) payload fair allowed = bind_attrib_location_leaves s d a program index words payload
  object_leaves (LinkProgram program) payload fair allowed = link_program_leaves s d a program payload
  object_leaves (ValidateProgram program) payload fair allowed = validate_program_leaves s d a program payload
  object_leaves (UseProgram program) payload fair allowed = use_program_leaves s d a program payload allowed
  object_leaves (DeleteProgram program) payload fair allowed = delete_program_leaves s d a payload program
  object_leaves (Uniform location kind count transpose words) payload fair allowed = uniform_leaves s d a location kind count transpose words payload allowed fair
