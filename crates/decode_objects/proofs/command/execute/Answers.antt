use Rattle.std.proofs.Common.{◌≡◌, ℤ, false, None, length, refl, sym, subst, rules, [], of_z, to_z}
use Rattle.std.specs.Int.{w32}
use Rattle.gl_plain.specs.declared.driver_calls.DriverCall.TheVariants.{Object, Program}
use Rattle.gl_plain.specs.declared.driver_calls.ObjectDriver.TheVariants.{BufferData, BufferSubData, FramebufferTexture, FramebufferRenderbuffer}
use Rattle.gl_plain.specs.declared.driver_calls.ProgramDriver.TheVariants as program_calls
use Rattle.std.specs.FinMap as map
use Rattle.gl_plain.specs.subjects.Data.{bytes_of, payload_of, IsData}
use Rattle.gl_plain.specs.subjects.Names.{number_named}
use Rattle.gl_plain.specs.subjects.Programs.{number_of}
use Rattle.gl_plain.specs.subjects.Uniforms.{uniform_needed, uniform_is_bad, uniform_refusal, uniform_calls}
use Rattle.gl_plain.specs.Oracle.{default_answers}
use Rattle.gl_driver.proofs.Exits.{passes_at_once, widens}
use Rattle.texture_mgr.specs.Tables as textures_as
use Rattle.target_mgr.specs.Tables.{renderbuffers}
use Rattle.program_mgr.specs.Tables.{tables}
use Rattle.decode_objects.specs.States.{objects_in}
use Rattle.decode_objects.specs.Ready.{MayMake}
use Rattle.decode_objects.proofs.Full.{uniform_kind, uniform_size, uniform_untransposed, of_same}
use Rattle.decode_objects.proofs.command.execute.Goals as goal

pub bind_buffer-requires-clause-may : goal.bind_buffer-requires-clause-may
bind_buffer-requires-clause-may g c = rw c.in-BindBuffer.is at c.requires.may

pub bind_texture-requires-clause-may : goal.bind_texture-requires-clause-may
bind_texture-requires-clause-may g c = rw c.in-BindTexture.is at c.requires.may

pub buffer_data-requires-clause-allowed : goal.buffer_data-requires-clause-allowed
buffer_data-requires-clause-allowed g c =
    let may = (rw c.in-BufferData.is at c.requires.may) default_answers [] (Object (BufferData c.in-BufferData.target (bytes_of (payload_of c.in-BufferData.words c.args.payload.now) c.in-BufferData.size) c.in-BufferData.usage)) [] tt refl in
    search rules

pub buffer_sub_data-requires-clause-allowed : goal.buffer_sub_data-requires-clause-allowed
buffer_sub_data-requires-clause-allowed g c =
    let may = (rw c.in-BufferSubData.is at c.requires.may) default_answers [] (Object (BufferSubData c.in-BufferSubData.target c.in-BufferSubData.offset c.args.payload.now)) [] tt refl in
    search rules

pub delete_buffers-requires : goal.delete_buffers-requires
delete_buffers-requires g c = record { may = rw c.in-DeleteBuffers.is at c.requires.may }

pub delete_textures-requires : goal.delete_textures-requires
delete_textures-requires g c = record { may = rw c.in-DeleteTextures.is at c.requires.may }

pub returns-in_err-bytes-in-BufferData : goal.returns-in_err-bytes-in-BufferData
returns-in_err-bytes-in-BufferData g c = passes_at_once g.met.D.Driver.grown_itself c.from_residual.result c.from_residual.ensures.1

pub returns-in_ok-bytes-in-BufferData : goal.returns-in_ok-bytes-in-BufferData
returns-in_ok-bytes-in-BufferData g c =
    let same : c.in_ok-bytes-in-BufferData.bytes ≡ bytes_of (payload_of c.in-BufferData.words c.args.payload.now) c.in-BufferData.size = search rules in
    rw c.in-BufferData.is (widens (objects_in c.args.buffers.now c.args.textures.now c.args.targets.now c.args.programs.now c.args.attribs.now c.args.errors.now) (c.buffer_data.ensures c.in-BufferData.size c.in-BufferData.words c.args.payload.now same))

pub returns-in-GenBuffers : goal.returns-in-GenBuffers
returns-in-GenBuffers g c = rw c.in-GenBuffers.is (widens (objects_in c.args.buffers.now c.args.textures.now c.args.targets.now c.args.programs.now c.args.attribs.now c.args.errors.now) c.gen_buffers.ensures)

pub returns-in-GenTextures : goal.returns-in-GenTextures
returns-in-GenTextures g c = rw c.in-GenTextures.is (widens (objects_in c.args.buffers.now c.args.textures.now c.args.targets.now c.args.programs.now c.args.attribs.now c.args.errors.now) c.gen_textures.ensures)

pub returns-in-BindBuffer : goal.returns-in-BindBuffer
returns-in-BindBuffer g c = rw c.in-BindBuffer.is (widens (objects_in c.args.buffers.now c.args.textures.now c.args.targets.now c.args.programs.now c.args.attribs.now c.args.errors.now) c.bind_buffer.ensures)

pub returns-in-BindTexture : goal.returns-in-BindTexture
returns-in-BindTexture g c = rw c.in-BindTexture.is (widens (objects_in c.args.buffers.now c.args.textures.now c.args.targets.now c.args.programs.now c.args.attribs.now c.args.errors.now) c.bind_texture.ensures)

pub returns-in-BufferSubData : goal.returns-in-BufferSubData
returns-in-BufferSubData g c =
    let same : to_z w32 (of_z w32 c.in-BufferSubData.offset) ≡ c.in-BufferSubData.offset = search rules in
    rw (c.in-BufferSubData.is, ← same) (widens (objects_in c.args.buffers.now c.args.textures.now c.args.targets.now c.args.programs.now c.args.attribs.now c.args.errors.now) (c.buffer_sub_data.ensures c.in-BufferSubData.size c.in-BufferSubData.words))

pub returns-in-DeleteBuffers : goal.returns-in-DeleteBuffers
returns-in-DeleteBuffers g c = rw c.in-DeleteBuffers.is (widens (objects_in c.args.buffers.now c.args.textures.now c.args.targets.now c.args.programs.now c.args.attribs.now c.args.errors.now) c.delete_buffers.ensures)

pub returns-in-DeleteTextures : goal.returns-in-DeleteTextures
returns-in-DeleteTextures g c = rw c.in-DeleteTextures.is (widens (objects_in c.args.buffers.now c.args.textures.now c.args.targets.now c.args.programs.now c.args.attribs.now c.args.errors.now) c.delete_textures.ensures)

pub returns-in-VertexAttrib4f : goal.returns-in-VertexAttrib4f
returns-in-VertexAttrib4f g c = rw c.in-VertexAttrib4f.is (widens (objects_in c.args.buffers.now c.args.textures.now c.args.targets.now c.args.programs.now c.args.attribs.now c.args.errors.now) c.vertex_attrib_4f.ensures)

pub returns-in-VertexAttribPointer : goal.returns-in-VertexAttribPointer
returns-in-VertexAttribPointer g c = rw c.in-VertexAttribPointer.is (widens (objects_in c.args.buffers.now c.args.textures.now c.args.targets.now c.args.programs.now c.args.attribs.now c.args.errors.now) c.vertex_attrib_pointer.ensures)

pub returns-in-EnableVertexAttribArray : goal.returns-in-EnableVertexAttribArray
returns-in-EnableVertexAttribArray g c = rw c.in-EnableVertexAttribArray.is (widens (objects_in c.args.buffers.now c.args.textures.now c.args.targets.now c.args.programs.now c.args.attribs.now c.args.errors.now) c.enable_vertex_attrib_array.ensures)

pub returns-in-DisableVertexAttribArray : goal.returns-in-DisableVertexAttribArray
returns-in-DisableVertexAttribArray g c = rw c.in-DisableVertexAttribArray.is (widens (objects_in c.args.buffers.now c.args.textures.now c.args.targets.now c.args.programs.now c.args.attribs.now c.args.errors.now) c.disable_vertex_attrib_array.ensures)

pub shader_source-requires : goal.shader_source-requires
shader_source-requires g c =
    let may = (rw c.in-ShaderSource.is at c.requires.may) default_answers [] (Program (program_calls.ShaderSource (number_of (tables c.args.programs.now) c.in-ShaderSource.shader) c.args.payload.now)) [] tt refl in
    search rules

pub compile_shader-requires : goal.compile_shader-requires
compile_shader-requires g c =
    let may = (rw c.in-CompileShader.is at c.requires.may) default_answers [] (Program (program_calls.CompileShader (number_of (tables c.args.programs.now) c.in-CompileShader.shader))) [] tt refl in
    search rules

pub delete_shader-requires : goal.delete_shader-requires
delete_shader-requires g c = record { may = rw c.in-DeleteShader.is at c.requires.may }

pub delete_program-requires : goal.delete_program-requires
delete_program-requires g c = record { may = rw c.in-DeleteProgram.is at c.requires.may }

pub attach_shader-requires-clause-allowed : goal.attach_shader-requires-clause-allowed
attach_shader-requires-clause-allowed g c =
    let may = (rw c.in-AttachShader.is at c.requires.may) default_answers [] (Program (program_calls.AttachShader (number_of (tables c.args.programs.now) c.in-AttachShader.program) (number_of (tables c.args.programs.now) c.in-AttachShader.shader))) [] tt refl in
    search rules

pub detach_shader-requires-clause-allowed : goal.detach_shader-requires-clause-allowed
detach_shader-requires-clause-allowed g c =
    let may = (rw c.in-DetachShader.is at c.requires.may) default_answers [] (Program (program_calls.DetachShader (number_of (tables c.args.programs.now) c.in-DetachShader.program) (number_of (tables c.args.programs.now) c.in-DetachShader.shader))) [] tt refl in
    search rules

pub bind_attrib_location-requires : goal.bind_attrib_location-requires
bind_attrib_location-requires g c =
    let may = (rw c.in-BindAttribLocation.is at c.requires.may) default_answers [] (Program (program_calls.BindAttribLocation (number_of (tables c.args.programs.now) c.in-BindAttribLocation.program) c.in-BindAttribLocation.index c.args.payload.now)) [] tt refl in
    search rules

pub link_program-requires-clause-may : goal.link_program-requires-clause-may
link_program-requires-clause-may g c = rw c.in-LinkProgram.is at c.requires.may

pub validate_program-requires-clause-may : goal.validate_program-requires-clause-may
validate_program-requires-clause-may g c = rw c.in-ValidateProgram.is at c.requires.may

pub use_program-requires : goal.use_program-requires
use_program-requires g c =
    let may = (rw c.in-UseProgram.is at c.requires.may) default_answers [] (Program (program_calls.UseProgram (number_of (tables c.args.programs.now) c.in-UseProgram.program))) [] tt refl in
    search rules

pub uniform-requires-clause-given : goal.uniform-requires-clause-given
uniform-requires-clause-given g c =
    let fair : uniform_is_bad c.in-Uniform.kind c.in-Uniform.count c.in-Uniform.words ≡ false = rw c.in-Uniform.is at c.requires.fair in
    uniform_kind c.in-Uniform.kind c.in-Uniform.count c.in-Uniform.words c.args.payload.now fair

pub uniform-requires-clause-size : goal.uniform-requires-clause-size
uniform-requires-clause-size g c =
    let fair : uniform_is_bad c.in-Uniform.kind c.in-Uniform.count c.in-Uniform.words ≡ false = rw c.in-Uniform.is at c.requires.fair in
    let given : IsData c.in-Uniform.words c.args.payload.now = rw c.in-Uniform.is at c.requires.given in
    let same : to_z w32 (of_z w32 c.in-Uniform.count) ≡ c.in-Uniform.count = search rules in
    subst (λ (n : ℤ). length c.args.payload.now ≡ uniform_needed c.in-Uniform.kind n) (sym same) (uniform_size c.in-Uniform.kind c.in-Uniform.count c.in-Uniform.words c.args.payload.now fair given)

pub uniform-requires-clause-taken : goal.uniform-requires-clause-taken
uniform-requires-clause-taken g c =
    let taken : uniform_refusal (tables c.args.programs.now).installed c.in-Uniform.location c.in-Uniform.kind c.in-Uniform.count c.in-Uniform.transpose c.args.payload.now ≡ None = rw c.in-Uniform.is at c.requires.taken in
    let place : to_z w32 (of_z w32 c.in-Uniform.location) ≡ c.in-Uniform.location = search rules in
    let same : to_z w32 (of_z w32 c.in-Uniform.count) ≡ c.in-Uniform.count = search rules in
    of_same (λ (l n : ℤ). uniform_refusal (tables c.args.programs.now).installed l c.in-Uniform.kind n false c.args.payload.now ≡ None) c.in-Uniform.location (to_z w32 (of_z w32 c.in-Uniform.location)) c.in-Uniform.count (to_z w32 (of_z w32 c.in-Uniform.count)) place same
    (uniform_untransposed (tables c.args.programs.now).installed c.in-Uniform.location c.in-Uniform.kind c.in-Uniform.count c.in-Uniform.transpose c.args.payload.now taken)

pub uniform-requires-clause-may : goal.uniform-requires-clause-may
uniform-requires-clause-may g c =
    let place : to_z w32 (of_z w32 c.in-Uniform.location) ≡ c.in-Uniform.location = search rules in
    let same : to_z w32 (of_z w32 c.in-Uniform.count) ≡ c.in-Uniform.count = search rules in
    of_same (λ (l n : ℤ). MayMake (g.D.Driver.history c.args.driver.now).state (λ o. uniform_calls l c.in-Uniform.kind n c.args.payload.now)) c.in-Uniform.location (to_z w32 (of_z w32 c.in-Uniform.location)) c.in-Uniform.count (to_z w32 (of_z w32 c.in-Uniform.count)) place same
    (rw c.in-Uniform.is at c.requires.may)

pub returns-in-CreateShader : goal.returns-in-CreateShader
returns-in-CreateShader g c = rw c.in-CreateShader.is (widens (objects_in c.args.buffers.now c.args.textures.now c.args.targets.now c.args.programs.now c.args.attribs.now c.args.errors.now) c.create_shader.ensures)

pub returns-in-ShaderSource : goal.returns-in-ShaderSource
returns-in-ShaderSource g c = rw c.in-ShaderSource.is (widens (objects_in c.args.buffers.now c.args.textures.now c.args.targets.now c.args.programs.now c.args.attribs.now c.args.errors.now) (c.shader_source.ensures c.in-ShaderSource.words))

pub returns-in-CompileShader : goal.returns-in-CompileShader
returns-in-CompileShader g c = rw c.in-CompileShader.is (widens (objects_in c.args.buffers.now c.args.textures.now c.args.targets.now c.args.programs.now c.args.attribs.now c.args.errors.now) c.compile_shader.ensures)

pub returns-in-DeleteShader : goal.returns-in-DeleteShader
returns-in-DeleteShader g c = rw c.in-DeleteShader.is (widens (objects_in c.args.buffers.now c.args.textures.now c.args.targets.now c.args.programs.now c.args.attribs.now c.args.errors.now) c.delete_shader.ensures)

pub returns-in-CreateProgram : goal.returns-in-CreateProgram
returns-in-CreateProgram g c = rw c.in-CreateProgram.is (widens (objects_in c.args.buffers.now c.args.textures.now c.args.targets.now c.args.programs.now c.args.attribs.now c.args.errors.now) c.create_program.ensures)

pub returns-in-AttachShader : goal.returns-in-AttachShader
returns-in-AttachShader g c = rw c.in-AttachShader.is (widens (objects_in c.args.buffers.now c.args.textures.now c.args.targets.now c.args.programs.now c.args.attribs.now c.args.errors.now) c.attach_shader.ensures)

pub returns-in-DetachShader : goal.returns-in-DetachShader
returns-in-DetachShader g c = rw c.in-DetachShader.is (widens (objects_in c.args.buffers.now c.args.textures.now c.args.targets.now c.args.programs.now c.args.attribs.now c.args.errors.now) c.detach_shader.ensures)

pub returns-in-BindAttribLocation : goal.returns-in-BindAttribLocation
returns-in-BindAttribLocation g c = rw c.in-BindAttribLocation.is (widens (objects_in c.args.buffers.now c.args.textures.now c.args.targets.now c.args.programs.now c.args.attribs.now c.args.errors.now) (c.bind_attrib_location.ensures c.in-BindAttribLocation.words))

pub returns-in-LinkProgram : goal.returns-in-LinkProgram
returns-in-LinkProgram g c = rw c.in-LinkProgram.is (widens (objects_in c.args.buffers.now c.args.textures.now c.args.targets.now c.args.programs.now c.args.attribs.now c.args.errors.now) c.link_program.ensures)

pub returns-in-ValidateProgram : goal.returns-in-ValidateProgram
returns-in-ValidateProgram g c = rw c.in-ValidateProgram.is (widens (objects_in c.args.buffers.now c.args.textures.now c.args.targets.now c.args.programs.now c.args.attribs.now c.args.errors.now) c.validate_program.ensures)

pub returns-in-UseProgram : goal.returns-in-UseProgram
returns-in-UseProgram g c = rw c.in-UseProgram.is (widens (objects_in c.args.buffers.now c.args.textures.now c.args.targets.now c.args.programs.now c.args.attribs.now c.args.errors.now) c.use_program.ensures)

pub returns-in-DeleteProgram : goal.returns-in-DeleteProgram
returns-in-DeleteProgram g c = rw c.in-DeleteProgram.is (widens (objects_in c.args.buffers.now c.args.textures.now c.args.targets.now c.args.programs.now c.args.attribs.now c.args.errors.now) c.delete_program.ensures)

pub returns-in-Uniform : goal.returns-in-Uniform
returns-in-Uniform g c =
    let place : to_z w32 (of_z w32 c.in-Uniform.location) ≡ c.in-Uniform.location = search rules in
    let same : to_z w32 (of_z w32 c.in-Uniform.count) ≡ c.in-Uniform.count = search rules in
    rw (c.in-Uniform.is, ← place, ← same) (widens (objects_in c.args.buffers.now c.args.textures.now c.args.targets.now c.args.programs.now c.args.attribs.now c.args.errors.now) (c.uniform.ensures c.in-Uniform.transpose c.in-Uniform.words))

pub bind_renderbuffer-requires-clause-may : goal.bind_renderbuffer-requires-clause-may
bind_renderbuffer-requires-clause-may g c = rw c.in-BindRenderbuffer.is at c.requires.may

pub bind_framebuffer-requires-clause-may : goal.bind_framebuffer-requires-clause-may
bind_framebuffer-requires-clause-may g c = rw c.in-BindFramebuffer.is at c.requires.may

pub delete_renderbuffers-requires : goal.delete_renderbuffers-requires
delete_renderbuffers-requires g c = record { may = rw c.in-DeleteRenderbuffers.is at c.requires.may }

pub delete_framebuffers-requires : goal.delete_framebuffers-requires
delete_framebuffers-requires g c = record { may = rw c.in-DeleteFramebuffers.is at c.requires.may }

pub framebuffer_texture_2d-requires-clause-allowed : goal.framebuffer_texture_2d-requires-clause-allowed
framebuffer_texture_2d-requires-clause-allowed g c =
    let number = number_named (map.get (textures_as.tables c.args.textures.now).names c.in-FramebufferTexture2D.texture) in
    let may = (rw c.in-FramebufferTexture2D.is at c.requires.may) default_answers [] (Object (FramebufferTexture c.in-FramebufferTexture2D.attachment c.in-FramebufferTexture2D.textarget number)) [] tt refl in
    search rules

pub framebuffer_renderbuffer-requires-clause-allowed : goal.framebuffer_renderbuffer-requires-clause-allowed
framebuffer_renderbuffer-requires-clause-allowed g c =
    let number = number_named (map.get (renderbuffers c.args.targets.now).names c.in-FramebufferRenderbuffer.renderbuffer) in
    let may = (rw c.in-FramebufferRenderbuffer.is at c.requires.may) default_answers [] (Object (FramebufferRenderbuffer c.in-FramebufferRenderbuffer.attachment number)) [] tt refl in
    search rules

pub returns-in-GenRenderbuffers : goal.returns-in-GenRenderbuffers
returns-in-GenRenderbuffers g c = rw c.in-GenRenderbuffers.is (widens (objects_in c.args.buffers.now c.args.textures.now c.args.targets.now c.args.programs.now c.args.attribs.now c.args.errors.now) c.gen_renderbuffers.ensures)

pub returns-in-BindRenderbuffer : goal.returns-in-BindRenderbuffer
returns-in-BindRenderbuffer g c = rw c.in-BindRenderbuffer.is (widens (objects_in c.args.buffers.now c.args.textures.now c.args.targets.now c.args.programs.now c.args.attribs.now c.args.errors.now) c.bind_renderbuffer.ensures)

pub returns-in-DeleteRenderbuffers : goal.returns-in-DeleteRenderbuffers
returns-in-DeleteRenderbuffers g c = rw c.in-DeleteRenderbuffers.is (widens (objects_in c.args.buffers.now c.args.textures.now c.args.targets.now c.args.programs.now c.args.attribs.now c.args.errors.now) c.delete_renderbuffers.ensures)

pub returns-in-GenFramebuffers : goal.returns-in-GenFramebuffers
returns-in-GenFramebuffers g c = rw c.in-GenFramebuffers.is (widens (objects_in c.args.buffers.now c.args.textures.now c.args.targets.now c.args.programs.now c.args.attribs.now c.args.errors.now) c.gen_framebuffers.ensures)

pub returns-in-BindFramebuffer : goal.returns-in-BindFramebuffer
returns-in-BindFramebuffer g c = rw c.in-BindFramebuffer.is (widens (objects_in c.args.buffers.now c.args.textures.now c.args.targets.now c.args.programs.now c.args.attribs.now c.args.errors.now) c.bind_framebuffer.ensures)

pub returns-in-DeleteFramebuffers : goal.returns-in-DeleteFramebuffers
returns-in-DeleteFramebuffers g c = rw c.in-DeleteFramebuffers.is (widens (objects_in c.args.buffers.now c.args.textures.now c.args.targets.now c.args.programs.now c.args.attribs.now c.args.errors.now) c.delete_framebuffers.ensures)

pub returns-in-FramebufferTexture2D : goal.returns-in-FramebufferTexture2D
returns-in-FramebufferTexture2D g c = rw c.in-FramebufferTexture2D.is (widens (objects_in c.args.buffers.now c.args.textures.now c.args.targets.now c.args.programs.now c.args.attribs.now c.args.errors.now) (c.framebuffer_texture_2d.ensures c.in-FramebufferTexture2D.target c.in-FramebufferTexture2D.level))

pub returns-in-FramebufferRenderbuffer : goal.returns-in-FramebufferRenderbuffer
returns-in-FramebufferRenderbuffer g c = rw c.in-FramebufferRenderbuffer.is (widens (objects_in c.args.buffers.now c.args.textures.now c.args.targets.now c.args.programs.now c.args.attribs.now c.args.errors.now) (c.framebuffer_renderbuffer.ensures c.in-FramebufferRenderbuffer.target c.in-FramebufferRenderbuffer.rbtarget))
