-- What a call on objects leaves, where it is not refused.
use Rattle.std.specs.Prelude.{ℕ, true, false, ◌==◌, if◌then◌else◌, List, [], ◌∷◌, Option, None, Some, is_some}
use Rattle.std.specs.FinMap as map
use Rattle.gl_plain.specs.declared.objects.Name.{Name}
use Rattle.gl_plain.specs.declared.errors.GlError.TheVariants.{OutOfMemory}
use Rattle.gl_plain.specs.declared.calls.Pointer.TheVariants.{Number}
use Rattle.gl_plain.specs.declared.calls.ObjectCall.{ObjectCall}
use Rattle.gl_plain.specs.declared.calls.ObjectCall.TheVariants as calls
use Rattle.gl_plain.specs.declared.calls.Reply.{Reply}
use Rattle.gl_plain.specs.declared.calls.Reply.TheVariants as reply
use Rattle.gl_plain.specs.declared.commands.ObjectCommand.{ObjectCommand}
use Rattle.gl_plain.specs.declared.commands.ObjectCommand.TheVariants.{GenBuffers, BindBuffer, BufferData, BufferSubData, DeleteBuffers, GenTextures, BindTexture, DeleteTextures, GenRenderbuffers, BindRenderbuffer, DeleteRenderbuffers, GenFramebuffers, BindFramebuffer, DeleteFramebuffers, FramebufferTexture2D, FramebufferRenderbuffer, VertexAttrib4f, VertexAttribPointer, EnableVertexAttribArray, DisableVertexAttribArray, CreateShader, ShaderSource, CompileShader, DeleteShader, CreateProgram, AttachShader, DetachShader, BindAttribLocation, LinkProgram, ValidateProgram, UseProgram, DeleteProgram, Uniform}
use Rattle.gl_plain.specs.declared.driver_calls.Stored.{Stored}
use Rattle.gl_plain.specs.declared.driver_calls.Stored.TheVariants as room
use Rattle.gl_plain.specs.Words.{natural}
use Rattle.gl_plain.specs.subjects.Names.{all_named}
use Rattle.gl_plain.specs.subjects.Data.{bytes_of, data_in}
use Rattle.gl_plain.specs.subjects.Buffers.{BufferTables, bind_buffer_effect, buffer_data_effect, buffer_sub_data_effect, without_buffer}
use Rattle.gl_plain.specs.subjects.Attributes.{vertex_attrib_4f_effect, vertex_attrib_pointer_effect, array_of, set_array_effect, all_outside}
use Rattle.gl_plain.specs.subjects.Textures.{bind_texture_effect, delete_textures_effect}
use Rattle.gl_plain.specs.subjects.Targets.{FramebufferTables, new_renderbuffer, new_framebuffer, bind_effect, delete_effect, detach_deleted, framebuffer_texture_effect, framebuffer_renderbuffer_effect}
use Rattle.gl_plain.specs.subjects.Programs.{ProgramTables, number_of, program_at, create_shader_effect, create_program_effect, shader_source_effect, compile_shader_effect, delete_shader_effect, delete_program_effect, attach_shader_effect, detach_shader_effect, bind_attrib_location_effect, can_link, link_program_effect, failed_link, validate_program_effect, validate_unlinked_effect, use_program_effect}
use Rattle.gl_plain.specs.subjects.Uniforms.{uniform_effect}
use Rattle.gl_plain.specs.declared.programs.Program.{Program}
use Rattle.gl_plain.specs.Oracle.{Oracle, first, behind, behind_all}
use Rattle.gl_plain.specs.State.{EsState}
use Rattle.gl_plain.specs.Spaces.{Space, Buffers, Textures, Renderbuffers, Framebuffers, names_in, with_names, with_name, numbers_in, with_numbers}
use Rattle.gl_plain.specs.Outcome.{Outcome, leaves, with_error}
use Rattle.gl_plain.specs.object.Commands.{object_call, names_given}

-- GenX: the names come into use, in order, with the next numbers
abbrev pub gen_outcome : Space → EsState → List ℕ → Oracle → Outcome EsState
gen_outcome space s names o = record {
  state = with_names space (all_named (names_in space s) names (numbers_in space o)) s;
  oracle = with_numbers space (behind_all names (numbers_in space o)) o;
  reply = reply.Names names;
}

-- BindX, by what the space has of the name: an unused one comes into use first, unless it is 0
abbrev pub bind_outcome : Space → (EsState → EsState) → EsState → ℕ → Oracle → Option Name → Outcome EsState
bind_outcome space bind s id o (Some x) = leaves (bind s) o
bind_outcome space bind s id o None =
    if id == 0 then leaves (bind s) o
    else leaves (bind (with_name space id (first (numbers_in space o)) s)) (with_numbers space (behind (numbers_in space o)) o)

-- where there is no room, OUT_OF_MEMORY is recorded and nothing is stored (section 2.5)
abbrev pub store_outcome : EsState → BufferTables → Oracle → Stored → Outcome EsState
store_outcome s t o room.Done = leaves (record s { buffers = t }) (record o { stored = behind o.stored })
store_outcome s t o room.Oom = leaves (with_error s OutOfMemory) (record o { stored = behind o.stored })

-- a buffer is deleted: its name, its object, and what binds it or has its array in it
abbrev pub buffer_deleted_by : EsState → ℕ → Option Name → EsState
buffer_deleted_by s id None = s
buffer_deleted_by s id (Some x) = record s { buffers = without_buffer s.buffers id x.number; attribs = all_outside s.attribs x.number }

-- the buffers of these names are deleted, in order; 0 and names that are not in use are ignored
abbrev pub buffers_deleted : EsState → List ℕ → EsState
buffers_deleted s [] = s
buffers_deleted s (id ∷ ids) = buffers_deleted (buffer_deleted_by s id (map.get s.buffers.names id)) ids

-- a texture is deleted, and detached from the framebuffer that is bound; 0 and a name that is not in use are ignored
abbrev pub texture_deleted : EsState → ℕ → EsState
texture_deleted s id = record s { textures = delete_textures_effect s.textures id; framebuffers = detach_deleted s.framebuffers true (map.get s.textures.names id) }

-- the textures of these names, in order
abbrev pub textures_deleted : EsState → List ℕ → EsState
textures_deleted s [] = s
textures_deleted s (id ∷ ids) = textures_deleted (texture_deleted s id) ids

-- a renderbuffer is deleted, and detached from the framebuffer that is bound; 0 and a name that is not in use are ignored
abbrev pub renderbuffer_deleted : EsState → ℕ → EsState
renderbuffer_deleted s id = record s { renderbuffers = delete_effect s.renderbuffers id; framebuffers = detach_deleted s.framebuffers false (map.get s.renderbuffers.names id) }

-- the renderbuffers of these names, in order
abbrev pub renderbuffers_deleted : EsState → List ℕ → EsState
renderbuffers_deleted s [] = s
renderbuffers_deleted s (id ∷ ids) = renderbuffers_deleted (renderbuffer_deleted s id) ids

-- the framebuffers of these names are deleted, in order; 0 and names that are not in use are ignored
abbrev pub framebuffers_deleted : FramebufferTables → List ℕ → FramebufferTables
framebuffers_deleted t [] = t
framebuffers_deleted t (id ∷ ids) = framebuffers_deleted (delete_effect t id) ids

-- the state with other programs, which asks nothing
abbrev pub with_programs : EsState → ProgramTables → EsState
with_programs s t = record s { programs = t }

-- CreateShader and CreateProgram give one name, with the next number
abbrev pub create_outcome : (ℕ → ℕ → ProgramTables) → EsState → List ℕ → Oracle → Outcome EsState
create_outcome create s [] o = leaves s o
create_outcome create s (id ∷ ids) o =
    record { state = with_programs s (create id (first o.programs)); oracle = record o { programs = behind o.programs }; reply = reply.Word id }

-- CompileShader takes the compiler's next answer
abbrev pub compile_outcome : EsState → ℕ → Oracle → Outcome EsState
compile_outcome s number o = leaves (with_programs s (compile_shader_effect s.programs number (first o.compile))) (record o { compile = behind o.compile })

-- a deletion of 0 changes nothing
abbrev pub delete_outcome : (ℕ → ProgramTables) → EsState → ℕ → Oracle → Outcome EsState
delete_outcome delete s id o = if id == 0 then leaves s o else leaves (with_programs s (delete (number_of s.programs id))) o

-- LinkProgram takes the linker's next answer where the two shaders are there, and else fails
abbrev pub link_outcome : EsState → ℕ → Option Program → Oracle → Outcome EsState
link_outcome s number None o = leaves s o
link_outcome s number (Some p) o =
    if can_link s.programs.shaders p.attached
    then leaves (with_programs s (link_program_effect s.programs number (first o.link))) (record o { link = behind o.link })
    else leaves (with_programs s (link_program_effect s.programs number failed_link)) o

-- ValidateProgram takes the next answer where the program is linked
abbrev pub validate_outcome : EsState → ℕ → Option Program → Oracle → Outcome EsState
validate_outcome s number None o = leaves s o
validate_outcome s number (Some p) o =
    if is_some p.executable
    then leaves (with_programs s (validate_program_effect s.programs number (first o.validate))) (record o { validate = behind o.validate })
    else leaves (with_programs s (validate_unlinked_effect s.programs number)) o

-- a call on objects that is not refused; a Gen gives the names
abbrev pub object_outcome : EsState → List ℕ → ObjectCall → Oracle → Outcome EsState
object_outcome s names (calls.GenBuffers count) o = gen_outcome Buffers s names o
object_outcome s names (calls.BindBuffer target buffer) o =
    bind_outcome Buffers (λ t. record t { buffers = bind_buffer_effect t.buffers target buffer }) s buffer o (map.get s.buffers.names buffer)
object_outcome s names (calls.BufferData target size «data» usage) o =
    store_outcome s (buffer_data_effect s.buffers target (bytes_of «data» size) usage) o (first o.stored)
object_outcome s names (calls.BufferSubData target offset size «data») o =
    leaves (record s { buffers = buffer_sub_data_effect s.buffers target (natural offset) (bytes_of «data» size) }) o
object_outcome s names (calls.DeleteBuffers buffers) o = leaves (buffers_deleted s buffers) o
object_outcome s names (calls.GenTextures count) o = gen_outcome Textures s names o
object_outcome s names (calls.BindTexture target texture) o =
    bind_outcome Textures (λ t. record t { textures = bind_texture_effect t.textures target texture }) s texture o (map.get s.textures.names texture)
object_outcome s names (calls.DeleteTextures textures) o = leaves (textures_deleted s textures) o
object_outcome s names (calls.GenRenderbuffers count) o = gen_outcome Renderbuffers s names o
object_outcome s names (calls.BindRenderbuffer target renderbuffer) o =
    bind_outcome Renderbuffers (λ t. record t { renderbuffers = bind_effect new_renderbuffer t.renderbuffers renderbuffer }) s renderbuffer o (map.get s.renderbuffers.names renderbuffer)
object_outcome s names (calls.DeleteRenderbuffers renderbuffers) o = leaves (renderbuffers_deleted s renderbuffers) o
object_outcome s names (calls.GenFramebuffers count) o = gen_outcome Framebuffers s names o
object_outcome s names (calls.BindFramebuffer target framebuffer) o =
    bind_outcome Framebuffers (λ t. record t { framebuffers = bind_effect new_framebuffer t.framebuffers framebuffer }) s framebuffer o (map.get s.framebuffers.names framebuffer)
object_outcome s names (calls.DeleteFramebuffers framebuffers) o = leaves (record s { framebuffers = framebuffers_deleted s.framebuffers framebuffers }) o
object_outcome s names (calls.FramebufferTexture2D target attachment textarget texture level) o =
    leaves (record s { framebuffers = framebuffer_texture_effect s.framebuffers s.textures attachment textarget texture texture }) o
object_outcome s names (calls.FramebufferRenderbuffer target attachment rbtarget renderbuffer) o =
    leaves (record s { framebuffers = framebuffer_renderbuffer_effect s.framebuffers s.renderbuffers attachment renderbuffer renderbuffer }) o
object_outcome s names (calls.VertexAttrib4f index x y z w) o =
    leaves (record s { attribs = vertex_attrib_4f_effect s.attribs index (x.0 ∷ y.0 ∷ z.0 ∷ w.0 ∷ []) }) o
object_outcome s names (calls.VertexAttribPointer index size kind normalized stride (Number offset)) o =
    leaves (record s { attribs = vertex_attrib_pointer_effect s.attribs index (array_of s.buffers size kind normalized stride offset) }) o
object_outcome s names (calls.EnableVertexAttribArray index) o = leaves (record s { attribs = set_array_effect s.attribs index true }) o
object_outcome s names (calls.DisableVertexAttribArray index) o = leaves (record s { attribs = set_array_effect s.attribs index false }) o
object_outcome s names (calls.CreateShader kind) o = create_outcome (λ id number. create_shader_effect s.programs id number kind) s names o
object_outcome s names (calls.ShaderSource shader source) o =
    leaves (with_programs s (shader_source_effect s.programs (number_of s.programs shader) (data_in source))) o
object_outcome s names (calls.CompileShader shader) o = compile_outcome s (number_of s.programs shader) o
object_outcome s names (calls.DeleteShader shader) o = delete_outcome (delete_shader_effect s.programs) s shader o
object_outcome s names calls.CreateProgram o = create_outcome (create_program_effect s.programs) s names o
object_outcome s names (calls.AttachShader program shader) o =
    leaves (with_programs s (attach_shader_effect s.programs (number_of s.programs program) (number_of s.programs shader))) o
object_outcome s names (calls.DetachShader program shader) o =
    leaves (with_programs s (detach_shader_effect s.programs (number_of s.programs program) (number_of s.programs shader))) o
object_outcome s names (calls.BindAttribLocation program index name) o =
    leaves (with_programs s (bind_attrib_location_effect s.programs (number_of s.programs program) index name)) o
object_outcome s names (calls.LinkProgram program) o = link_outcome s (number_of s.programs program) (program_at s.programs program) o
object_outcome s names (calls.ValidateProgram program) o = validate_outcome s (number_of s.programs program) (program_at s.programs program) o
object_outcome s names (calls.UseProgram program) o = leaves (with_programs s (use_program_effect s.programs (number_of s.programs program))) o
object_outcome s names (calls.DeleteProgram program) o = delete_outcome (delete_program_effect s.programs) s program o
object_outcome s names (calls.Uniform location kind count transpose values) o =
    leaves (with_programs s (uniform_effect s.programs location kind count (data_in values))) o

-- the reply of a command: that of its call, but a Gen gives the names that its command brought, and says no more
abbrev pub object_reply : ObjectCommand → Reply → Reply
object_reply (GenBuffers id) r = reply.None
object_reply (BindBuffer target id) r = r
object_reply (BufferData target size usage words) r = r
object_reply (BufferSubData target offset size words) r = r
object_reply (DeleteBuffers id) r = r
object_reply (GenTextures id) r = reply.None
object_reply (BindTexture target id) r = r
object_reply (DeleteTextures id) r = r
object_reply (GenRenderbuffers id) r = reply.None
object_reply (BindRenderbuffer target id) r = r
object_reply (DeleteRenderbuffers id) r = r
object_reply (GenFramebuffers id) r = reply.None
object_reply (BindFramebuffer target id) r = r
object_reply (DeleteFramebuffers id) r = r
object_reply (FramebufferTexture2D target attachment textarget texture level) r = r
object_reply (FramebufferRenderbuffer target attachment rbtarget renderbuffer) r = r
object_reply (VertexAttrib4f index x y z w) r = r
object_reply (VertexAttribPointer index a) r = r
object_reply (EnableVertexAttribArray index) r = r
object_reply (DisableVertexAttribArray index) r = r
object_reply (CreateShader id kind) r = r
object_reply (ShaderSource shader words) r = r
object_reply (CompileShader shader) r = r
object_reply (DeleteShader shader) r = r
object_reply (CreateProgram id) r = r
object_reply (AttachShader program shader) r = r
object_reply (DetachShader program shader) r = r
object_reply (BindAttribLocation program index words) r = r
object_reply (LinkProgram program) r = r
object_reply (ValidateProgram program) r = r
object_reply (UseProgram program) r = r
object_reply (DeleteProgram program) r = r
object_reply (Uniform location kind count transpose words) r = r

-- what a call leaves, with its command's reply
abbrev pub with_object_reply : ObjectCommand → Outcome EsState → Outcome EsState
with_object_reply c out = record { state = out.state; oracle = out.oracle; reply = object_reply c out.reply }

-- a command on objects that is not refused does what its call does
abbrev pub object_step : EsState → ObjectCommand → List ℕ → Oracle → Outcome EsState
object_step s c payload o = with_object_reply c (object_outcome s (names_given c) (object_call c payload) o)
