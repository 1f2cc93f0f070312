-- The driver calls of the commands on objects, where they are not refused, with driver names.
use Rattle.std.specs.Prelude.{ℕ, true, false, ◌==◌, if◌then◌else◌, List, [], ◌∷◌, Option, None, Some, is_some}
use Rattle.std.specs.FinMap as map
use Rattle.gl_base.specs.declared.gl_enum.GlEnum.{GlEnum}
use Rattle.gl_plain.specs.declared.objects.Name.{Name}
use Rattle.gl_plain.specs.declared.commands.ObjectCommand.{ObjectCommand}
use Rattle.gl_plain.specs.declared.commands.ObjectCommand.TheVariants.{GenBuffers, BindBuffer, BufferData, BufferSubData, DeleteBuffers, GenTextures, BindTexture, DeleteTextures, GenRenderbuffers, BindRenderbuffer, DeleteRenderbuffers, GenFramebuffers, BindFramebuffer, DeleteFramebuffers, FramebufferTexture2D, FramebufferRenderbuffer, VertexAttrib4f, VertexAttribPointer, EnableVertexAttribArray, DisableVertexAttribArray, CreateShader, ShaderSource, CompileShader, DeleteShader, CreateProgram, AttachShader, DetachShader, BindAttribLocation, LinkProgram, ValidateProgram, UseProgram, DeleteProgram, Uniform}
use Rattle.gl_plain.specs.declared.driver_calls.DriverCall.{DriverCall}
use Rattle.gl_plain.specs.declared.driver_calls.DriverCall.TheVariants.{Object, Program}
use Rattle.gl_plain.specs.declared.driver_calls.ObjectDriver.TheVariants as calls
use Rattle.gl_plain.specs.declared.driver_calls.ProgramDriver.TheVariants as program_calls
use Rattle.gl_plain.specs.declared.programs.Program as programs
use Rattle.gl_plain.specs.subjects.Data.{payload_of, bytes_of}
use Rattle.gl_plain.specs.subjects.Buffers.{delete_buffers_calls}
use Rattle.gl_plain.specs.subjects.Names.{number_named}
use Rattle.gl_plain.specs.subjects.Textures.{delete_textures_calls}
use Rattle.gl_plain.specs.subjects.Targets.{delete_calls}
use Rattle.gl_plain.specs.subjects.Programs.{ProgramTables, number_of, program_at, can_link}
use Rattle.gl_plain.specs.subjects.Uniforms.{uniform_calls}
use Rattle.gl_plain.specs.Oracle.{Oracle, first}
use Rattle.gl_plain.specs.State.{EsState}
use Rattle.gl_plain.specs.Spaces.{Space, Buffers, Textures, Renderbuffers, Framebuffers, numbers_in, gen_call}

-- a bind, by what the space has of the name: that of an unused one makes the call for a new name first, unless it is 0
abbrev pub bind_calls : Space → (ℕ → DriverCall) → ℕ → Oracle → Option Name → List DriverCall
bind_calls space bind id o (Some x) = bind x.number ∷ []
bind_calls space bind id o None =
    if id == 0 then bind 0 ∷ [] else gen_call space ∷ bind (first (numbers_in space o)) ∷ []

-- the call that binds a buffer
abbrev pub bind_buffer_call : GlEnum → ℕ → DriverCall
bind_buffer_call target name = Object (calls.BindBuffer target name)

-- the call that binds a texture
abbrev pub bind_texture_call : GlEnum → ℕ → DriverCall
bind_texture_call target name = Object (calls.BindTexture target name)

-- the call that binds a renderbuffer
abbrev pub bind_renderbuffer_call : ℕ → DriverCall
bind_renderbuffer_call name = Object (calls.BindRenderbuffer name)

-- the call that binds a framebuffer
abbrev pub bind_framebuffer_call : ℕ → DriverCall
bind_framebuffer_call name = Object (calls.BindFramebuffer name)

-- a deletion of 0 makes none
abbrev pub delete_object_calls : (ℕ → DriverCall) → ProgramTables → ℕ → List DriverCall
delete_object_calls delete t id = if id == 0 then [] else delete (number_of t id) ∷ []

-- a link without the two shaders makes none
abbrev pub link_program_calls : ProgramTables → ℕ → Option programs.Program → List DriverCall
link_program_calls t number None = []
link_program_calls t number (Some p) = if can_link t.shaders p.attached then Program (program_calls.LinkProgram number) ∷ [] else []

-- a validation of a program that is not linked makes none
abbrev pub validate_program_calls : ℕ → Option programs.Program → List DriverCall
validate_program_calls number None = []
validate_program_calls number (Some p) = if is_some p.executable then Program (program_calls.ValidateProgram number) ∷ [] else []

-- the driver calls of a command's name
abbrev pub own_object_calls : EsState → ObjectCommand → List ℕ → Oracle → List DriverCall
own_object_calls s (GenBuffers id) payload o = gen_call Buffers ∷ []
own_object_calls s (BindBuffer target id) payload o = bind_calls Buffers (bind_buffer_call target) id o (map.get s.buffers.names id)
own_object_calls s (BufferData target size usage words) payload o = Object (calls.BufferData target (bytes_of (payload_of words payload) size) usage) ∷ []
own_object_calls s (BufferSubData target offset size words) payload o = Object (calls.BufferSubData target offset payload) ∷ []
own_object_calls s (DeleteBuffers id) payload o = delete_buffers_calls (map.get s.buffers.names id)
own_object_calls s (GenTextures id) payload o = gen_call Textures ∷ []
own_object_calls s (BindTexture target id) payload o = bind_calls Textures (bind_texture_call target) id o (map.get s.textures.names id)
own_object_calls s (DeleteTextures id) payload o = delete_textures_calls (map.get s.textures.names id)
own_object_calls s (GenRenderbuffers id) payload o = gen_call Renderbuffers ∷ []
own_object_calls s (BindRenderbuffer target id) payload o = bind_calls Renderbuffers bind_renderbuffer_call id o (map.get s.renderbuffers.names id)
own_object_calls s (DeleteRenderbuffers id) payload o = delete_calls (λ n. Object (calls.DeleteRenderbuffer n)) (map.get s.renderbuffers.names id)
own_object_calls s (GenFramebuffers id) payload o = gen_call Framebuffers ∷ []
own_object_calls s (BindFramebuffer target id) payload o = bind_calls Framebuffers bind_framebuffer_call id o (map.get s.framebuffers.names id)
own_object_calls s (DeleteFramebuffers id) payload o = delete_calls (λ n. Object (calls.DeleteFramebuffer n)) (map.get s.framebuffers.names id)
own_object_calls s (FramebufferTexture2D target attachment textarget texture level) payload o =
    Object (calls.FramebufferTexture attachment textarget (number_named (map.get s.textures.names texture))) ∷ []
own_object_calls s (FramebufferRenderbuffer target attachment rbtarget renderbuffer) payload o =
    Object (calls.FramebufferRenderbuffer attachment (number_named (map.get s.renderbuffers.names renderbuffer))) ∷ []
own_object_calls s (VertexAttrib4f index x y z w) payload o = Object (calls.VertexAttrib4 index (x.0 ∷ y.0 ∷ z.0 ∷ w.0 ∷ [])) ∷ []
own_object_calls s (VertexAttribPointer index a) payload o = Object (calls.VertexAttribPointer index a.size a.kind a.normalized a.stride a.offset) ∷ []
own_object_calls s (EnableVertexAttribArray index) payload o = Object (calls.SetArray index true) ∷ []
own_object_calls s (DisableVertexAttribArray index) payload o = Object (calls.SetArray index false) ∷ []
own_object_calls s (CreateShader id kind) payload o = Program (program_calls.CreateShader kind) ∷ []
own_object_calls s (ShaderSource shader words) payload o = Program (program_calls.ShaderSource (number_of s.programs shader) payload) ∷ []
own_object_calls s (CompileShader shader) payload o = Program (program_calls.CompileShader (number_of s.programs shader)) ∷ []
own_object_calls s (DeleteShader shader) payload o = delete_object_calls (λ n. Program (program_calls.DeleteShader n)) s.programs shader
own_object_calls s (CreateProgram id) payload o = Program program_calls.CreateProgram ∷ []
own_object_calls s (AttachShader program shader) payload o =
    Program (program_calls.AttachShader (number_of s.programs program) (number_of s.programs shader)) ∷ []
own_object_calls s (DetachShader program shader) payload o =
    Program (program_calls.DetachShader (number_of s.programs program) (number_of s.programs shader)) ∷ []
own_object_calls s (BindAttribLocation program index words) payload o =
    Program (program_calls.BindAttribLocation (number_of s.programs program) index payload) ∷ []
own_object_calls s (LinkProgram program) payload o = link_program_calls s.programs (number_of s.programs program) (program_at s.programs program)
own_object_calls s (ValidateProgram program) payload o = validate_program_calls (number_of s.programs program) (program_at s.programs program)
own_object_calls s (UseProgram program) payload o = Program (program_calls.UseProgram (number_of s.programs program)) ∷ []
own_object_calls s (DeleteProgram program) payload o = delete_object_calls (λ n. Program (program_calls.DeleteProgram n)) s.programs program
own_object_calls s (Uniform location kind count transpose words) payload o = uniform_calls location kind count payload
