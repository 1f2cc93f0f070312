-- The commands on objects, and the calls that they spell.
use Rattle.std.specs.Prelude.{ℕ, pos, ◌==◌, if◌then◌else◌, List, [], ◌∷◌, slice_index, Option, None, Some}
use Rattle.gl_plain.specs.declared.numbers.TheConstants.{GEN_BUFFERS, BIND_BUFFER, BUFFER_DATA, BUFFER_SUB_DATA, DELETE_BUFFERS, GEN_TEXTURES, BIND_TEXTURE, DELETE_TEXTURES, GEN_RENDERBUFFERS, BIND_RENDERBUFFER, DELETE_RENDERBUFFERS, GEN_FRAMEBUFFERS, BIND_FRAMEBUFFER, DELETE_FRAMEBUFFERS, FRAMEBUFFER_TEXTURE_2D, FRAMEBUFFER_RENDERBUFFER, VERTEX_ATTRIB_4F, VERTEX_ATTRIB_POINTER, ENABLE_VERTEX_ATTRIB_ARRAY, DISABLE_VERTEX_ATTRIB_ARRAY, CREATE_SHADER, SHADER_SOURCE, COMPILE_SHADER, DELETE_SHADER, CREATE_PROGRAM, ATTACH_SHADER, DETACH_SHADER, BIND_ATTRIB_LOCATION, LINK_PROGRAM, VALIDATE_PROGRAM, USE_PROGRAM, DELETE_PROGRAM, UNIFORM}
use Rattle.gl_plain.specs.declared.commands.DataWords.{DataWords}
use Rattle.gl_plain.specs.declared.commands.ObjectCommand.{ObjectCommand}
use Rattle.gl_plain.specs.declared.commands.ObjectCommand.TheVariants.{GenBuffers, BindBuffer, BufferData, BufferSubData, DeleteBuffers, GenTextures, BindTexture, DeleteTextures, GenRenderbuffers, BindRenderbuffer, DeleteRenderbuffers, GenFramebuffers, BindFramebuffer, DeleteFramebuffers, FramebufferTexture2D, FramebufferRenderbuffer, VertexAttrib4f, VertexAttribPointer, EnableVertexAttribArray, DisableVertexAttribArray, CreateShader, ShaderSource, CompileShader, DeleteShader, CreateProgram, AttachShader, DetachShader, BindAttribLocation, LinkProgram, ValidateProgram, UseProgram, DeleteProgram, Uniform}
use Rattle.gl_plain.specs.declared.calls.Payload.TheVariants.{Here}
use Rattle.gl_plain.specs.declared.calls.Pointer.TheVariants.{Number}
use Rattle.gl_plain.specs.declared.calls.ObjectCall.{ObjectCall}
use Rattle.gl_plain.specs.declared.calls.ObjectCall.TheVariants as calls
use Rattle.gl_plain.specs.Words.{enum_at, signed_at, float_at, bool_at, data_at, array_at}
use Rattle.gl_plain.specs.subjects.Data.{payload_of}

-- the command on shaders and programs that a number and words spell, or none
abbrev pub program_command_in : ℕ → List ℕ → Option ObjectCommand
program_command_in number words =
    if number == CREATE_SHADER then Some (CreateShader (slice_index words 0) (enum_at words 1))
    else if number == SHADER_SOURCE then Some (ShaderSource (slice_index words 0) (data_at words 1))
    else if number == COMPILE_SHADER then Some (CompileShader (slice_index words 0))
    else if number == DELETE_SHADER then Some (DeleteShader (slice_index words 0))
    else if number == CREATE_PROGRAM then Some (CreateProgram (slice_index words 0))
    else if number == ATTACH_SHADER then Some (AttachShader (slice_index words 0) (slice_index words 1))
    else if number == DETACH_SHADER then Some (DetachShader (slice_index words 0) (slice_index words 1))
    else if number == BIND_ATTRIB_LOCATION then Some (BindAttribLocation (slice_index words 0) (slice_index words 1) (data_at words 2))
    else if number == LINK_PROGRAM then Some (LinkProgram (slice_index words 0))
    else if number == VALIDATE_PROGRAM then Some (ValidateProgram (slice_index words 0))
    else if number == USE_PROGRAM then Some (UseProgram (slice_index words 0))
    else if number == DELETE_PROGRAM then Some (DeleteProgram (slice_index words 0))
    else if number == UNIFORM then Some (Uniform (signed_at words 0) (slice_index words 1) (signed_at words 2) (bool_at words 3) (data_at words 4))
    else None

-- the command on renderbuffers and framebuffers that a number and words spell, or none
abbrev pub target_command_in : ℕ → List ℕ → Option ObjectCommand
target_command_in number words =
    if number == GEN_RENDERBUFFERS then Some (GenRenderbuffers (slice_index words 0))
    else if number == BIND_RENDERBUFFER then Some (BindRenderbuffer (enum_at words 0) (slice_index words 1))
    else if number == DELETE_RENDERBUFFERS then Some (DeleteRenderbuffers (slice_index words 0))
    else if number == GEN_FRAMEBUFFERS then Some (GenFramebuffers (slice_index words 0))
    else if number == BIND_FRAMEBUFFER then Some (BindFramebuffer (enum_at words 0) (slice_index words 1))
    else if number == DELETE_FRAMEBUFFERS then Some (DeleteFramebuffers (slice_index words 0))
    else if number == FRAMEBUFFER_TEXTURE_2D then Some (FramebufferTexture2D (enum_at words 0) (enum_at words 1) (enum_at words 2) (slice_index words 3) (signed_at words 4))
    else if number == FRAMEBUFFER_RENDERBUFFER then Some (FramebufferRenderbuffer (enum_at words 0) (enum_at words 1) (enum_at words 2) (slice_index words 3))
    else None

-- the command of the first of two that there is
abbrev pub command_or : Option ObjectCommand → Option ObjectCommand → Option ObjectCommand
command_or (Some c) other = Some c
command_or None other = other

-- the command on objects that a number and words spell, or none
abbrev pub object_command_in : ℕ → List ℕ → Option ObjectCommand
object_command_in number words =
    if number == GEN_BUFFERS then Some (GenBuffers (slice_index words 0))
    else if number == BIND_BUFFER then Some (BindBuffer (enum_at words 0) (slice_index words 1))
    else if number == BUFFER_DATA then Some (BufferData (enum_at words 0) (signed_at words 1) (enum_at words 2) (data_at words 3))
    else if number == BUFFER_SUB_DATA then Some (BufferSubData (enum_at words 0) (signed_at words 1) (signed_at words 2) (data_at words 3))
    else if number == DELETE_BUFFERS then Some (DeleteBuffers (slice_index words 0))
    else if number == GEN_TEXTURES then Some (GenTextures (slice_index words 0))
    else if number == BIND_TEXTURE then Some (BindTexture (enum_at words 0) (slice_index words 1))
    else if number == DELETE_TEXTURES then Some (DeleteTextures (slice_index words 0))
    else if number == VERTEX_ATTRIB_4F then Some (VertexAttrib4f (slice_index words 0) (float_at words 1) (float_at words 2) (float_at words 3) (float_at words 4))
    else if number == VERTEX_ATTRIB_POINTER then Some (VertexAttribPointer (slice_index words 0) (array_at words))
    else if number == ENABLE_VERTEX_ATTRIB_ARRAY then Some (EnableVertexAttribArray (slice_index words 0))
    else if number == DISABLE_VERTEX_ATTRIB_ARRAY then Some (DisableVertexAttribArray (slice_index words 0))
    else command_or (target_command_in number words) (program_command_in number words)

-- the call that a command on objects means, with the bytes that come beside it
abbrev pub object_call : ObjectCommand → List ℕ → ObjectCall
object_call (GenBuffers id) payload = calls.GenBuffers (pos 1)
object_call (BindBuffer target id) payload = calls.BindBuffer target id
object_call (BufferData target size usage words) payload = calls.BufferData target size (payload_of words payload) usage
object_call (BufferSubData target offset size words) payload = calls.BufferSubData target offset size (Here payload)
object_call (DeleteBuffers id) payload = calls.DeleteBuffers (id ∷ [])
object_call (GenTextures id) payload = calls.GenTextures (pos 1)
object_call (BindTexture target id) payload = calls.BindTexture target id
object_call (DeleteTextures id) payload = calls.DeleteTextures (id ∷ [])
object_call (GenRenderbuffers id) payload = calls.GenRenderbuffers (pos 1)
object_call (BindRenderbuffer target id) payload = calls.BindRenderbuffer target id
object_call (DeleteRenderbuffers id) payload = calls.DeleteRenderbuffers (id ∷ [])
object_call (GenFramebuffers id) payload = calls.GenFramebuffers (pos 1)
object_call (BindFramebuffer target id) payload = calls.BindFramebuffer target id
object_call (DeleteFramebuffers id) payload = calls.DeleteFramebuffers (id ∷ [])
object_call (FramebufferTexture2D target attachment textarget texture level) payload = calls.FramebufferTexture2D target attachment textarget texture level
object_call (FramebufferRenderbuffer target attachment rbtarget renderbuffer) payload = calls.FramebufferRenderbuffer target attachment rbtarget renderbuffer
object_call (VertexAttrib4f index x y z w) payload = calls.VertexAttrib4f index x y z w
object_call (VertexAttribPointer index a) payload = calls.VertexAttribPointer index a.size a.kind a.normalized a.stride (Number a.offset)
object_call (EnableVertexAttribArray index) payload = calls.EnableVertexAttribArray index
object_call (DisableVertexAttribArray index) payload = calls.DisableVertexAttribArray index
object_call (CreateShader id kind) payload = calls.CreateShader kind
object_call (ShaderSource shader words) payload = calls.ShaderSource shader (Here payload)
object_call (CompileShader shader) payload = calls.CompileShader shader
object_call (DeleteShader shader) payload = calls.DeleteShader shader
object_call (CreateProgram id) payload = calls.CreateProgram
object_call (AttachShader program shader) payload = calls.AttachShader program shader
object_call (DetachShader program shader) payload = calls.DetachShader program shader
object_call (BindAttribLocation program index words) payload = calls.BindAttribLocation program index payload
object_call (LinkProgram program) payload = calls.LinkProgram program
object_call (ValidateProgram program) payload = calls.ValidateProgram program
object_call (UseProgram program) payload = calls.UseProgram program
object_call (DeleteProgram program) payload = calls.DeleteProgram program
object_call (Uniform location kind count transpose words) payload = calls.Uniform location kind count transpose (Here payload)

-- the names that a command gives
abbrev pub names_given : ObjectCommand → List ℕ
names_given (GenBuffers id) = id ∷ []
names_given (BindBuffer target id) = []
names_given (BufferData target size usage words) = []
names_given (BufferSubData target offset size words) = []
names_given (DeleteBuffers id) = []
names_given (GenTextures id) = id ∷ []
names_given (BindTexture target id) = []
names_given (DeleteTextures id) = []
names_given (GenRenderbuffers id) = id ∷ []
names_given (BindRenderbuffer target id) = []
names_given (DeleteRenderbuffers id) = []
names_given (GenFramebuffers id) = id ∷ []
names_given (BindFramebuffer target id) = []
names_given (DeleteFramebuffers id) = []
names_given (FramebufferTexture2D target attachment textarget texture level) = []
names_given (FramebufferRenderbuffer target attachment rbtarget renderbuffer) = []
names_given (VertexAttrib4f index x y z w) = []
names_given (VertexAttribPointer index a) = []
names_given (EnableVertexAttribArray index) = []
names_given (DisableVertexAttribArray index) = []
names_given (CreateShader id kind) = id ∷ []
names_given (ShaderSource shader words) = []
names_given (CompileShader shader) = []
names_given (DeleteShader shader) = []
names_given (CreateProgram id) = id ∷ []
names_given (AttachShader program shader) = []
names_given (DetachShader program shader) = []
names_given (BindAttribLocation program index words) = []
names_given (LinkProgram program) = []
names_given (ValidateProgram program) = []
names_given (UseProgram program) = []
names_given (DeleteProgram program) = []
names_given (Uniform location kind count transpose words) = []

-- the words of a command's data, if it has any
abbrev pub object_data_words : ObjectCommand → Option DataWords
object_data_words (GenBuffers id) = None
object_data_words (BindBuffer target id) = None
object_data_words (BufferData target size usage words) = Some words
object_data_words (BufferSubData target offset size words) = Some words
object_data_words (DeleteBuffers id) = None
object_data_words (GenTextures id) = None
object_data_words (BindTexture target id) = None
object_data_words (DeleteTextures id) = None
object_data_words (GenRenderbuffers id) = None
object_data_words (BindRenderbuffer target id) = None
object_data_words (DeleteRenderbuffers id) = None
object_data_words (GenFramebuffers id) = None
object_data_words (BindFramebuffer target id) = None
object_data_words (DeleteFramebuffers id) = None
object_data_words (FramebufferTexture2D target attachment textarget texture level) = None
object_data_words (FramebufferRenderbuffer target attachment rbtarget renderbuffer) = None
object_data_words (VertexAttrib4f index x y z w) = None
object_data_words (VertexAttribPointer index a) = None
object_data_words (EnableVertexAttribArray index) = None
object_data_words (DisableVertexAttribArray index) = None
object_data_words (CreateShader id kind) = None
object_data_words (ShaderSource shader words) = Some words
object_data_words (CompileShader shader) = None
object_data_words (DeleteShader shader) = None
object_data_words (CreateProgram id) = None
object_data_words (AttachShader program shader) = None
object_data_words (DetachShader program shader) = None
object_data_words (BindAttribLocation program index words) = Some words
object_data_words (LinkProgram program) = None
object_data_words (ValidateProgram program) = None
object_data_words (UseProgram program) = None
object_data_words (DeleteProgram program) = None
object_data_words (Uniform location kind count transpose words) = Some words
