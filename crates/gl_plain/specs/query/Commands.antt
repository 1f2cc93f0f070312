-- The commands that ask for state or for pixels, and the calls that they spell.
use Rattle.std.specs.Prelude.{ℕ, ℤ, Bool, true, false, ◌==◌, if◌then◌else◌, List, slice_index, Option, None, Some}
use Rattle.std.specs.Option.{option_map}
use Rattle.gl_base.specs.declared.enums.TheConstants.{UNSIGNED_BYTE, UNSIGNED_SHORT}
use Rattle.gl_plain.specs.declared.numbers.TheConstants.{READ_PIXELS, GET_ERROR, GET_VALUE, CHECK_FRAMEBUFFER_STATUS, GET_BUFFER_PARAMETERIV, GET_TEX_PARAMETERIV, GET_RENDERBUFFER_PARAMETERIV, GET_FRAMEBUFFER_ATTACHMENT_PARAMETERIV, GET_VERTEX_ATTRIB, GET_SHADERIV, GET_PROGRAMIV, GET_SHADER_INFO_LOG, GET_PROGRAM_INFO_LOG, GET_SHADER_SOURCE, GET_PROGRAM_TABLE, GET_UNIFORM, IS_OBJECT, GET_ATTACHED_SHADERS, GET_MAX_INDEX}
use Rattle.gl_plain.specs.declared.commands.QueryCommand.{QueryCommand}
use Rattle.gl_plain.specs.declared.commands.QueryCommand.TheVariants.{ReadPixels, GetError, Words, Bytes}
use Rattle.gl_plain.specs.declared.calls.QueryCall.{QueryCall}
use Rattle.gl_plain.specs.declared.calls.QueryCall.TheVariants as calls
use Rattle.gl_plain.specs.declared.queries.ByteQuery.{ByteQuery}
use Rattle.gl_plain.specs.declared.queries.ByteQuery.TheVariants.{GetShaderInfoLog, GetProgramInfoLog, GetShaderSource, GetProgramTable, GetAttachedShaders}
use Rattle.gl_plain.specs.declared.queries.IndexKind.{IndexKind}
use Rattle.gl_plain.specs.declared.queries.IndexKind.TheVariants.{UnsignedByte, UnsignedShort}
use Rattle.gl_plain.specs.declared.queries.ObjectKind.{ObjectKind}
use Rattle.gl_plain.specs.declared.queries.ObjectKind.TheVariants as kind
use Rattle.gl_plain.specs.declared.queries.ValueForm.{ValueForm}
use Rattle.gl_plain.specs.declared.queries.ValueForm.TheVariants.{Integer, Boolean, Float}
use Rattle.gl_plain.specs.declared.queries.WordQuery.{WordQuery}
use Rattle.gl_plain.specs.declared.queries.WordQuery.TheVariants.{GetValue, CheckFramebufferStatus, GetBufferParameteriv, GetTexParameteriv, GetRenderbufferParameteriv, GetFramebufferAttachmentParameteriv, GetVertexAttrib, GetShaderiv, GetProgramiv, GetUniform, IsObject, GetMaxIndex}
use Rattle.gl_plain.specs.Words.{is_negative, natural, enum_at, signed_at, bool_at, read_at}

-- a form of values: integers, booleans or floats
abbrev pub form_of : ℕ → Option ValueForm
form_of word = if word == 0 then Some Integer else if word == 1 then Some Boolean else if word == 2 then Some Float else None

-- a form of uniforms, which are not given as booleans: whether it is floats
abbrev pub is_float_form : ℕ → Option Bool
is_float_form word = if word == 0 then Some false else if word == 2 then Some true else None

-- a kind of objects
abbrev pub kind_of : ℕ → Option ObjectKind
kind_of word =
    if word == 0 then Some kind.Buffer
    else if word == 1 then Some kind.Texture
    else if word == 2 then Some kind.Renderbuffer
    else if word == 3 then Some kind.Framebuffer
    else if word == 4 then Some kind.Shader
    else if word == 5 then Some kind.Program
    else None

-- a kind of indices
abbrev pub index_kind_of : ℕ → Option IndexKind
index_kind_of word = if word == UNSIGNED_BYTE.0 then Some UnsignedByte else if word == UNSIGNED_SHORT.0 then Some UnsignedShort else None

-- a negative count is no word of GetMaxIndex
abbrev pub max_index_at : ℕ → ℤ → Option IndexKind → Option WordQuery
max_index_at offset count kind = if is_negative count then None else option_map (λ k. GetMaxIndex offset (natural count) k) kind

-- the query of values, objects and uniforms that a number and words spell, or none where a form or a kind is none
abbrev pub formed_query_in : ℕ → List ℕ → Option WordQuery
formed_query_in number words =
    if number == GET_VALUE then option_map (λ form. GetValue form (enum_at words 1)) (form_of (slice_index words 0))
    else if number == GET_UNIFORM then option_map (λ float. GetUniform (slice_index words 0) (signed_at words 1) float) (is_float_form (slice_index words 2))
    else if number == IS_OBJECT then option_map (λ kind. IsObject kind (slice_index words 1)) (kind_of (slice_index words 0))
    else if number == GET_MAX_INDEX then max_index_at (slice_index words 0) (signed_at words 1) (index_kind_of (slice_index words 2))
    else None

-- the query of state by its name that a number and words spell, or none
abbrev pub parameter_query_in : ℕ → List ℕ → Option WordQuery
parameter_query_in number words =
    if number == CHECK_FRAMEBUFFER_STATUS then Some (CheckFramebufferStatus (enum_at words 0))
    else if number == GET_BUFFER_PARAMETERIV then Some (GetBufferParameteriv (enum_at words 0) (enum_at words 1))
    else if number == GET_TEX_PARAMETERIV then Some (GetTexParameteriv (enum_at words 0) (enum_at words 1))
    else if number == GET_RENDERBUFFER_PARAMETERIV then Some (GetRenderbufferParameteriv (enum_at words 0) (enum_at words 1))
    else if number == GET_FRAMEBUFFER_ATTACHMENT_PARAMETERIV then Some (GetFramebufferAttachmentParameteriv (enum_at words 0) (enum_at words 1) (enum_at words 2))
    else if number == GET_VERTEX_ATTRIB then Some (GetVertexAttrib (slice_index words 0) (enum_at words 1) (bool_at words 2))
    else if number == GET_SHADERIV then Some (GetShaderiv (slice_index words 0) (enum_at words 1))
    else if number == GET_PROGRAMIV then Some (GetProgramiv (slice_index words 0) (enum_at words 1))
    else None

-- the query of bytes that a number and words spell, or none
abbrev pub byte_query_in : ℕ → List ℕ → Option ByteQuery
byte_query_in number words =
    if number == GET_SHADER_INFO_LOG then Some (GetShaderInfoLog (slice_index words 0))
    else if number == GET_PROGRAM_INFO_LOG then Some (GetProgramInfoLog (slice_index words 0))
    else if number == GET_SHADER_SOURCE then Some (GetShaderSource (slice_index words 0))
    else if number == GET_PROGRAM_TABLE then Some (GetProgramTable (slice_index words 0))
    else if number == GET_ATTACHED_SHADERS then Some (GetAttachedShaders (slice_index words 0))
    else None

-- the query of the kind that has one
abbrev pub query_by : Option WordQuery → Option WordQuery → Option ByteQuery → (bucket : ℕ) → Option QueryCommand
query_by (Some q) p b bucket = Some (Words q)
query_by None (Some q) b bucket = Some (Words q)
query_by None None (Some q) bucket = Some (Bytes q bucket)
query_by None None None bucket = None

-- the query that a number and words spell, or none
abbrev pub query_command_in : ℕ → List ℕ → Option QueryCommand
query_command_in number words =
    if number == READ_PIXELS then Some (ReadPixels (read_at words) (slice_index words 6))
    else if number == GET_ERROR then Some GetError
    else query_by (formed_query_in number words) (parameter_query_in number words) (byte_query_in number words) (slice_index words 1)

-- the call that a query means
abbrev pub query_call : QueryCommand → QueryCall
query_call (ReadPixels words bucket) = calls.ReadPixels words
query_call GetError = calls.GetError
query_call (Words query) = calls.Words query
query_call (Bytes query bucket) = calls.Bytes query

-- the bucket that the reply goes into, if it goes into one
abbrev pub query_bucket : QueryCommand → Option ℕ
query_bucket (ReadPixels words bucket) = Some bucket
query_bucket GetError = None
query_bucket (Words query) = None
query_bucket (Bytes query bucket) = Some bucket
