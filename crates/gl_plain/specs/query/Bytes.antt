-- The queries whose answer is bytes, a line each: the code that each is refused with, and the answer. All are of a shader or of a program.
use Rattle.std.specs.Prelude.{ℕ, List, Option}
use Rattle.gl_plain.specs.declared.errors.GlError.{GlError}
use Rattle.gl_plain.specs.declared.queries.ByteQuery.{ByteQuery}
use Rattle.gl_plain.specs.declared.queries.ByteQuery.TheVariants.{GetShaderInfoLog, GetProgramInfoLog, GetShaderSource, GetProgramTable, GetAttachedShaders}
use Rattle.gl_plain.specs.subjects.ProgramQueries.{shader_log, shader_source, program_log, table_of, attached_shaders}
use Rattle.gl_plain.specs.subjects.Programs.{ProgramTables, executable_in, program_at, program_refusal, shader_at, shader_refusal}

abbrev pub byte_query_refusal : ProgramTables → ByteQuery → Option GlError
byte_query_refusal t (GetShaderInfoLog shader) = shader_refusal t shader
byte_query_refusal t (GetProgramInfoLog program) = program_refusal t program
byte_query_refusal t (GetShaderSource shader) = shader_refusal t shader
byte_query_refusal t (GetProgramTable program) = program_refusal t program
byte_query_refusal t (GetAttachedShaders program) = program_refusal t program

abbrev pub byte_query_reply : ProgramTables → ByteQuery → List ℕ
byte_query_reply t (GetShaderInfoLog shader) = shader_log (shader_at t shader)
byte_query_reply t (GetProgramInfoLog program) = program_log (program_at t program)
byte_query_reply t (GetShaderSource shader) = shader_source (shader_at t shader)
byte_query_reply t (GetProgramTable program) = table_of (executable_in (program_at t program))
byte_query_reply t (GetAttachedShaders program) = attached_shaders t program
