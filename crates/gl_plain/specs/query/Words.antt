-- The queries whose answer is words, a line each: the code that each is refused with, and the answer.
use Rattle.std.specs.Prelude.{ℕ, Bool, ◌==◌, if◌then◌else◌, Option, None, Some, is_some}
use Rattle.std.specs.FinMap as table
use Rattle.gl_base.specs.declared.gl_enum.GlEnum.{GlEnum}
use Rattle.gl_base.specs.declared.enums.TheConstants.{UNSIGNED_BYTE, UNSIGNED_SHORT}
use Rattle.gl_base.specs.declared.target_enums.TheConstants.{FRAMEBUFFER}
use Rattle.gl_plain.specs.declared.calls.Reply.{Reply}
use Rattle.gl_plain.specs.declared.calls.Reply.TheVariants as reply
use Rattle.gl_plain.specs.declared.errors.GlError.{GlError}
use Rattle.gl_plain.specs.declared.errors.GlError.TheVariants.{InvalidEnum}
use Rattle.gl_plain.specs.declared.queries.IndexKind.{IndexKind}
use Rattle.gl_plain.specs.declared.queries.IndexKind.TheVariants.{UnsignedByte, UnsignedShort}
use Rattle.gl_plain.specs.declared.queries.ObjectKind.{ObjectKind}
use Rattle.gl_plain.specs.declared.queries.ObjectKind.TheVariants as kind
use Rattle.gl_plain.specs.declared.queries.WordQuery.{WordQuery}
use Rattle.gl_plain.specs.declared.queries.WordQuery.TheVariants.{GetValue, CheckFramebufferStatus, GetBufferParameteriv, GetTexParameteriv, GetRenderbufferParameteriv, GetFramebufferAttachmentParameteriv, GetVertexAttrib, GetShaderiv, GetProgramiv, GetUniform, IsObject, GetMaxIndex}
use Rattle.gl_plain.specs.subjects.Buffers.{bound}
use Rattle.gl_plain.specs.subjects.Draws.{element_bytes, max_index}
use Rattle.gl_plain.specs.subjects.Parameters.{flag, buffer_parameter_refusal, buffer_parameter, get_tex_parameter_refusal, get_tex_parameter, renderbuffer_parameter_refusal, get_renderbuffer_parameter, attachment_parameter_refusal, get_attachment_parameter, get_vertex_attrib_refusal, get_vertex_attrib}
use Rattle.gl_plain.specs.subjects.ProgramQueries.{get_shader_refusal, shader_parameter, get_program_refusal, program_parameter, get_uniform_refusal, get_uniform}
use Rattle.gl_plain.specs.subjects.Programs.{program_at, shader_at}
use Rattle.gl_plain.specs.subjects.Targets.{is_made, status_in}
use Rattle.gl_plain.specs.subjects.Values.{Queried, get_value_refusal, get_value}
use Rattle.gl_plain.specs.State.{EsState, drawable_of, sources_of}

-- the state that is asked for by name
abbrev pub queried_of : EsState → Queried
queried_of s = record { raster = s.raster; alignments = s.alignments; buffers = s.buffers; textures = s.textures; renderbuffers = s.renderbuffers; framebuffers = s.framebuffers; programs = s.programs }

-- a target that is none (section 4.4.5)
abbrev pub status_refusal : GlEnum → Option GlError
status_refusal target = if target.0 == FRAMEBUFFER.0 then None else Some InvalidEnum

abbrev pub word_query_refusal : EsState → WordQuery → Option GlError
word_query_refusal s (GetValue form pname) = get_value_refusal (queried_of s) form pname
word_query_refusal s (CheckFramebufferStatus target) = status_refusal target
word_query_refusal s (GetBufferParameteriv target pname) = buffer_parameter_refusal s.buffers target pname
word_query_refusal s (GetTexParameteriv target pname) = get_tex_parameter_refusal target pname
word_query_refusal s (GetRenderbufferParameteriv target pname) = renderbuffer_parameter_refusal s.renderbuffers target pname
word_query_refusal s (GetFramebufferAttachmentParameteriv target attachment pname) =
    attachment_parameter_refusal s.textures.objects s.renderbuffers.objects s.framebuffers target attachment pname
word_query_refusal s (GetVertexAttrib index pname float) = get_vertex_attrib_refusal index pname float
word_query_refusal s (GetShaderiv shader pname) = get_shader_refusal s.programs shader pname
word_query_refusal s (GetProgramiv program pname) = get_program_refusal s.programs program pname
word_query_refusal s (GetUniform program location float) = get_uniform_refusal s.programs program location float
word_query_refusal s (IsObject kind name) = None
word_query_refusal s (GetMaxIndex offset count kind) = None

-- a name of an object of this kind: one that was only given by Gen is none yet
abbrev pub is_object_named : EsState → ObjectKind → ℕ → Bool
is_object_named s kind.Buffer name = is_made (table.get s.buffers.names name)
is_object_named s kind.Texture name = is_made (table.get s.textures.names name)
is_object_named s kind.Renderbuffer name = is_made (table.get s.renderbuffers.names name)
is_object_named s kind.Framebuffer name = is_made (table.get s.framebuffers.names name)
is_object_named s kind.Shader name = is_some (shader_at s.programs name)
is_object_named s kind.Program name = is_some (program_at s.programs name)

-- the enum of a kind of indices
abbrev pub index_enum : IndexKind → GlEnum
index_enum UnsignedByte = UNSIGNED_BYTE
index_enum UnsignedShort = UNSIGNED_SHORT

-- one word, if there is one
abbrev pub word_reply : Option ℕ → Reply
word_reply None = reply.None
word_reply (Some word) = reply.Word word

abbrev pub word_query_reply : EsState → WordQuery → Reply
word_query_reply s (GetValue form pname) = reply.Words (get_value (queried_of s) form pname)
word_query_reply s (CheckFramebufferStatus target) = reply.Word (status_in (drawable_of s))
word_query_reply s (GetBufferParameteriv target pname) = reply.Word (buffer_parameter (bound s.buffers target) pname)
word_query_reply s (GetTexParameteriv target pname) = reply.Word (get_tex_parameter s.textures.objects target pname)
word_query_reply s (GetRenderbufferParameteriv target pname) = reply.Word (get_renderbuffer_parameter s.renderbuffers pname)
word_query_reply s (GetFramebufferAttachmentParameteriv target attachment pname) =
    reply.Word (get_attachment_parameter s.textures.objects s.renderbuffers.objects s.framebuffers attachment pname)
word_query_reply s (GetVertexAttrib index pname float) = reply.Words (get_vertex_attrib s.buffers.names s.attribs index pname float)
word_query_reply s (GetShaderiv shader pname) = reply.Word (shader_parameter (shader_at s.programs shader) pname)
word_query_reply s (GetProgramiv program pname) = reply.Word (program_parameter (program_at s.programs program) pname)
word_query_reply s (GetUniform program location float) = reply.Words (get_uniform s.programs program location float)
word_query_reply s (IsObject kind name) = reply.Word (flag (is_object_named s kind name))
word_query_reply s (GetMaxIndex offset count kind) = word_reply (max_index (element_bytes (sources_of s)) offset count (index_enum kind))
