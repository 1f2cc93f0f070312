-- Queries with all tables that they are lent: what they are refused with depends on those tables alone.
use Rattle.std.proofs.Common.{◌≡◌, None, refl, ◌∙◌}
use Rattle.gl_plain.specs.declared.errors.Errors.{Errors}
use Rattle.gl_plain.specs.declared.commands.QueryCommand.{QueryCommand}
use Rattle.gl_plain.specs.declared.commands.QueryCommand.TheVariants.{Words}
use Rattle.gl_plain.specs.declared.queries.WordQuery.{WordQuery}
use Rattle.gl_plain.specs.declared.queries.WordQuery.TheVariants.{GetValue, CheckFramebufferStatus, GetBufferParameteriv, GetTexParameteriv, GetRenderbufferParameteriv, GetFramebufferAttachmentParameteriv, GetVertexAttrib, GetShaderiv, GetProgramiv, GetUniform, IsObject, GetMaxIndex}
use Rattle.gl_plain.specs.State.{EsState, WireState, DriverState}
use Rattle.gl_plain.specs.query.Words.{word_query_refusal}
use Rattle.attrib_mgr.specs.declared.attribs.Attribs.{Attribs}
use Rattle.buffer_mgr.specs.declared.buffers.Buffers.{Buffers}
use Rattle.program_mgr.specs.declared.programs.Programs.{Programs}
use Rattle.svc_raster.specs.declared.raster.Raster.{Raster}
use Rattle.target_mgr.specs.declared.targets.Targets.{Targets}
use Rattle.texture_mgr.specs.declared.textures.Textures.{Textures}
use Rattle.decode_query.specs.States.{all_in, lent_in, queries_in, read_in, IsReady}

module _ (b : Buffers) (t : Textures) (g : Targets) (p : Programs) (a : Attribs) (r : Raster) where
  abbrev asked : EsState → EsState
  asked s = read_in t g r (lent_in b p a s)

  pub words_alike : (q : WordQuery) (s u : EsState) → word_query_refusal (asked s) q ≡ word_query_refusal (asked u) q
  words_alike (GetValue form pname) s u = refl
  words_alike (CheckFramebufferStatus target) s u = refl
  words_alike (GetBufferParameteriv target pname) s u = refl
  words_alike (GetTexParameteriv target pname) s u = refl
  words_alike (GetRenderbufferParameteriv target pname) s u = refl
  words_alike (GetFramebufferAttachmentParameteriv target attachment pname) s u = refl
  words_alike (GetVertexAttrib index pname float) s u = refl
  words_alike (GetShaderiv shader pname) s u = refl
  words_alike (GetProgramiv program pname) s u = refl
  words_alike (GetUniform program location float) s u = refl
  words_alike (IsObject kind name) s u = refl
  words_alike (GetMaxIndex offset count kind) s u = refl

  module _ (e : Errors) where
    abbrev all : WireState → WireState
    all = all_in b t g p a r e

    abbrev lent : WireState → WireState
    lent w = record w { es = lent_in b p a w.es }

    -- a query that is not refused is not refused whatever stands in the other tables
    pub words_taken : (q : WordQuery) (d : DriverState) → IsReady (Words q) all d → (s : EsState) → word_query_refusal (asked s) q ≡ None
    words_taken q d ready s = words_alike q s (all ready.others).es ∙ ready.taken

    -- a read is lent fewer tables
    pub read_ready : (c : QueryCommand) (d : DriverState) → IsReady c all d → IsReady c (queries_in t g r e) d
    read_ready c d ready = record { others = lent ready.others; taken = ready.taken; may = ready.may }
