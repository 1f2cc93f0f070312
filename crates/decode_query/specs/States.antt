-- The state of the service with the parts that a query is lent, and what a query means there.
use Rattle.std.specs.Prelude.{◌≡◌, None, []}
use Rattle.gl_plain.specs.declared.commands.Command.TheVariants.{Query}
use Rattle.gl_plain.specs.declared.commands.QueryCommand.{QueryCommand}
use Rattle.gl_plain.specs.declared.errors.Errors.{Errors}
use Rattle.gl_plain.specs.query.Refusal.{query_command_refusal}
use Rattle.gl_plain.specs.State.{EsState, WireState, DriverState}
use Rattle.gl_plain.specs.Meaning.{Meaning, command_meaning, own_meaning}
use Rattle.gl_laws.specs.Laws.{MayGoOn}
use Rattle.texture_mgr.specs.declared.textures.Textures.{Textures}
use Rattle.texture_mgr.specs.Tables.{tables, covers}
use Rattle.target_mgr.specs.declared.targets.Targets.{Targets}
use Rattle.target_mgr.specs.Tables.{renderbuffers, framebuffers, marks}
use Rattle.svc_raster.specs.declared.raster.Raster.{Raster}
use Rattle.attrib_mgr.specs.declared.attribs.Attribs.{Attribs}
use Rattle.buffer_mgr.specs.declared.buffers.Buffers.{Buffers}
use Rattle.buffer_mgr.specs.Tables as buffers_as
use Rattle.program_mgr.specs.declared.programs.Programs.{Programs}
use Rattle.program_mgr.specs.Tables as programs_as
use Rattle.decode_query.specs.declared.asked.Asked.{Asked}

-- the tables of these textures, renderbuffers and framebuffers, and this fixed state
abbrev pub read_in : Textures → Targets → Raster → EsState → EsState
read_in t g r s = record s { textures = tables t; renderbuffers = renderbuffers g; framebuffers = framebuffers g; raster = r.words; alignments = r.alignments }

-- the state with them, what is written of images, and the codes that are recorded
abbrev pub queries_in : Textures → Targets → Raster → Errors → WireState → WireState
queries_in t g r e w = record w {
  es = record w.es { textures = tables t; renderbuffers = renderbuffers g; framebuffers = framebuffers g; raster = r.words; alignments = r.alignments; errors = e };
  covers = covers t;
  marks = marks g;
}

-- the tables that queries read beside those, in a state
abbrev pub lent_in : Buffers → Programs → Attribs → EsState → EsState
lent_in b p a s = record s { buffers = buffers_as.tables b; programs = programs_as.tables p; attribs = a.attributes }

-- the state of all tables that queries read
abbrev pub asked_in : Asked → EsState → EsState
asked_in a s = read_in a.textures.now a.targets.now a.raster.now (lent_in a.buffers.now a.programs.now a.attribs.now s)

-- the state of the service with all tables that a query is lent
abbrev pub all_in : Buffers → Textures → Targets → Programs → Attribs → Raster → Errors → WireState → WireState
all_in b t g p a r e w = queries_in t g r e (record w { es = lent_in b p a w.es })

-- what is left of a query behind its zeroings, once it was found not to be refused
abbrev pub own_part : QueryCommand → WireState → Meaning WireState
own_part c w = own_meaning w (Query c) []

-- a query
abbrev pub means : QueryCommand → WireState → Meaning WireState
means c w = command_meaning w (Query c) []

-- the query is not refused, and its driver calls may be made
pub record IsReady (c : QueryCommand) (before : WireState → WireState) (d : DriverState) : Type 0 where
  pub others : WireState
  pub taken : query_command_refusal (before others).es c ≡ None
  pub may : MayGoOn (before others) d (Query c) []
