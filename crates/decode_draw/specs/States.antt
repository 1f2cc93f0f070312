-- The state of the service with the parts that a command on the fixed state, or one that clears or draws, is lent.
use Rattle.gl_plain.specs.declared.errors.Errors.{Errors}
use Rattle.gl_plain.specs.subjects.Draws.{Sources}
use Rattle.gl_plain.specs.State.{Surface, WireState}
use Rattle.target_mgr.specs.declared.targets.Targets.{Targets}
use Rattle.target_mgr.specs.Tables.{renderbuffers, framebuffers, marks}
use Rattle.buffer_mgr.specs.declared.buffers.Buffers.{Buffers}
use Rattle.buffer_mgr.specs.Tables.{tables}
use Rattle.texture_mgr.specs.declared.textures.Textures.{Textures}
use Rattle.texture_mgr.specs.Tables as textures_as
use Rattle.attrib_mgr.specs.declared.attribs.Attribs.{Attribs}
use Rattle.program_mgr.specs.declared.programs.Programs.{Programs}
use Rattle.program_mgr.specs.Tables as programs_as
use Rattle.svc_raster.specs.declared.raster.Raster.{Raster}
use Rattle.whole_images.specs.Views.{drawable}

-- the state with these textures, and what is written of them
abbrev pub textures_in : Textures → WireState → WireState
textures_in t w = record w { es = record w.es { textures = textures_as.tables t }; covers = textures_as.covers t }

-- the state with this fixed state and these alignments
abbrev pub raster_in : Raster → WireState → WireState
raster_in r w = record w { es = record w.es { raster = r.words; alignments = r.alignments } }

-- the state with both
abbrev pub own_in : Textures → Raster → WireState → WireState
own_in t r w = record w { es = record w.es { textures = textures_as.tables t; raster = r.words; alignments = r.alignments }; covers = textures_as.covers t }

-- the state with all seven
abbrev pub draws_in : Buffers → Textures → Targets → Programs → Attribs → Raster → Errors → WireState → WireState
draws_in b t g p a r e w = record w {
  es = record w.es { buffers = tables b; textures = textures_as.tables t; renderbuffers = renderbuffers g; framebuffers = framebuffers g; attribs = a.attributes; programs = programs_as.tables p; raster = r.words; alignments = r.alignments; errors = e };
  covers = textures_as.covers t;
  marks = marks g;
}

-- what a draw reads of them
abbrev pub sources : Surface → Buffers → Textures → Targets → Programs → Attribs → Sources
sources surface b t g p a = record { buffers = (tables b).objects; element = (tables b).element; attribs = a.attributes; executable = (programs_as.tables p).installed; drawable = drawable surface t g }
