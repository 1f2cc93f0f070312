-- The tables that a driver's tables are, beside its journal.
use Rattle.std.specs.Prelude.{◌≡◌, ◌++◌, List}
use Rattle.gl_plain.specs.declared.driver_calls.DriverEntry.{DriverEntry}
use Rattle.gl_plain.specs.State.{Surface, DriverTables, DriverState, opening_driver}
use Rattle.gl_plain.specs.Journal.{state_after}
use Rattle.strict_driver.specs.declared.tables.Tables.{Tables}
use Rattle.strict_driver.specs.KeptBuffers.{buffers_of}
use Rattle.strict_driver.specs.KeptTextures.{textures_of}
use Rattle.strict_driver.specs.KeptTargets.{framebuffers_of}

-- Tables of a driver with the surface, the buffers, the textures, the renderbuffers, the framebuffers, the attributes, and the names of these
-- objects that are kept. Of shaders and programs, and of the fixed state, nothing is kept, since no answer depends on them: they are as they were.
abbrev pub state_of : DriverTables → List DriverEntry → Tables → DriverTables
state_of t journal kept = record t {
  surface = kept.surface;
  buffers = buffers_of journal kept.buffers;
  textures = textures_of kept.textures;
  renderbuffers = kept.renderbuffers.tables;
  framebuffers = framebuffers_of kept.framebuffers;
  attribs = kept.attributes;
  given = record t.given {
    buffers = kept.buffers.names.given;
    textures = kept.textures.names.given;
    renderbuffers = kept.renderbuffers.given;
    framebuffers = kept.framebuffers.names.given;
  };
}

-- the tables that are kept are those of the driver, whatever comes behind its journal
abbrev pub Follow : DriverTables → List DriverEntry → Tables → Type 0
Follow t journal kept = (more : List DriverEntry) → state_of t (journal ++ more) kept ≡ t

-- the state that a journal leaves from the opening state on
abbrev pub left_by : Surface → List DriverEntry → DriverState
left_by surface journal = state_after (opening_driver surface) journal
