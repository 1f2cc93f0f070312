-- The state of the service with the parts that a command on objects is lent, and what a command means there.
use Rattle.std.specs.Prelude.{ℕ, List}
use Rattle.gl_plain.specs.declared.commands.ObjectCommand.{ObjectCommand}
use Rattle.gl_plain.specs.declared.commands.Command.TheVariants.{Object}
use Rattle.gl_plain.specs.declared.errors.Errors.{Errors}
use Rattle.gl_plain.specs.State.{WireState}
use Rattle.gl_plain.specs.Meaning.{Meaning, own_meaning}
use Rattle.buffer_mgr.specs.declared.buffers.Buffers.{Buffers}
use Rattle.buffer_mgr.specs.Tables.{tables}
use Rattle.texture_mgr.specs.declared.textures.Textures.{Textures}
use Rattle.texture_mgr.specs.Tables as textures_as
use Rattle.target_mgr.specs.declared.targets.Targets.{Targets}
use Rattle.target_mgr.specs.Tables.{renderbuffers, framebuffers, marks}
use Rattle.attrib_mgr.specs.declared.attribs.Attribs.{Attribs}
use Rattle.program_mgr.specs.declared.programs.Programs.{Programs}
use Rattle.program_mgr.specs.Tables as programs_as

-- the state with these buffers
abbrev pub buffers_in : Buffers → WireState → WireState
buffers_in b w = record w { es = record w.es { buffers = tables b } }

-- the state with these vertex attributes
abbrev pub attribs_in : Attribs → WireState → WireState
attribs_in a w = record w { es = record w.es { attribs = a.attributes } }

-- the state with these shaders and programs
abbrev pub programs_in : Programs → WireState → WireState
programs_in p w = record w { es = record w.es { programs = programs_as.tables p } }

-- the state with these textures, and what is written of them
abbrev pub textures_in : Textures → WireState → WireState
textures_in t w = record w { es = record w.es { textures = textures_as.tables t }; covers = textures_as.covers t }

-- the state with these renderbuffers and framebuffers, and which of the former are written
abbrev pub targets_in : Targets → WireState → WireState
targets_in g w = record w { es = record w.es { renderbuffers = renderbuffers g; framebuffers = framebuffers g }; marks = marks g }

-- the state with these textures, renderbuffers and framebuffers
abbrev pub attached_in : Textures → Targets → WireState → WireState
attached_in t g w =
    record w { es = record w.es { textures = textures_as.tables t; renderbuffers = renderbuffers g; framebuffers = framebuffers g }; covers = textures_as.covers t; marks = marks g }

-- the state with these codes recorded
abbrev pub errors_in : Errors → WireState → WireState
errors_in e w = record w { es = record w.es { errors = e } }

-- the state with all six
abbrev pub objects_in : Buffers → Textures → Targets → Programs → Attribs → Errors → WireState → WireState
objects_in b t g p a e w = record w {
  es = record w.es { buffers = tables b; textures = textures_as.tables t; renderbuffers = renderbuffers g; framebuffers = framebuffers g; attribs = a.attributes; programs = programs_as.tables p; errors = e };
  covers = textures_as.covers t;
  marks = marks g;
}

-- what is left of a command, once it was found to be neither malformed nor refused
abbrev pub own_part : ObjectCommand → List ℕ → WireState → Meaning WireState
own_part c payload w = own_meaning w (Object c) payload
