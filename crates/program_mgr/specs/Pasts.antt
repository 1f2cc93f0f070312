-- What an event adds to the past of a shader or a program.
use Rattle.std.specs.Prelude.{[], ◌∷◌, ◌++◌, Some, None, unwrap_or}
use Rattle.program_mgr.specs.declared.past.Event.{Event}
use Rattle.program_mgr.specs.declared.past.Event.TheVariants.{Compiled, Asked, Linked}
use Rattle.program_mgr.specs.declared.past.Past.{Past}

-- nothing was compiled, asked for or linked
abbrev pub no_past : Past
no_past = record { compiled = None; bound = []; vertex = []; fragment = []; log = [] }

-- the past with one compilation, one location or one link more
abbrev pub with_event : Past → Event → Past
with_event p (Compiled source) = record p { compiled = Some source.now }
with_event p (Asked index name) = record p { bound = p.bound ++ record { name = name.now; index = index } ∷ [] }
with_event p (Linked vertex fragment log) =
    record p { vertex = unwrap_or vertex.now.compiled []; fragment = unwrap_or fragment.now.compiled []; log = log.now }
