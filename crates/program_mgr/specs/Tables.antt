-- The part of the state tables that the programs are.
use Rattle.std.specs.Prelude.{ℕ, Bool, true, false, ◌==◌, ◌&&◌, if◌then◌else◌, List, Option, None, Some, is_some}
use Rattle.std.specs.Ordering.{nat_cmp}
use Rattle.std.specs.FinMap as map
use Rattle.gl_plain.specs.declared.programs.Program.{Program}
use Rattle.gl_plain.specs.declared.programs.Executable.{Executable}
use Rattle.gl_plain.specs.subjects.Programs.{ProgramTables, can_link, changed_at, executable_in, program_at, without}
use Rattle.program_mgr.specs.declared.programs.Programs.{Programs}

-- the first of two, where it is there
abbrev pub or_else : Option Executable → Option Executable → Option Executable
or_else None other = other
or_else (Some e) other = Some e

-- what is in use: the executable of the current program, or where it has none, the one that was kept when a link failed
abbrev pub in_use : Bool → map.FinMap nat_cmp Program → ℕ → Option Executable → Option Executable
in_use false programs current kept = None
in_use true programs current kept = or_else (executable_in (map.get programs current)) kept

-- what the fields of a `Programs` are in the state tables
abbrev pub tables : Programs → ProgramTables
tables p = record { names = p.names; ids = p.ids; shaders = p.shaders; programs = p.programs; current = p.current; installed = in_use p.is_used p.programs p.current p.kept }

-- the executable of a program that goes from it is kept, where the program is current
abbrev pub kept_after : ℕ → ℕ → Option Executable → Option Executable → Option Executable
kept_after current number before kept = if current == number then or_else before kept else kept

-- a program is marked for deletion
abbrev pub marked_program : ProgramTables → ℕ → ProgramTables
marked_program t number = record t { programs = changed_at t.programs number (λ p. record p { is_deleted = true }) }

-- a program has a shader attached no more
abbrev pub detached_from : ProgramTables → ℕ → ℕ → ProgramTables
detached_from t program shader = record t { programs = changed_at t.programs program (λ p. record p { attached = without p.attached shader }) }

-- the two shaders that a link wants are attached to the program of this name, and compiled
abbrev pub can_link_by : ProgramTables → Option Program → Bool
can_link_by t None = false
can_link_by t (Some p) = can_link t.shaders p.attached

abbrev pub can_link_at : ProgramTables → ℕ → Bool
can_link_at t id = can_link_by t (program_at t id)

-- a link said this, and made this executable where it went well
abbrev pub with_link_by : ProgramTables → ℕ → List ℕ → Option Executable → Option Program → ProgramTables
with_link_by t number log executable None = t
with_link_by t number log executable (Some p) = record t {
  programs = map.insert t.programs number (record p { log = log; executable = executable });
  installed = if is_some executable && (t.current == number) then executable else t.installed;
}

abbrev pub with_link : ProgramTables → ℕ → List ℕ → Option Executable → ProgramTables
with_link t number log executable = with_link_by t number log executable (map.get t.programs number)
