-- The ring: headers, the ordered tests of a command that need no tables, and where the next command stands.
use Rattle.std.specs.Prelude.{ℕ, ◌+◌, ◌-◌, ◌/◌, ◌%◌, ◌^◌, ◌==◌, nat_lt, nat_le, if◌then◌else◌, Option, Some, None}
use Rattle.gl_plain.specs.declared.commands.Malformed.{Malformed}
use Rattle.gl_plain.specs.declared.commands.Malformed.TheVariants.{InvalidSize, OutOfBounds, UnknownCommand, InvalidArguments}
use Rattle.cb_format.specs.declared.layouts.Layout.{Layout}
use Rattle.cb_format.specs.declared.layouts.Plan.{Plan}
use Rattle.cb_format.specs.declared.layouts.Plan.TheVariants.{Nothing, Read, Write}
use Rattle.cb_format.specs.Layouts.{layout_of}
use Rattle.gl_plain.specs.Regions.{is_inside}

-- the low 21 bits of a header: the entries of the command, with the header
abbrev pub size_in : ℕ → ℕ
size_in header = header % 2 ^ 21

-- the high 11 bits of a header: the number of the command
abbrev pub number_in : ℕ → ℕ
number_in header = header / 2 ^ 21

-- the entries from get on that are ready; a command does not cross the ring's end
abbrev pub ready : ℕ → ℕ → ℕ → ℕ
ready entries put get = if nat_lt get put then put - get else entries - get

-- the size is not that of the layout
abbrev pub layout_fault : ℕ → Option Layout → Option Malformed
layout_fault size None = Some UnknownCommand
layout_fault size (Some l) = if l.any_size then None else if size == l.words + 1 then None else Some InvalidArguments

-- the first of the five tests of a header that fails
unfoldable pub first_fault : ℕ → ℕ → ℕ → ℕ → Option Malformed
first_fault entries put get header =
    if nat_le entries put then Some OutOfBounds
    else if size_in header == 0 then Some InvalidSize
    else if nat_lt (ready entries put get) (size_in header) then Some OutOfBounds
    else layout_fault (size_in header) (layout_of (number_in header))

-- the sixth test: the range that the words name does not lie in a region that is there
abbrev pub range_fault : (ℕ → Option ℕ) → Plan → Option Malformed
range_fault sizes Nothing = None
range_fault sizes (Read region offset count) = if is_inside sizes region offset count then None else Some OutOfBounds
range_fault sizes (Write region offset count) = if is_inside sizes region offset count then None else Some OutOfBounds

-- the entry behind a command
abbrev pub next_get : ℕ → ℕ → ℕ → ℕ
next_get entries get size = if get + size == entries then 0 else get + size
