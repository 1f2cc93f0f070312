use Rattle.std.proofs.Common.{◌≡◌, ◌++◌, drop, map}
use Rattle.gl_plain.specs.Bytes.{bytes_of_words}
use Rattle.gl_plain.specs.subjects.ProgramQueries as d
use Rattle.program_mgr.specs.Tables as programs_as
use Rattle.decode_query.proofs.bytes.names_of.Given as goal

abbrev pub invariant-loop-number : goal.invariant-loop-number
invariant-loop-number l =
    l.bytes.items ++ bytes_of_words (map (d.name_in (programs_as.tables l.programs)) (drop l.number-index l.numbers)) ≡ bytes_of_words (map (d.name_in (programs_as.tables l.programs)) l.numbers)
