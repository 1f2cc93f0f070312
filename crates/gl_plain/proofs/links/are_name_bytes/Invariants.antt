use Rattle.std.proofs.Common.{◌≡◌, drop}
use Rattle.std.specs.List.{list_all}
use Rattle.gl_plain.specs.subjects.Links.{is_name_byte}
use Rattle.gl_plain.proofs.links.are_name_bytes.Given as goal

-- the bytes ahead decide
abbrev pub invariant-loop-c : goal.invariant-loop-c
invariant-loop-c l = list_all is_name_byte (drop l.c-index l.name) ≡ list_all is_name_byte l.name
