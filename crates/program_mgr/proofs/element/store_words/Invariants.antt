use Rattle.std.proofs.Common.{◌≡◌, take, map}
use Rattle.gl_plain.specs.Bytes.{words_from}
use Rattle.gl_plain.specs.subjects.Uniforms.{as_stored}
use Rattle.program_mgr.proofs.element.store_words.Given as goal

abbrev pub invariant-loop-i : goal.invariant-loop-i
invariant-loop-i l = take l.i l.values ≡ map (as_stored l.uniform l.kind) (words_from l.bytes 0 l.i)
