use Rattle.std.proofs.Common.{◌≡◌, ◌<◌, ◌^◌, drop}
use Rattle.gl_plain.specs.Fields.{value_on}
use Rattle.gl_plain.proofs.fields.digits.Given as goal

-- the rest behind the value so far is worth what the whole is
abbrev pub invariant-loop-c : goal.invariant-loop-c
invariant-loop-c l = record {
  same : value_on l.base l.value (drop l.c-index l.text) ≡ value_on l.base 0 l.text;
  fits : l.value < 2 ^ 32;
}
