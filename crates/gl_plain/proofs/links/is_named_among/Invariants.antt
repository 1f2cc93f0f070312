use Rattle.std.proofs.Common.{◌≡◌, drop}
use Rattle.std.specs.List.{list_any}
use Rattle.gl_plain.specs.declared.programs.Uniform.{Uniform}
use Rattle.gl_plain.specs.subjects.Links.{is_same_name}
use Rattle.gl_plain.proofs.links.is_named_among.Given as goal

-- the uniforms ahead decide
abbrev pub invariant-loop-other : goal.invariant-loop-other
invariant-loop-other l =
    list_any (λ (b : Uniform). is_same_name b.name l.name) (drop l.other-index l.before) ≡ list_any (λ (b : Uniform). is_same_name b.name l.name) l.before
