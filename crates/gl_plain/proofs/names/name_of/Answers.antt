use Rattle.std.proofs.Common.{◌≡◌, ◌<◌, ◌^◌, ℕ, Bool, true, false, List, ◌∷◌, sym, ap, subst, ◌∙◌, ◌==◌, if◌then◌else◌, arith}
use Rattle.std.proofs.Math.Facts.{Fits-bits}
use Rattle.std.specs.List.{All}
use Rattle.std.proofs.lemmas.List.Elements.{All-tail}
use Rattle.std.proofs.lemmas.Bool.Decides.{nat_tests}
use Rattle.std.specs.FinMap as map
use Rattle.gl_plain.specs.declared.objects.Name.{Name}
use Rattle.gl_plain.specs.subjects.Names as d
use Rattle.gl_plain.proofs.names.name_of.Goals as goal

abbrev Entries : Type 0
Entries = List (ℕ × Name)

abbrev AreWords : Entries → Type 0
AreWords es = All (λ (e : ℕ × Name). e.0 < 2 ^ 32) es

pub loop-id-init : goal.loop-id-init
loop-id-init c =
    let same : map.entries c.args.names.now ≡ c.into_iter-id-iterator.result = sym (c.into_iter-id-iterator.ensures.into_iter_gives ∙ c.iter-id-items.ensures.rest) in
    (ap (λ (es : List (ℕ × Name)). d.name_among es c.args.number) same, subst AreWords same (λ k e h. c.requires _ _ (c.iter-id-items.ensures.found k e h)))

-- the first of the entries that are left is a word
first_word : (es rest : Entries) (e : ℕ × Name) → es ≡ e ∷ rest → AreWords es → e.0 < 2 ^ 32
first_word es rest e is words = subst AreWords is words 0 e (omega arith)

other_words : (es rest : Entries) (e : ℕ × Name) → es ≡ e ∷ rest → AreWords es → AreWords rest
other_words es rest e is words = All-tail (λ (x : ℕ × Name). x.0 < 2 ^ 32) e rest (subst AreWords is words)

-- it is what is looked for, or else that is among the others
step : (es rest : Entries) (e : ℕ × Name) (n : ℕ) (b : Bool) → es ≡ e ∷ rest → (e.1.number == n) ≡ b → d.name_among es n ≡ (if b then e.0 else d.name_among rest n)
step es rest e n b is same = ap (λ (xs : Entries). d.name_among xs n) is ∙ ap (λ (t : Bool). if t then e.0 else d.name_among rest n) same

pub overflow_cast-result : goal.overflow_cast-result
overflow_cast-result c = Fits-bits 32 tt (first_word _ _ _ c.in-Some.ensures.steps c.loop-id.invariant.1)

pub returns-then-name-number : goal.returns-then-name-number
returns-then-name-number c = sym (c.loop-id.invariant.0 ∙ step _ _ _ c.args.number true c.in-Some.ensures.steps (grind (arith, nat_tests)))

pub loop-id-preserved : goal.loop-id-preserved
loop-id-preserved c = (c.loop-id.invariant.0 ∙ step _ _ _ c.args.number false c.in-Some.ensures.steps (grind (arith, nat_tests)), other_words _ _ _ c.in-Some.ensures.steps c.loop-id.invariant.1)

pub returns : goal.returns
returns c = sym (c.loop-id.invariant.0 ∙ ap (λ (es : Entries). d.name_among es c.args.number) c.in-None.ensures.steps.0)
