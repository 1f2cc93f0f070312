-- That a driver with no calls may be given any answers.
use Rattle.std.proofs.Common.{ℕ, ◌∙◌, ap}
use Rattle.std.proofs.lemmas.List.Sorted.{IsNonDecreasingBy-from_sort}
use Rattle.gl_plain.specs.declared.driver_calls.Answers.{Answers}
use Rattle.gl_plain.specs.Oracle.{answers_of}
use Rattle.strict_driver.specs.StrictView.{StrictView}
use Rattle.strict_driver.proofs.Entering.{strict_opening, counted_opening, step_opening, same_room}
use Rattle.strict_driver.proofs.strict.StrictDriver.load.Goals as goal

pub invariant_of-self : goal.invariant_of-self
invariant_of-self c =
    let none = ap (λ (v : StrictView). v.journal) c.self.view_is ∙ c.requires.opening in
    let going = ap (λ (v : StrictView). v.stop) c.self.view_is ∙ c.requires.going in
    let sorted = IsNonDecreasingBy-from_sort (λ (k : ℕ). k) _ c.sort_unstable.ensures.sorted in
    let loaded : Answers = record c.args.answers { oom = c.from_vec.result } in
    rw (none, going, c.new-self-inside.ensures) (record {
      journal = strict_opening c.new.result.surface loaded;
      counted = counted_opening loaded (rw c.from_vec.ensures sorted) c.requires.sound;
      in_step = λ still. step_opening c.new.result c.args.surface c.new.ensures.state c.new.ensures.surface;
    })

pub returns-clause-answers : goal.returns-clause-answers
returns-clause-answers c =
    let none = ap (λ (v : StrictView). v.journal) c.self.view_is ∙ c.requires.opening in
    rw none (λ i. record (answers_of c.args.answers) { stored = same_room c.args.answers.oom c.from_vec.result (rw (c.from_vec.ensures, ← c.into_vec-oom.ensures) c.sort_unstable.ensures.permutation) i })
