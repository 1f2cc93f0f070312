-- `new` makes a value of no bytes, whose ghost field is an empty list.
use Rattle.std.proofs.Common.{[], ◌∷◌, refl}
use types.Kit.{raw, ◌$◌, ◌∵◌, !, qed, keep, join, fjoin, suffices, done}
use types.Part.{agg}
use types.Run.{enter, returns, no_more}
use types.ByLocal.{alloc_all, pass_all, free_all, look_at, sets}
use denote.Steps.{nothing}
use denote.Triple.Entry.{on_entry}
use denote.Triple.Walked.{says, ends_at}
use Rattle.std.proofs.raw_atomic.Walks.{proved}
use Rattle.counting_driver.specs.Entries.{no_entries}
use Rattle.counting_driver.specs.contracts.journal.Journal.new as f
use Rattle.counting_driver.proofs.Walks.{none, none_made}
use Rattle.counting_driver.proofs.journal.Journal.new.Statement.{statement}
use Rattle.counting_driver.proofs.journal.Journal.new.Code as code

pub new_spec : {M : Type 1} → statement M
new_spec 𝓤 𝓛 𝓜 𝓡 wired =
    let c = f.clauses 𝓛 𝓜.mem 𝓡.returns in
    proved 𝓛 f.ended tt c 𝓜 𝓡 tt f.Key.name code.function (code.unfolded 𝓤 𝓛.H 𝓜 𝓡 wired) (λ κs. tt) (λ κs. tt) (λ κs qs bounds a g are.
    qed 𝓛 (raw (on_entry 𝓛 f.signature κs qs a tt) ∷ raw ((c κs a).requires g) ∷ []) ∵ keep ! [] $
    enter ! _ _ _ _ _ $ alloc_all ! (λ l. pass_all ! refl tt $
    sets ! (agg ! (no_more !)) refl (tt, tt) $
    returns ! (look_at ! 0 refl) $ free_all ! refl $
    suffices ! _ (ends_at 𝓛 f.ended tt c ((κs, qs, bounds, a, tt), g) none no_entries tt tt) $ says ! refl $
    nothing ! $ none_made ! $ fjoin ! $ nothing ! $ join ! $ nothing ! $ done !))
