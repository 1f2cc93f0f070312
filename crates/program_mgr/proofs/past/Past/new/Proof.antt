-- `new` makes a value of no bytes, whose ghost fields are empty.
use Rattle.std.proofs.Common.{[], ◌∷◌, refl}
use types.Kit.{raw, ◌$◌, ◌∵◌, !, qed, keep, join, fjoin, suffices, done}
use types.Part.{agg}
use types.Run.{enter, returns, no_more}
use types.ByLocal.{alloc_all, pass_all, free_all, look_at, sets}
use denote.Steps.{nothing}
use denote.Triple.Entry.{on_entry}
use denote.Triple.Walked.{says, ends_at}
use Rattle.std.proofs.raw_atomic.Walks.{proved}
use Rattle.program_mgr.specs.Pasts.{no_past}
use Rattle.program_mgr.specs.contracts.past.Past.new as f
use Rattle.program_mgr.proofs.Walks.{none, none_made}
use Rattle.program_mgr.proofs.past.Past.new.Statement.{statement}
use Rattle.program_mgr.proofs.past.Past.new.Code as code

pub new_spec : {M : Type 1} → statement M
new_spec 𝓤 𝓛 𝓜 𝓡 wired =
    let c = f.clauses 𝓛 𝓜.mem 𝓡.returns in
    proved 𝓛 f.ended tt c 𝓜 𝓡 tt f.Key.name code.function (code.unfolded 𝓤 𝓛.H 𝓜 𝓡 wired) (λ κs. tt) (λ κs. tt) (λ κs qs bounds a g are.
    qed 𝓛 (raw (on_entry 𝓛 f.signature κs qs a tt) ∷ raw ((c κs a).requires g) ∷ []) ∵ keep ! [] $
    enter ! _ _ _ _ _ $ alloc_all ! (λ l. pass_all ! refl tt $
    sets ! (agg ! (no_more !)) refl (tt, tt) $
    returns ! (look_at ! 0 refl) $ free_all ! refl $
    suffices ! _ (ends_at 𝓛 f.ended tt c ((κs, qs, bounds, a, tt), g) none no_past tt tt) $ says ! refl $
    nothing ! $ none_made ! $ fjoin ! $ nothing ! $ join ! $ nothing ! $ done !))
