-- What may be made of a command's driver calls: its zeroings, and behind them its own.
use Rattle.std.proofs.Common.{◌≡◌, ℕ, List, ◌∷◌, ◌++◌, None, sym, ◌∙◌, ap, subst, append_assoc}
use Rattle.gl_plain.specs.declared.commands.Command.{Command}
use Rattle.gl_plain.specs.declared.driver_calls.DriverCall.{DriverCall}
use Rattle.gl_plain.specs.declared.driver_calls.DriverEntry.{DriverEntry}
use Rattle.gl_plain.specs.Oracle.{Oracle, default_answers}
use Rattle.gl_plain.specs.State.{WireState, DriverState}
use Rattle.gl_plain.specs.driver.Allowed.{IsAllowed}
use Rattle.gl_plain.specs.driver.Answers.{told}
use Rattle.gl_plain.specs.Covers.{zeroings}
use Rattle.gl_plain.specs.Wire.{command_refusal, whole_first, own_calls, calls_by, command_calls}
use Rattle.gl_plain.specs.Journal.{IsLegal, state_after}
use Rattle.gl_plain.specs.Parts.{calls_in}
use Rattle.gl_driver.specs.History.{History}
use Rattle.gl_driver.specs.Performed.{Made, MayMake}

module _ (w : WireState) (c : Command) (payload : List ℕ) (taken : command_refusal w.es c payload ≡ None) where
  abbrev first_calls : List DriverCall
  first_calls = zeroings w.es.textures.objects w.covers w.marks (whole_first w c)

  -- each driver call of the command may be made behind those before it
  abbrev MayGo : DriverState → Type 0
  MayGo d = (o : Oracle) (es : List DriverEntry) (next : DriverCall) (more : List DriverCall) → IsLegal d es → calls_in es ++ next ∷ more ≡ command_calls w c payload (told es o) → IsAllowed (state_after d es) next

  all_calls : (o : Oracle) → command_calls w c payload o ≡ first_calls ++ own_calls w c payload o
  all_calls o = ap (λ r. calls_by r w c payload o) taken

  -- so its zeroings may
  pub zeroings_may : {d : DriverState} → MayGo d → MayMake d first_calls
  zeroings_may may es next more legal front =
      let o = told es default_answers in
      may default_answers es next (more ++ own_calls w c payload o) legal
      (sym (append_assoc (calls_in es) (next ∷ more) (own_calls w c payload o)) ∙ ap (λ (cs : List DriverCall). cs ++ own_calls w c payload o) front ∙ sym (all_calls o))

  -- and behind them the first of its own
  pub own_may_behind : {D : Type 0} {history : D → History} {grown : D → D → Type 0} {d d1 : D} → MayGo (history d).state → Made history grown d d1 first_calls → (call : DriverCall) (more : List DriverCall) → ((o : Oracle) → own_calls w c payload o ≡ call ∷ more) → IsAllowed (history d1).state call
  own_may_behind may made call more own =
      let o = told made.entries default_answers in
      subst (λ s. IsAllowed s call) (sym made.served.state)
      (may default_answers made.entries call more made.served.legal ((λ i. made.all i ++ sym (own o) i) ∙ sym (all_calls o)))
