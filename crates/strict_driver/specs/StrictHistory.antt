-- A strict driver as a driver.
use Rattle.std.specs.Prelude.{◌≡◌, List, [], ◌++◌, None}
use Rattle.std.proofs.Common.{append_assoc, append-nil, refl, sym, ◌∙◌, ap, subst}
use Rattle.gl_base.specs.declared.limits.TheConstants.{DEFAULT_SURFACE}
use Rattle.gl_plain.specs.declared.driver_calls.DriverEntry.{DriverEntry}
use Rattle.gl_plain.specs.State.{opening_driver}
use Rattle.gl_plain.specs.Journal.{state_after}
use Rattle.gl_plain.specs.Oracle.{Oracle, answers_of, no_answers}
use Rattle.gl_plain.specs.driver.Answers.{AreAnsweredBy, behind_entries}
use Rattle.gl_driver.specs.History.{History}
use Rattle.strict_driver.specs.StrictView.{StrictView}
use Rattle.strict_driver.specs.Behind.{AreAnsweredBy-append, behind_entries-append}

-- a driver that was given no call and no answers
abbrev pub new_driver : StrictView
new_driver = record { surface = DEFAULT_SURFACE; journal = []; loaded = no_answers; stop = None; ooms = 0; losses = 0 }

-- its state is what its journal leaves
abbrev pub history_of : StrictView → History
history_of s = record { state = state_after (opening_driver s.surface) s.journal; journal = s.journal; stop = s.stop; ooms = s.ooms; losses = s.losses }

-- what it will answer from now on: the loaded answers behind those that its journal has
abbrev pub answers_left : StrictView → Oracle
answers_left s = behind_entries s.journal (answers_of s.loaded)

-- the journal goes on with the answers that the earlier value would give, the later one gives those behind them, and the surface and what was
-- loaded stay
pub record Continues (a b : StrictView) : Type 0 where
  pub more : List DriverEntry
  pub journal : b.journal ≡ a.journal ++ more
  pub answers : AreAnsweredBy (answers_left a) more
  pub left : answers_left b ≡ behind_entries more (answers_left a)
  pub surface : b.surface ≡ a.surface
  pub loaded : b.loaded ≡ a.loaded

pub continues_itself : (a : StrictView) → Continues a a
continues_itself a = record { more = []; journal = sym (append-nil a.journal); answers = tt; left = refl; surface = refl; loaded = refl }

pub continues_further : (a b c : StrictView) → Continues a b → Continues b c → Continues a c
continues_further a b c p q = record {
  more = p.more ++ q.more;
  journal = q.journal ∙ ap (λ (j : List DriverEntry). j ++ q.more) p.journal ∙ append_assoc a.journal p.more q.more;
  answers = AreAnsweredBy-append (answers_left a) p.more q.more p.answers (subst (λ (o : Oracle). AreAnsweredBy o q.more) p.left q.answers);
  left = q.left ∙ ap (behind_entries q.more) p.left ∙ sym (behind_entries-append p.more q.more (answers_left a));
  surface = q.surface ∙ p.surface;
  loaded = q.loaded ∙ p.loaded;
}
