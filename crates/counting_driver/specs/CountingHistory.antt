-- A driver that counts, as a driver.
use Rattle.std.specs.Prelude.{◌≡◌, List, [], ◌++◌}
use Rattle.std.proofs.Common.{append_assoc, append-nil, refl, sym, ◌∙◌, ap}
use Rattle.gl_plain.specs.declared.driver_calls.DriverEntry.{DriverEntry}
use Rattle.gl_plain.specs.State.{opening_driver}
use Rattle.gl_plain.specs.Journal.{state_after}
use Rattle.gl_driver.specs.History.{History}
use Rattle.counting_driver.specs.Counting.{AreAbove}
use Rattle.counting_driver.specs.CountingViews.{CountingView}

-- its state is what its journal leaves; it is never lost, and always has room
abbrev pub history_of : CountingView → History
history_of d = record { state = state_after (opening_driver d.surface) d.journal; journal = d.journal; stop = d.stop; ooms = 0; losses = 0 }

-- the names that are counted are all that were given
abbrev pub AreCounted : CountingView → Type 0
AreCounted d = AreAbove (history_of d).state.tables.given d.names

-- the journal goes on, and the surface stays
pub record IsLater (a b : CountingView) : Type 0 where
  pub more : List DriverEntry
  pub journal : b.journal ≡ a.journal ++ more
  pub surface : b.surface ≡ a.surface

pub later_itself : (a : CountingView) → IsLater a a
later_itself a = record { more = []; journal = sym (append-nil a.journal); surface = refl }

pub later_further : (a b c : CountingView) → IsLater a b → IsLater b c → IsLater a c
later_further a b c p q = record {
  more = p.more ++ q.more;
  journal = q.journal ∙ ap (λ (j : List DriverEntry). j ++ q.more) p.journal ∙ append_assoc a.journal p.more q.more;
  surface = q.surface ∙ p.surface;
}
