-- One more call of a driver that counts.
use Rattle.std.proofs.Common.{◌≡◌, ◌+◌, ℕ, List, [], ◌∷◌, ◌++◌, false, refl, sym, ◌∙◌, ap, subst, arith, inr}
use Rattle.std.specs.Ordering.{nat_cmp}
use Rattle.std.specs.FinSet as set
use Rattle.gl_plain.specs.declared.driver_calls.Answer.{Answer}
use Rattle.gl_plain.specs.declared.driver_calls.DriverCall.{DriverCall}
use Rattle.gl_plain.specs.declared.driver_calls.DriverEntry.{DriverEntry}
use Rattle.gl_plain.specs.State.{DriverState, NamesGiven, Surface, opening_driver}
use Rattle.gl_plain.specs.driver.Effect.{driver_after}
use Rattle.gl_plain.specs.Journal.{IsLegalEntry, state_after}
use Rattle.gl_plain.proofs.Journals.{state_after-append}
use Rattle.gl_driver.specs.History.{Served}
use Rattle.counting_driver.specs.declared.names.Names.{Names}
use Rattle.counting_driver.specs.Counting.{AreAbove, is_name}
use Rattle.counting_driver.specs.CountingViews.{CountingView, new_counting}
use Rattle.counting_driver.specs.CountingHistory.{AreCounted, IsLater, history_of}
use Rattle.counting_driver.proofs.GivenNames.{none_given, still_new}

-- no name was given
pub counted_opening : (surface : Surface) → AreCounted (new_counting surface)
counted_opening surface = record {
  buffers_new = λ n above. set.contains-empty nat_cmp n;
  textures_new = λ n above. set.contains-empty nat_cmp n;
  renderbuffers_new = λ n above. set.contains-empty nat_cmp n;
  framebuffers_new = λ n above. set.contains-empty nat_cmp n;
  programs_new = λ n above. set.contains-empty nat_cmp n;
}

-- the state behind one more entry
state_behind : (surface : Surface) (js now : List DriverEntry) (e : DriverEntry) → now ≡ js ++ e ∷ [] → state_after (opening_driver surface) now ≡ driver_after (state_after (opening_driver surface) js) e.call e.answer
state_behind surface js now e is = ap (state_after (opening_driver surface)) is ∙ state_after-append (opening_driver surface) js (e ∷ [])

module _ (v : CountingView) where
  -- a call was entered, after which so many names were given
  pub counted_entered : (now : List DriverEntry) (e : DriverEntry) (names : Names) → now ≡ v.journal ++ e ∷ [] → AreAbove (driver_after (history_of v).state e.call e.answer).tables.given names
      → AreAbove (state_after (opening_driver v.surface) now).tables.given names
  counted_entered now e names is above = subst (λ (d : DriverState). AreAbove d.tables.given names) (sym (state_behind v.surface v.journal now e is)) above

  -- a legal call was entered, and nothing else was changed
  pub served_entered : (b : CountingView) (e : DriverEntry) → b.journal ≡ v.journal ++ e ∷ [] → b.surface ≡ v.surface → b.stop ≡ v.stop → IsLegalEntry (history_of v).state e → Served history_of IsLater v b (e ∷ [])
  served_entered b e journal surface stop legal = record {
    grows = record { more = e ∷ []; journal = journal; surface = surface };
    journal = journal;
    legal = (legal, tt);
    state = ap (λ (s : Surface). state_after (opening_driver s) b.journal) surface ∙ state_behind v.surface v.journal b.journal e journal;
    counted = record {
      kept = λ s is. stop ∙ is;
      losses = omega arith;
      ooms = omega arith;
      lost = λ is. inr (sym stop ∙ is);
      losses_still = inr refl;
      ooms_still = λ none. refl;
    };
  }

  module _ (counted : AreCounted v) where
    -- a call that gives no name leaves the counts as they are
    pub still_counted : (call : DriverCall) (answer : Answer) → is_name answer ≡ false → AreAbove (driver_after (history_of v).state call answer).tables.given v.names
    still_counted call answer other = subst (λ (given : NamesGiven). AreAbove given v.names) (sym (none_given (history_of v).state.tables call answer other)) counted

-- names above those that were given stay so when the next one of a space is given
module _ (given : NamesGiven) (names : Names) (above : AreAbove given names) (name : ℕ) where
  pub buffer_given : name ≡ names.buffers + 1 → AreAbove (record given { buffers = set.insert given.buffers name }) (record names { buffers = name })
  buffer_given is = record {
    buffers_new = still_new given.buffers names.buffers name above.buffers_new is;
    textures_new = above.textures_new;
    renderbuffers_new = above.renderbuffers_new;
    framebuffers_new = above.framebuffers_new;
    programs_new = above.programs_new;
  }

  pub texture_given : name ≡ names.textures + 1 → AreAbove (record given { textures = set.insert given.textures name }) (record names { textures = name })
  texture_given is = record {
    buffers_new = above.buffers_new;
    textures_new = still_new given.textures names.textures name above.textures_new is;
    renderbuffers_new = above.renderbuffers_new;
    framebuffers_new = above.framebuffers_new;
    programs_new = above.programs_new;
  }

  pub renderbuffer_given : name ≡ names.renderbuffers + 1 → AreAbove (record given { renderbuffers = set.insert given.renderbuffers name }) (record names { renderbuffers = name })
  renderbuffer_given is = record {
    buffers_new = above.buffers_new;
    textures_new = above.textures_new;
    renderbuffers_new = still_new given.renderbuffers names.renderbuffers name above.renderbuffers_new is;
    framebuffers_new = above.framebuffers_new;
    programs_new = above.programs_new;
  }

  pub framebuffer_given : name ≡ names.framebuffers + 1 → AreAbove (record given { framebuffers = set.insert given.framebuffers name }) (record names { framebuffers = name })
  framebuffer_given is = record {
    buffers_new = above.buffers_new;
    textures_new = above.textures_new;
    renderbuffers_new = above.renderbuffers_new;
    framebuffers_new = still_new given.framebuffers names.framebuffers name above.framebuffers_new is;
    programs_new = above.programs_new;
  }

  -- a shader or a program was given it
  pub program_given : name ≡ names.programs + 1 → AreAbove (record given { programs = set.insert given.programs name }) (record names { programs = name })
  program_given is = record {
    buffers_new = above.buffers_new;
    textures_new = above.textures_new;
    renderbuffers_new = above.renderbuffers_new;
    framebuffers_new = above.framebuffers_new;
    programs_new = still_new given.programs names.programs name above.programs_new is;
  }
