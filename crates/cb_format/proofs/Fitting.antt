-- That each row's layout is fitting.
use Rattle.std.proofs.Common.{◌≡◌, ℕ, ◌+◌, ◌==◌, ◌&&◌, ◌||◌, ◌++◌, Bool, true, false, not, cond, nat_le, List, [], ◌∷◌, refl, Option, None, Some, is_some, IfSome, arith}
use Rattle.std.specs.Option.{OnSome}
use Rattle.std.specs.List.{list_all}
use Rattle.std.specs.Map.{lookup}
use Rattle.std.proofs.lemmas.Bool.Decides.{nat_tests}
use Rattle.cb_format.specs.declared.layouts.Layout.{Layout}
use Rattle.cb_format.specs.Layouts.{IsFitting, buffer_rows, gl_rows, layout_of}

-- so many words from the place on are the last
abbrev ends : Option ℕ → ℕ → ℕ → Bool
ends None count words = true
ends (Some at) count words = at + count == words

last : (place : Option ℕ) (count words : ℕ) → ends place count words ≡ true → IfSome place (λ at. at + count ≡ words)
last None count words h = tt
last (Some at) count words h = grind (arith, nat_tests)

alone : (payload reply : Option ℕ) → not (is_some payload && is_some reply) ≡ true → OnSome payload (reply ≡ None)
alone None reply h = tt
alone (Some at) None h = refl
alone (Some at) (Some place) h = cc

abbrev fits : Layout → Bool
fits l =
    nat_le l.words 16 && ((not l.any_size || (l.words == 0)) && (nat_le l.result_words 16
    && (ends l.payload_at 4 l.words && (ends l.result_at 2 l.words && not (is_some l.payload_at && is_some l.result_at)))))

fitting : (l : Layout) → fits l ≡ true → IsFitting l
fitting l h = record {
  words_fit = grind (arith, nat_tests);
  free_has_none = λ f. grind (arith, nat_tests);
  reply_fits = grind (arith, nat_tests);
  payload_ends = last l.payload_at 4 l.words (grind (arith, nat_tests));
  result_ends = last l.result_at 2 l.words (grind (arith, nat_tests));
  one_alone = alone l.payload_at l.result_at (grind (arith, nat_tests));
}

found : (test : ℕ → Bool) (rows : List (ℕ × Layout)) → list_all (λ (r : ℕ × Layout). fits r.1) rows ≡ true → IfSome (lookup test rows) IsFitting
found test [] h = tt
found test (r ∷ rows) h = chosen (test r.0) r.1 (lookup test rows) (fitting r.1 (grind (arith, nat_tests, h))) (found test rows (grind (arith, nat_tests, h))) where
  chosen : (b : Bool) (l : Layout) (rest : Option Layout) → IsFitting l → IfSome rest IsFitting → IfSome (cond b (Some l) rest) IsFitting
  chosen true l rest here there = here
  chosen false l rest here there = there

pub layout_of_fits : (n : ℕ) → IfSome (layout_of n) IsFitting
unfolding layout_of
layout_of_fits n = found (λ k. n == k) (buffer_rows ++ gl_rows) refl
