-- The line that a reading names is the first that is outside the grammar.
use Rattle.std.proofs.Common.{◌≡◌, ℕ, ◌+◌, ◌-◌, ◌<◌, List, [], ◌∷◌, refl, ◌∙◌, ap, arith, take, length, Option, Some, None, Result, Ok, Err, IsOk}
use Prim.Native.Nat.{suc}
use Rattle.ring_script.specs.Rules.{empty_draft}
use Rattle.ring_script.specs.Script.{draft_with, or_bad, lines_read, lines_of, script_read, script_in, IsFirstBad}
use Rattle.ring_script.specs.declared.draft.Draft.{Draft}

-- of the lines from number j on, that behind the first n is number k, and the first outside the grammar
record IsBadBehind (j : ℕ) (draft : Draft) (lines : List (List ℕ)) (k n : ℕ) : Type 0 where
  pub number : k ≡ j + n
  pub to_last : n < length lines
  pub before : IsOk (lines_read j draft (take n lines))
  pub with_it : lines_read j draft (take (suc n) lines) ≡ Err k

-- a reading that names a line names the first outside the grammar
bad_behind : (j : ℕ) (draft : Draft) (lines : List (List ℕ)) (k : ℕ) → lines_read j draft lines ≡ Err k → (n : ℕ) × IsBadBehind j draft lines k n
bad_behind j draft [] k e = absurd (cc)
bad_behind j draft (line ∷ lines) k e = go (draft_with line draft) refl e (λ next. bad_behind (j + 1) next lines k)
  where
    -- the first lines read as those behind the first do, with what the first says
    along : (o : Option Draft) (n : ℕ) → draft_with line draft ≡ o → lines_read j draft (line ∷ take n lines) ≡ or_bad j (λ next. lines_read (j + 1) next (take n lines)) o
    along o n is = ap (or_bad j (λ next. lines_read (j + 1) next (take n lines))) is

    go : (o : Option Draft) → draft_with line draft ≡ o → or_bad j (λ next. lines_read (j + 1) next lines) o ≡ Err k
        → ((next : Draft) → lines_read (j + 1) next lines ≡ Err k → (n : ℕ) × IsBadBehind (j + 1) next lines k n) → (n : ℕ) × IsBadBehind j draft (line ∷ lines) k n
    go None is bad later =
        let same : j ≡ k = cc in
        (0, record { number = omega arith; to_last = omega arith; before = refl; with_it = along None 0 is ∙ bad })
    go (Some next) is bad later =
        let found = later next bad in (
          suc found.0,
          record {
            number = omega (arith, found.1.number);
            to_last = omega (arith, found.1.to_last);
            before = rw (along (Some next) found.0 is) found.1.before;
            with_it = along (Some next) (suc found.0) is ∙ found.1.with_it;
          },
        )

-- a script's text that is refused is refused at its first line outside the grammar
pub first_bad : (text : List ℕ) (k : ℕ) → script_in text ≡ Err k → IsFirstBad (lines_of text) k
first_bad text k e = go (lines_read 1 empty_draft (lines_of text)) refl e
  where
    read_bad : (n : ℕ) → IsBadBehind 1 empty_draft (lines_of text) k n → IsFirstBad (lines_of text) k
    read_bad n bad =
        let before : k - 1 ≡ n = omega (arith, bad.number) in
        let with_it : k ≡ suc n = omega (arith, bad.number) in
        record {
          from_one = omega (arith, bad.number);
          to_last = omega (arith, bad.number, bad.to_last);
          before = rw before bad.before;
          with_it = ap (λ m. lines_read 1 empty_draft (take m (lines_of text))) with_it ∙ bad.with_it;
        }

    go : (read : Result Draft ℕ) → lines_read 1 empty_draft (lines_of text) ≡ read → script_read read ≡ Err k → IsFirstBad (lines_of text) k
    go (Ok draft) is e = absurd (cc)
    go (Err j) is e =
        let same : j ≡ k = cc in
        let found = bad_behind 1 empty_draft (lines_of text) k (is ∙ ap Err same) in read_bad found.0 found.1
