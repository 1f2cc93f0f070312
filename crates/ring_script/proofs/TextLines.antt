-- The lines of a text, one at a time.
use Rattle.std.proofs.Common.{◌≡◌, ℕ, ◌+◌, ◌≤◌, ◌<◌, List, [], ◌∷◌, ◌++◌, refl, ◌∙◌, ap, arith, drop, take, length, Option, Some, None, eqb, ltb, cond, Bool, true, false}
use Rattle.std.proofs.lemmas.Grind.{common_steps}
use Rattle.std.proofs.lemmas.List.Elements.{All-head, All-tail}
use Rattle.std.proofs.lemmas.List.Sums.{fails_before_first, split_at_first, passes_at_first}
use Rattle.std.specs.List.{position_or_len, All, onto_first}
use Rattle.gl_plain.specs.Fields.{◌>>=◌, cut_at}
use Rattle.ring_script.specs.Script.{lines_of}

-- the byte is a line feed
abbrev is_feed : ℕ → Bool
is_feed c = eqb c 10

-- no byte is a line feed
abbrev HasNoFeed : List ℕ → Type 0
HasNoFeed text = All (λ c. is_feed c ≡ false) text

-- a line feed ends a line
lines_of-feed : (c : ℕ) (cs : List ℕ) → is_feed c ≡ true → lines_of (c ∷ cs) ≡ [] ∷ lines_of cs
lines_of-feed c cs e = ap (λ b. cond b ([] ∷ lines_of cs) (onto_first c (lines_of cs))) e

-- another byte goes to the front of the first line
lines_of-other : (c : ℕ) (cs : List ℕ) → is_feed c ≡ false → lines_of (c ∷ cs) ≡ onto_first c (lines_of cs)
lines_of-other c cs e = ap (λ b. cond b ([] ∷ lines_of cs) (onto_first c (lines_of cs))) e

-- the first line ends at the first line feed
lines_of-line : (line : List ℕ) (c : ℕ) (rest : List ℕ) → HasNoFeed line → is_feed c ≡ true → lines_of (line ++ c ∷ rest) ≡ line ∷ lines_of rest
lines_of-line [] c rest h e = lines_of-feed c rest e
lines_of-line (d ∷ line) c rest h e =
    lines_of-other d (line ++ c ∷ rest) (All-head (λ x. is_feed x ≡ false) d line h)
    ∙ ap (onto_first d) (lines_of-line line c rest (All-tail (λ x. is_feed x ≡ false) d line h) e)

-- the last line may lack its line feed
lines_of-last : (c : ℕ) (cs : List ℕ) → HasNoFeed (c ∷ cs) → lines_of (c ∷ cs) ≡ (c ∷ cs) ∷ []
lines_of-last c [] h = lines_of-other c [] (All-head (λ x. is_feed x ≡ false) c [] h)
lines_of-last c (d ∷ cs) h =
    lines_of-other c (d ∷ cs) (All-head (λ x. is_feed x ≡ false) c (d ∷ cs) h)
    ∙ ap (onto_first c) (lines_of-last d cs (All-tail (λ x. is_feed x ≡ false) c (d ∷ cs) h))

-- what stands before index i and after it
abbrev parts : List ℕ → ℕ → Option (List ℕ × List ℕ)
parts text i = Some (take i text, drop (i + 1) text)

-- where the cut gave parts, a byte passed the test
went_some : (t : Bool) (text a b : List ℕ) (i : ℕ) → (cond t (Some i) None >>= parts text) ≡ Some (a, b) → (t ≡ true) × (take i text ≡ a) × (drop (i + 1) text ≡ b)
went_some true text a b i e =
    let pair : (let p : List ℕ × List ℕ = (take i text, drop (i + 1) text) in let q : List ℕ × List ℕ = (a, b) in p ≡ q) = cc in
    (refl, ap (λ (p : List ℕ × List ℕ). p.0) pair, ap (λ (p : List ℕ × List ℕ). p.1) pair)
went_some false text a b i e = absurd (cc)

-- where the cut gave nothing, none did
went_none : (t : Bool) (text : List ℕ) (i : ℕ) → (cond t (Some i) None >>= parts text) ≡ None → t ≡ false
went_none true text i e = absurd (cc)
went_none false text i e = refl

-- a cut at a line feed takes the first line off
pub line_cut : (text a b : List ℕ) → cut_at 10 text ≡ Some (a, b) → (lines_of text ≡ a ∷ lines_of b) × (length b < length text)
unfolding cut_at
line_cut text a b e =
    let at = position_or_len is_feed text in
    let w = went_some (ltb at (length text)) text a b at e in
    let lt : at < length text = grind (arith, common_steps, w.0) in
    let front : HasNoFeed (take at text) = λ k d m. let f = fails_before_first is_feed text k d (grind (arith, common_steps)) in grind (arith, common_steps) in
    let first = ap lines_of (split_at_first is_feed text 0 lt) ∙ lines_of-line (take at text) _ (drop (at + 1) text) front (passes_at_first is_feed text 0 lt) in
    let shorter : length (drop (at + 1) text) < length text = grind (arith, common_steps) in
    (first ∙ cc, rw (← w.2) shorter)

-- where there is no line feed, the text is the last line
pub line_last : (text : List ℕ) → 0 < length text → cut_at 10 text ≡ None → lines_of text ≡ text ∷ []
unfolding cut_at
line_last [] some e = absurd (omega arith)
line_last (c ∷ cs) some e =
    let at = position_or_len is_feed (c ∷ cs) in
    let w = went_none (ltb at (length (c ∷ cs))) (c ∷ cs) at e in
    let le : length (c ∷ cs) ≤ at = grind (arith, common_steps, w) in
    lines_of-last c cs (λ k d lt. fails_before_first is_feed (c ∷ cs) k d (omega arith))

-- a byte more is at most a line more
length-onto_first : (c : ℕ) (lines : List (List ℕ)) → length (onto_first c lines) ≤ length lines + 1
length-onto_first c [] = omega arith
length-onto_first c (line ∷ lines) = omega arith

-- a text has no more lines than bytes
pub few_lines : (text : List ℕ) → length (lines_of text) ≤ length text
few_lines [] = omega arith
few_lines (c ∷ cs) = go (is_feed c) (few_lines cs)
  where
    go : (t : Bool) → length (lines_of cs) ≤ length cs → length (cond t ([] ∷ lines_of cs) (onto_first c (lines_of cs))) ≤ length (c ∷ cs)
    go true le = omega arith
    go false le = omega (arith, length-onto_first c (lines_of cs))
