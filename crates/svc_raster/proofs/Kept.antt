-- The words that are kept, with one more of them.
use Rattle.std.proofs.Common.{◌≡◌, ◌<◌, ◌+◌, ◌∙◌, ℕ, zero, suc, ap, refl, arith, List, [], ◌∷◌, ◌++◌, append_assoc, length, drop, get_or, slice_index, add-one}
use Rattle.gl_plain.specs.declared.raster.WordRule.{WordRule}
use Rattle.gl_plain.specs.subjects.Raster.{kept_by, kept_word}

kept_nil-drop : (rs : List WordRule) (i : ℕ) (r : WordRule) → i < length rs → kept_by (drop i rs) [] ≡ kept_word (get_or rs i r) 0 ∷ kept_by (drop (suc i) rs) []
kept_nil-drop [] i r h = absurd (omega arith)
kept_nil-drop (x ∷ xs) zero r h = refl
kept_nil-drop (x ∷ xs) (suc i) r h = kept_nil-drop xs i r (omega arith)

kept_by-drop : (rs : List WordRule) (ws : List ℕ) (i : ℕ) (r : WordRule) → i < length rs → kept_by (drop i rs) (drop i ws) ≡ kept_word (get_or rs i r) (slice_index ws i) ∷ kept_by (drop (suc i) rs) (drop (suc i) ws)
kept_by-drop [] ws i r h = absurd (omega arith)
kept_by-drop (x ∷ xs) [] zero r h = refl
kept_by-drop (x ∷ xs) (w ∷ ws) zero r h = refl
kept_by-drop (x ∷ xs) [] (suc i) r h = kept_nil-drop xs i r (omega arith)
kept_by-drop (x ∷ xs) (w ∷ ws) (suc i) r h = kept_by-drop xs ws i r (omega arith)

-- the word at this place goes behind those before it
pub kept_more : (rs : List WordRule) (ws kept after whole : List ℕ) (i word new : ℕ) (r : WordRule) → i < length rs → word ≡ slice_index ws i → new ≡ kept_word (get_or rs i r) word → after ≡ kept ++ new ∷ [] → kept ++ kept_by (drop i rs) (drop i ws) ≡ whole → after ++ kept_by (drop (i + 1) rs) (drop (i + 1) ws) ≡ whole
kept_more rs ws kept after whole i word new r h read made pushed so_far =
    let rest : kept_by (drop i rs) (drop i ws) ≡ kept_word (get_or rs i r) (slice_index ws i) ∷ kept_by (drop (i + 1) rs) (drop (i + 1) ws) = rw add-one (kept_by-drop rs ws i r h) in
    let more : new ∷ kept_by (drop (i + 1) rs) (drop (i + 1) ws) ≡ kept_by (drop i rs) (drop i ws) = cc in
    ap (λ xs. xs ++ kept_by (drop (i + 1) rs) (drop (i + 1) ws)) pushed ∙ append_assoc kept (new ∷ []) (kept_by (drop (i + 1) rs) (drop (i + 1) ws)) ∙ ap (λ xs. kept ++ xs) more ∙ so_far

-- a command keeps a word for each of its rules
pub length_kept : (rs : List WordRule) (ws : List ℕ) → length (kept_by rs ws) ≡ length rs
length_kept [] ws = refl
length_kept (r ∷ rs) [] = ap suc (length_kept rs [])
length_kept (r ∷ rs) (w ∷ ws) = ap suc (length_kept rs ws)
