-- What a write does to regions.
use Rattle.std.proofs.Common.{◌≡◌, ℕ, ◌+◌, ◌≤◌, Bool, false, List, [], ◌∷◌, ◌++◌, length, take, drop, refl, sym, ◌∙◌, ap, arith, Option, None, Some, inl, inr, ◌==◌, if◌then◌else◌, subst, replicate}
use Rattle.std.proofs.lemmas.List.{length-append, length-take-le, length-drop}
use Rattle.std.proofs.lemmas.Bool.{eq-eqb, ne_eqb}
use Rattle.std.specs.Option.{option_map, unwrap_or}
use Rattle.std.specs.FinMap as map
use Rattle.gl_base.proofs.Found.{get-insert_here, get-insert_other, test}
use Rattle.gl_plain.specs.Bytes.{overwritten}
use Rattle.gl_plain.specs.declared.memory.Patch.{Patch}
use Rattle.gl_plain.specs.Regions.{IsInside, EndsWithin}
use Rattle.cb_shm.specs.Blocks.{Blocks, sizes_of, bytes_in, written}
use Rattle.cb_shm.specs.Patched.{patched, patched_zeros, bytes_over, ArePatched}

pub length-overwritten : (old new : List ℕ) (at : ℕ) → at + length new ≤ length old → length (overwritten old at new) ≡ length old
length-overwritten old new at le = omega (arith, length-append (take at old ++ new) (drop (at + length new) old), length-append (take at old) new, length-take-le at old (omega arith), length-drop (at + length new) old)

-- one more patch behind the others
pub patched-append : (ps qs : List Patch) (region : ℕ) (bytes : List ℕ) → patched (ps ++ qs) region bytes ≡ patched qs region (patched ps region bytes)
patched-append [] qs region bytes = refl
patched-append (p ∷ ps) qs region bytes = patched-append ps qs region (if p.region == region then overwritten bytes p.offset p.bytes else bytes)

-- the sizes of the regions stay, as seen at the region that is written
pub size_here : (found : Option (List ℕ)) (at : ℕ) (new : List ℕ) → EndsWithin (option_map length found) at (length new) → Some (length (overwritten (unwrap_or found []) at new)) ≡ option_map length found
size_here None at new inside = absurd inside
size_here (Some old) at new inside = ap (λ (n : ℕ). Some n) (length-overwritten old new at inside)

-- the bytes of the region that is written
bytes_here : (size : Option ℕ) (ps : List Patch) (p : Patch) (count : ℕ) → EndsWithin size p.offset count
    → Some (overwritten (unwrap_or (option_map (patched_zeros ps p.region) size) []) p.offset p.bytes) ≡ option_map (patched_zeros (ps ++ p ∷ []) p.region) size
bytes_here None ps p count inside = absurd inside
bytes_here (Some size) ps p count inside =
    let old = patched_zeros ps p.region size in
    ap (λ (b : Bool). Some (if b then overwritten old p.offset p.bytes else old)) (sym (eq-eqb p.region p.region refl))
    ∙ ap (λ (bytes : List ℕ). Some bytes) (sym (patched-append ps (p ∷ []) p.region (replicate size 0)))

-- the bytes of another region
bytes_there : (size : Option ℕ) (ps : List Patch) (p : Patch) (region : ℕ) → (p.region == region) ≡ false
    → option_map (patched_zeros ps region) size ≡ option_map (patched_zeros (ps ++ p ∷ []) region) size
bytes_there None ps p region apart = refl
bytes_there (Some size) ps p region apart =
    let old = patched_zeros ps region size in
    ap (λ (b : Bool). Some (if b then overwritten old p.offset p.bytes else old)) (sym apart)
    ∙ ap (λ (bytes : List ℕ). Some bytes) (sym (patched-append ps (p ∷ []) region (replicate size 0)))

-- a write inside is one more patch
pub ArePatched-written : (sizes : ℕ → Option ℕ) (ps : List Patch) (blocks : Blocks) (p : Patch) → ArePatched sizes ps blocks → IsInside sizes p.region p.offset (length p.bytes)
    → ArePatched sizes (ps ++ p ∷ []) (written blocks p.region p.offset p.bytes)
ArePatched-written sizes ps blocks p are inside =
    let new = overwritten (bytes_in blocks p.region) p.offset p.bytes in
    let inside_now : EndsWithin (sizes_of blocks p.region) p.offset (length p.bytes) = subst (λ (s : Option ℕ). EndsWithin s p.offset (length p.bytes)) (sym (are.sizes_are p.region)) inside in
    record {
      sizes_are = λ region. elim (test region p.region) [
        | inl q ↦ ap (sizes_of (written blocks p.region p.offset p.bytes)) q.0
            ∙ ap (option_map length) (get-insert_here blocks p.region new)
            ∙ size_here (map.get blocks p.region) p.offset p.bytes inside_now
            ∙ are.sizes_are p.region ∙ ap sizes (sym q.0)
        | inr q ↦ ap (option_map length) (get-insert_other blocks p.region new region q.0) ∙ are.sizes_are region
      ];
      bytes_are = λ region. elim (test region p.region) [
        | inl q ↦ ap (map.get (written blocks p.region p.offset p.bytes)) q.0
            ∙ get-insert_here blocks p.region new
            ∙ ap (λ (found : Option (List ℕ)). Some (overwritten (unwrap_or found []) p.offset p.bytes)) (are.bytes_are p.region)
            ∙ bytes_here (sizes p.region) ps p (length p.bytes) inside
            ∙ ap (bytes_over sizes (ps ++ p ∷ [])) (sym q.0)
        | inr q ↦ get-insert_other blocks p.region new region q.0 ∙ are.bytes_are region
            ∙ bytes_there (sizes region) ps p region (ne_eqb p.region region (λ e. q.0 (sym e)))
      ];
    }

-- what is inside the regions is inside their sizes
pub inside_too : (sizes : ℕ → Option ℕ) (ps : List Patch) (blocks : Blocks) (region offset count : ℕ) → ArePatched sizes ps blocks → IsInside (sizes_of blocks) region offset count → IsInside sizes region offset count
inside_too sizes ps blocks region offset count are inside = subst (λ (s : Option ℕ). EndsWithin s offset count) (are.sizes_are region) inside
