-- What patches in order do to regions, and regions of zeros.
use Rattle.std.proofs.Common.{◌≡◌, ℕ, ◌+◌, ◌*◌, Bool, true, false, List, [], ◌∷◌, ◌++◌, length, refl, sym, ◌∙◌, ap, append_assoc, append-nil, Option, None, Some, inl, inr, ◌==◌, if◌then◌else◌, subst, replicate}
use Rattle.std.proofs.lemmas.Bool.{leb-true, le-leb, eq-eqb, ne_eqb}
use Rattle.std.specs.Option.{option_map}
use Rattle.std.specs.List.{AllByRecursion}
use Rattle.std.specs.Ordering.{nat_cmp}
use Rattle.std.specs.FinMap as map
use Rattle.gl_base.proofs.Found.{get-insert_here, get-insert_other, test}
use Rattle.gl_plain.specs.Bytes.{overwritten}
use Rattle.gl_plain.specs.declared.memory.Patch.{Patch}
use Rattle.gl_plain.specs.declared.memory.Region.{Region}
use Rattle.cb_shm.specs.declared.script.Script.{Script}
use Rattle.gl_plain.specs.Regions.{EndsWithin, ends_within}
use Rattle.cb_shm.specs.Blocks.{Blocks, sizes_of, bytes_in, written}
use Rattle.cb_shm.specs.Patched.{patched_zeros, ArePatched}
use Rattle.cb_shm.specs.Applied.{written_within, applied, added, zero_blocks}
use Rattle.cb_shm.specs.Hostile.{listed_size, script_sizes}
use Rattle.cb_shm.specs.Whole.{IsPatchInside, AreDistinct}
use Rattle.cb_shm.proofs.Writes.{size_here, ArePatched-written}
use Rattle.cb_shm.proofs.NewPlain.{get-added, sizes_chosen}

tested : (size : Option ℕ) (offset count : ℕ) → ends_within size offset count ≡ true → EndsWithin size offset count
tested None offset count e = cc
tested (Some size) offset count e = leb-true (offset + count) size e

within : (size : Option ℕ) (offset count : ℕ) → EndsWithin size offset count → ends_within size offset count ≡ true
within None offset count inside = absurd inside
within (Some size) offset count inside = le-leb (offset + count) size inside

size_written : (blocks : Blocks) (p : Patch) → ends_within (sizes_of blocks p.region) p.offset (length p.bytes) ≡ true → (q : ℕ) → sizes_of (written blocks p.region p.offset p.bytes) q ≡ sizes_of blocks q
size_written blocks p e q = elim (test q p.region) [
  | inl is ↦ ap (sizes_of (written blocks p.region p.offset p.bytes)) is.0
      ∙ ap (option_map length) (get-insert_here blocks p.region (overwritten (bytes_in blocks p.region) p.offset p.bytes))
      ∙ size_here (map.get blocks p.region) p.offset p.bytes (tested (sizes_of blocks p.region) p.offset (length p.bytes) e)
      ∙ ap (sizes_of blocks) (sym is.0)
  | inr is ↦ ap (option_map length) (get-insert_other blocks p.region (overwritten (bytes_in blocks p.region) p.offset p.bytes) q is.0)
]

size_within : (blocks : Blocks) (p : Patch) (q : ℕ) → sizes_of (written_within blocks p) q ≡ sizes_of blocks q
size_within blocks p q = elim (ends_within (sizes_of blocks p.region) p.offset (length p.bytes))
    as (λ b. ends_within (sizes_of blocks p.region) p.offset (length p.bytes) ≡ b → sizes_of (if b then written blocks p.region p.offset p.bytes else blocks) q ≡ sizes_of blocks q) [
      | true ↦ λ e. size_written blocks p e q
      | false ↦ λ e. refl
    ] refl

size_applied : (ps : List Patch) (blocks : Blocks) (q : ℕ) → sizes_of (applied ps blocks) q ≡ sizes_of blocks q
size_applied [] blocks q = refl
size_applied (p ∷ ps) blocks q = size_applied ps (written_within blocks p) q ∙ size_within blocks p q

-- patches change no size
pub sizes_applied : (ps : List Patch) (blocks : Blocks) → sizes_of (applied ps blocks) ≡ sizes_of blocks
sizes_applied ps blocks = λ i q. size_applied ps blocks q i

within_is_written : (sizes : ℕ → Option ℕ) (ps : List Patch) (blocks : Blocks) (p : Patch) → ArePatched sizes ps blocks → IsPatchInside sizes p → written_within blocks p ≡ written blocks p.region p.offset p.bytes
within_is_written sizes ps blocks p are inside =
    let now : EndsWithin (sizes_of blocks p.region) p.offset (length p.bytes) = subst (λ (s : Option ℕ). EndsWithin s p.offset (length p.bytes)) (sym (are.sizes_are p.region)) inside in
    ap (λ (b : Bool). if b then written blocks p.region p.offset p.bytes else blocks) (within (sizes_of blocks p.region) p.offset (length p.bytes) now)

-- patches that lie inside come behind those that were written before
pub ArePatched-applied : (sizes : ℕ → Option ℕ) (ps qs : List Patch) (blocks : Blocks) → ArePatched sizes ps blocks → AllByRecursion (IsPatchInside sizes) qs → ArePatched sizes (ps ++ qs) (applied qs blocks)
ArePatched-applied sizes ps [] blocks are inside = subst (λ (l : List Patch). ArePatched sizes l blocks) (sym (append-nil ps)) are
ArePatched-applied sizes ps (q ∷ qs) blocks are inside =
    let one : ArePatched sizes (ps ++ q ∷ []) (written_within blocks q) =
    subst (ArePatched sizes (ps ++ q ∷ [])) (sym (within_is_written sizes ps blocks q are inside.0)) (ArePatched-written sizes ps blocks q are inside.0) in
    subst (λ (l : List Patch). ArePatched sizes l (applied qs (written_within blocks q))) (append_assoc ps (q ∷ []) qs)
    (ArePatched-applied sizes (ps ++ q ∷ []) qs (written_within blocks q) one inside.1)

-- zeros of this size, or what was there
abbrev zeros_or : Option ℕ → Option (List ℕ) → Option (List ℕ)
zeros_or None there = there
zeros_or (Some size) there = Some (replicate size 0)

zeros_added : (r : Region) (rs : List Region) (blocks : Blocks) (q : ℕ) → listed_size rs r.id ≡ None
    → zeros_or (listed_size rs q) (map.get (map.insert blocks r.id (replicate r.size 0)) q) ≡ zeros_or (if r.id == q then Some r.size else listed_size rs q) (map.get blocks q)
zeros_added r rs blocks q none = elim (test q r.id) [
  | inl is ↦ ap (λ (n : ℕ). zeros_or (listed_size rs n) (map.get (map.insert blocks r.id (replicate r.size 0)) n)) is.0
      ∙ ap (λ (o : Option ℕ). zeros_or o (map.get (map.insert blocks r.id (replicate r.size 0)) r.id)) none
      ∙ get-insert_here blocks r.id (replicate r.size 0)
      ∙ ap (λ (b : Bool). zeros_or (if b then Some r.size else listed_size rs q) (map.get blocks q)) (sym (eq-eqb r.id q (sym is.0)))
  | inr is ↦ ap (zeros_or (listed_size rs q)) (get-insert_other blocks r.id (replicate r.size 0) q is.0)
      ∙ ap (λ (b : Bool). zeros_or (if b then Some r.size else listed_size rs q) (map.get blocks q)) (sym (ne_eqb r.id q (λ e. is.0 (sym e))))
]

found_added : (rs : List Region) (blocks : Blocks) (q : ℕ) → AreDistinct rs → map.get (added rs blocks) q ≡ zeros_or (listed_size rs q) (map.get blocks q)
found_added [] blocks q distinct = refl
found_added (r ∷ rs) blocks q distinct = found_added rs (map.insert blocks r.id (replicate r.size 0)) q distinct.1 ∙ zeros_added r rs blocks q distinct.0

zeros_chosen : (b : Bool) (size : ℕ) (listed : Option ℕ) (q : ℕ) → (if b then Some (replicate size 0) else zeros_or listed None) ≡ option_map (patched_zeros [] q) (if b then Some size else listed)
zeros_chosen true size listed q = refl
zeros_chosen false size None q = refl
zeros_chosen false size (Some n) q = refl

-- the ring and the listed regions begin as zeros
pub ArePatched-zero : (s : Script) → AreDistinct s.regions → ArePatched (script_sizes s) [] (zero_blocks s.entries s.regions)
ArePatched-zero s distinct =
    let none : Blocks = map.empty in
    let bytes : (q : ℕ) → map.get (zero_blocks s.entries s.regions) q ≡ option_map (patched_zeros [] q) (script_sizes s q) = λ q.
    get-added (added s.regions none) 0 (replicate (4 * s.entries) 0) q
    ∙ ap (λ (there : Option (List ℕ)). if q == 0 then Some (replicate (4 * s.entries) 0) else there)
    (found_added s.regions none q distinct ∙ ap (zeros_or (listed_size s.regions q)) (map.get-empty nat_cmp q))
    ∙ zeros_chosen (q == 0) (4 * s.entries) (listed_size s.regions q) q in
    record { sizes_are = λ q. ap (option_map length) (bytes q) ∙ sizes_chosen (script_sizes s q) q; bytes_are = bytes }
