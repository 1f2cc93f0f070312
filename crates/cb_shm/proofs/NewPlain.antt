-- A new memory of zeros.
use Rattle.std.proofs.Common.{◌≡◌, ℕ, ◌*◌, Bool, true, false, List, [], refl, sym, ◌∙◌, ap, Option, None, Some, inl, inr, ◌==◌, if◌then◌else◌, length, replicate}
use Rattle.std.proofs.lemmas.List.{length-replicate}
use Rattle.std.proofs.lemmas.Bool.{eq-eqb, ne_eqb}
use Rattle.std.specs.Option.{option_map}
use Rattle.std.specs.Ordering.{nat_cmp}
use Rattle.std.specs.FinMap as map
use Rattle.gl_base.proofs.Found.{get-insert_here, get-insert_other, test}
use Rattle.cb_shm.specs.declared.plain.TheConstants.{RESULT_SIZE}
use Rattle.cb_shm.specs.Blocks.{Blocks}
use Rattle.cb_shm.specs.Patched.{ArePatched, patched_zeros}
use Rattle.cb_shm.specs.PlainView.{plain_size}

-- the bytes of a region after one more was added
pub get-added : (blocks : Blocks) (k : ℕ) (bytes : List ℕ) (q : ℕ) → map.get (map.insert blocks k bytes) q ≡ (if q == k then Some bytes else map.get blocks q)
get-added blocks k bytes q = elim (test q k) [
  | inl p ↦ ap (map.get (map.insert blocks k bytes)) p.0 ∙ get-insert_here blocks k bytes ∙ ap (λ (b : Bool). if b then Some bytes else map.get blocks q) (sym (eq-eqb q k p.0))
  | inr p ↦ get-insert_other blocks k bytes q p.0 ∙ ap (λ (b : Bool). if b then Some bytes else map.get blocks q) (sym (ne_eqb q k p.0))
]

abbrev pub plain_none : Blocks
plain_none = map.empty

abbrev pub plain_blocks : ℕ → ℕ → Blocks
plain_blocks entries transfer = map.insert (map.insert (map.insert plain_none 2 (replicate RESULT_SIZE 0)) 1 (replicate transfer 0)) 0 (replicate (4 * entries) 0)

none_there : (q : ℕ) → map.get plain_none q ≡ None
none_there q = map.get-empty nat_cmp q

-- the bytes of each region, from the last one added on
found : (entries transfer q : ℕ) → map.get (plain_blocks entries transfer) q
    ≡ (if q == 0 then Some (replicate (4 * entries) 0) else if q == 1 then Some (replicate transfer 0) else if q == 2 then Some (replicate RESULT_SIZE 0) else None)
found entries transfer q =
    let two = map.insert plain_none 2 (replicate RESULT_SIZE 0) in
    let one = map.insert two 1 (replicate transfer 0) in
    get-added one 0 (replicate (4 * entries) 0) q
    ∙ ap (λ (r : Option (List ℕ)). if q == 0 then Some (replicate (4 * entries) 0) else r) (get-added two 1 (replicate transfer 0) q
    ∙ ap (λ (r : Option (List ℕ)). if q == 1 then Some (replicate transfer 0) else r) (get-added plain_none 2 (replicate RESULT_SIZE 0) q
    ∙ ap (λ (r : Option (List ℕ)). if q == 2 then Some (replicate RESULT_SIZE 0) else r) (none_there q)))

bytes_chosen : (a b c : Bool) (x y z q : ℕ) → (if a then Some (replicate x 0) else if b then Some (replicate y 0) else if c then Some (replicate z 0) else None)
    ≡ option_map (patched_zeros [] q) (if a then Some x else if b then Some y else if c then Some z else None)
bytes_chosen true b c x y z q = refl
bytes_chosen false true c x y z q = refl
bytes_chosen false false true x y z q = refl
bytes_chosen false false false x y z q = refl

pub sizes_chosen : (size : Option ℕ) (q : ℕ) → option_map length (option_map (patched_zeros [] q) size) ≡ size
sizes_chosen None q = refl
sizes_chosen (Some n) q = ap (λ (m : ℕ). Some m) (length-replicate n 0)

pub ArePatched-new : (entries transfer : ℕ) → ArePatched (plain_size entries transfer) [] (plain_blocks entries transfer)
ArePatched-new entries transfer =
    let bytes : (q : ℕ) → map.get (plain_blocks entries transfer) q ≡ option_map (patched_zeros [] q) (plain_size entries transfer q) =
    λ q. found entries transfer q ∙ bytes_chosen (q == 0) (q == 1) (q == 2) (4 * entries) transfer RESULT_SIZE q in
    record { sizes_are = λ q. ap (option_map length) (bytes q) ∙ sizes_chosen (plain_size entries transfer q) q; bytes_are = bytes }
