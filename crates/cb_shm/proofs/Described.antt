-- A script describes a new memory, and goes on to.
use Rattle.std.proofs.Common.{◌≡◌, ℕ, ◌+◌, List, [], ◌∷◌, ◌++◌, length, sym, ◌∙◌, ap, arith, append_assoc, Option, Some, subst}
use Prim.Native.Nat.{suc}
use Rattle.std.proofs.lemmas.List.{length-append}
use Rattle.std.specs.FinMap as map
use Rattle.gl_plain.specs.declared.memory.Patch.{Patch}
use Rattle.cb_shm.specs.declared.script.Script.{Script}
use Rattle.cb_shm.specs.declared.hostile.HostileMemory.{HostileMemory}
use Rattle.cb_shm.specs.Memory.{CopyEntry, MemoryView, copied}
use Rattle.cb_shm.specs.Blocks.{Blocks, sizes_of, part_of}
use Rattle.cb_shm.specs.Patched.{ArePatched}
use Rattle.cb_shm.specs.Hostile.{script_sizes, patches_at, numbered_below, at_number}
use Rattle.cb_shm.specs.Applied.{applied, zero_blocks}
use Rattle.cb_shm.specs.Waiting.{Waiting, bucket, filed_all}
use Rattle.cb_shm.specs.Whole.{IsWholeScript}
use Rattle.cb_shm.specs.HostileMemories.{IsMemoryOf, IsScripted, AreScripted, memory_of}
use Rattle.cb_shm.proofs.Applies.{ArePatched-applied, ArePatched-zero, sizes_applied}
use Rattle.cb_shm.proofs.Files.{bucket-filed_all, bucket-remove, at_number-inside}

pub described_new : (s : Script) (m : HostileMemory) → IsWholeScript s → m.history.copies ≡ []
    → m.regions ≡ applied (bucket (filed_all s.timed map.empty) 0) (applied s.opening (zero_blocks s.entries s.regions))
    → m.waiting ≡ map.remove (filed_all s.timed map.empty) 0 → IsMemoryOf s m
described_new s m whole copies regions waiting =
    let sizes = script_sizes s in
    let opened : ArePatched sizes s.opening (applied s.opening (zero_blocks s.entries s.regions)) = ArePatched-applied sizes [] s.opening (zero_blocks s.entries s.regions) (ArePatched-zero s whole.distinct) whole.opening in
    let first : ArePatched sizes (s.opening ++ at_number 0 s.timed) (applied (at_number 0 s.timed) (applied s.opening (zero_blocks s.entries s.regions))) =
    ArePatched-applied sizes s.opening (at_number 0 s.timed) (applied s.opening (zero_blocks s.entries s.regions)) opened (at_number-inside sizes 0 s.timed whole.timed) in
    let regions_is : m.regions ≡ applied (at_number 0 s.timed) (applied s.opening (zero_blocks s.entries s.regions)) =
    regions ∙ ap (λ (ps : List Patch). applied ps (applied s.opening (zero_blocks s.entries s.regions))) (bucket-filed_all s.timed 0) in
    let none : length m.history.copies ≡ 0 = ap length copies in
    record {
      whole = whole;
      copies_are = subst (AreScripted s 0) (sym copies) tt;
      regions_are = subst (λ (n : ℕ). ArePatched sizes (patches_at s n) m.regions) (sym none) (subst (ArePatched sizes (s.opening ++ at_number 0 s.timed)) (sym regions_is) first);
      waiting_is = λ n after. ap (λ (w : Waiting). bucket w n) waiting ∙ bucket-remove (filed_all s.timed map.empty) 0 n (λ is. absurd (omega (arith, none))) ∙ bucket-filed_all s.timed n;
    }

AreScripted-append : (s : Script) (n k : ℕ) (cs : List CopyEntry) (c : CopyEntry) → k ≡ n + length cs → AreScripted s n cs → IsScripted s k c → AreScripted s n (cs ++ c ∷ [])
AreScripted-append s n k [] c at all one =
    let first : k ≡ n = omega (arith, at) in
    (subst (λ (j : ℕ). IsScripted s j c) first one, tt)
AreScripted-append s n k (d ∷ cs) c at all one = (all.0, AreScripted-append s (n + 1) k cs c (omega (arith, at)) all.1 one)

-- one more copy gives what the regions had, and what waits for the next one is written
pub described_more : (s : Script) (a b : HostileMemory) (c : CopyEntry) → b.history.copies ≡ a.history.copies ++ c ∷ []
    → part_of (map.get a.regions c.region) c.offset (length c.bytes) ≡ Some c.bytes
    → b.regions ≡ applied (bucket a.waiting b.made) a.regions
    → b.waiting ≡ map.remove a.waiting b.made → IsMemoryOf s a → IsMemoryOf s b
described_more s a b c copies gave regions waiting is =
    let sizes = script_sizes s in
    let n = length a.history.copies in
    let next : length b.history.copies ≡ suc n = omega (arith, ap length copies, length-append a.history.copies (c ∷ [])) in
    let number : b.made ≡ suc n = b.counted ∙ next in
    let due : bucket a.waiting b.made ≡ at_number (suc n) s.timed = ap (bucket a.waiting) number ∙ is.waiting_is (suc n) (omega arith) in
    let now : ArePatched sizes (patches_at s n ++ at_number (suc n) s.timed) (applied (at_number (suc n) s.timed) a.regions) =
    ArePatched-applied sizes (patches_at s n) (at_number (suc n) s.timed) a.regions is.regions_are (at_number-inside sizes (suc n) s.timed is.whole.timed) in
    let patches : patches_at s n ++ at_number (suc n) s.timed ≡ patches_at s (suc n) = append_assoc s.opening (numbered_below (suc n) s.timed) (at_number (suc n) s.timed) in
    let regions_is : b.regions ≡ applied (at_number (suc n) s.timed) a.regions = regions ∙ ap (λ (ps : List Patch). applied ps a.regions) due in
    let scripted : IsScripted s n c = ap (λ (o : Option (List ℕ)). part_of o c.offset (length c.bytes)) (sym (is.regions_are.bytes_are c.region)) ∙ gave in
    record {
      whole = is.whole;
      copies_are = subst (AreScripted s 0) (sym copies) (AreScripted-append s 0 n a.history.copies c (omega arith) is.copies_are scripted);
      regions_are = subst (λ (k : ℕ). ArePatched sizes (patches_at s k) b.regions) (sym next) (subst (ArePatched sizes (patches_at s (suc n))) (sym regions_is) (subst (λ (ps : List Patch). ArePatched sizes ps (applied (at_number (suc n) s.timed) a.regions)) patches now));
      waiting_is = λ k after. ap (λ (w : Waiting). bucket w k) waiting ∙ bucket-remove a.waiting b.made k (λ same. absurd (omega (arith, same, number))) ∙ is.waiting_is k (omega (arith, next));
    }

abbrev pub SeenMore : HostileMemory → List CopyEntry → Blocks → ℕ → ℕ → List ℕ → Type 0
SeenMore a copies regions region offset bytes = let seen : MemoryView = record { sizes = sizes_of regions; copies = copies; puts = a.history.puts } in seen ≡ copied (memory_of a) region offset bytes

-- what is seen of the memory gains the copy alone
pub seen_more : (a : HostileMemory) (copies : List CopyEntry) (regions : Blocks) (region offset : ℕ) (bytes : List ℕ) (ps : List Patch)
    → copies ≡ a.history.copies ++ record { region = region; offset = offset; bytes = bytes } ∷ [] → regions ≡ applied ps a.regions → SeenMore a copies regions region offset bytes
seen_more a copies regions region offset bytes ps more written =
    λ i. record { sizes = (ap sizes_of written ∙ sizes_applied ps a.regions) i; copies = more i; puts = a.history.puts }
