-- A line that may stand after those before it leaves what they say a whole script within the limits.
use Rattle.std.proofs.Common.{◌≡◌, ℕ, ◌+◌, ◌*◌, ◌≤◌, Bool, true, false, List, [], ◌∷◌, ◌++◌, length, refl, ap, arith, Option, None, Some, ◌==◌, ◌&&◌, if◌then◌else◌, subst, nat_le, eqb, is_none}
use Rattle.std.proofs.lemmas.Bool.{leb-true}
use Rattle.std.proofs.lemmas.Grind.{common_steps}
use Rattle.std.proofs.lemmas.List.Sums.{sum_by_push}
use Rattle.std.specs.List.{AllByRecursion}
use Rattle.gl_plain.specs.Regions.{EndsWithin, ends_within, IsInside, is_inside}
use Rattle.gl_plain.specs.declared.memory.Patch.{Patch}
use Rattle.gl_plain.specs.declared.memory.Region.{Region}
use Rattle.gl_plain.specs.declared.memory.Timed.{Timed}
use Rattle.cb_shm.specs.declared.script.Script.{Script}
use Rattle.cb_shm.specs.Hostile.{listed_size, script_sizes}
use Rattle.cb_shm.specs.Whole.{AreDistinct, HasNumber, IsPatchInside, IsTimedInside}
use Rattle.gl_plain.specs.declared.common_lines.AnswersDraft.{AnswersDraft}
use Rattle.gl_plain.specs.declared.common_lines.CommonLine.{CommonLine}
use Rattle.gl_plain.specs.declared.common_lines.CommonLine.TheVariants.{Surface, Ring, Oom, Lost, Compile, Link, OfAttribute, OfUniform, Validate, Pixels}
use Rattle.gl_plain.specs.CommonLines.{closed, with_attribute, with_compile, with_link, with_lost, with_oom, with_pixels, with_uniform, with_validate, IsSoundDraft}
use Rattle.gl_plain.proofs.SoundAnswers.{let_through, sound_attribute, sound_closed, sound_compile, sound_link, sound_lost, sound_no_draft, sound_oom, sound_uniform, sound_validate}
use Rattle.ring_script.specs.Limits.{listed_bytes, total_bytes, IsSmall}
use Rattle.ring_script.specs.Rules.{before_line, draft_after, empty_draft, ends_list, is_first, is_side, script_of, with_answers, with_common, with_line, with_opening, with_put, with_region, with_ring, with_surface, with_timed, IsSound}
use Rattle.ring_script.specs.Script.{draft_with}
use Rattle.ring_script.specs.Lines.{line_in}
use Rattle.ring_script.specs.declared.draft.Draft.{Draft}
use Rattle.ring_script.specs.declared.line.Line.{Line}
use Rattle.ring_script.specs.declared.line.Line.TheVariants.{PassedOver, Region as OfRegion, Opening, At, Put, Common}
use Rattle.gl_plain.specs.Fields.{◌>>=◌}

-- what holds of each, and of one more
all_push : {X : Type 0} (P : X → Type 0) (xs : List X) (x : X) → AllByRecursion P xs → P x → AllByRecursion P (xs ++ x ∷ [])
all_push P [] x all one = (one, tt)
all_push P (y ∷ xs) x all one = (all.0, all_push P xs x all.1 one)

-- what is weaker than what holds of each
all_weaker : {X : Type 0} (P Q : X → Type 0) (xs : List X) → ((x : X) → P x → Q x) → AllByRecursion P xs → AllByRecursion Q xs
all_weaker P Q [] weaker all = tt
all_weaker P Q (x ∷ xs) weaker all = (weaker x all.0, all_weaker P Q xs weaker all.1)

-- anything holds of each of none
all_of_none : {X : Type 0} (P : X → Type 0) (xs : List X) → eqb (length xs) 0 ≡ true → AllByRecursion P xs
all_of_none P [] none = tt
all_of_none P (x ∷ xs) none = absurd (grind arith)

-- a range that passes the test lies inside
tested : (sizes : ℕ → Option ℕ) (region offset count : ℕ) → is_inside sizes region offset count ≡ true → IsInside sizes region offset count
tested sizes region offset count e = go (sizes region) e
  where
    go : (size : Option ℕ) → ends_within size offset count ≡ true → EndsWithin size offset count
    go None e = absurd (cc)
    go (Some n) e = leb-true (offset + count) n e

-- a range in a listed region lies in it with one more region behind
ends_more : (rs : List Region) (r : Region) (q offset count : ℕ) → EndsWithin (listed_size rs q) offset count → EndsWithin (listed_size (rs ++ r ∷ []) q) offset count
ends_more [] r q offset count ends = absurd ends
ends_more (x ∷ rs) r q offset count ends = go (x.id == q) (ends_more rs r q offset count) ends
  where
    go : (b : Bool) → (EndsWithin (listed_size rs q) offset count → EndsWithin (listed_size (rs ++ r ∷ []) q) offset count) → EndsWithin (if b then Some x.size else listed_size rs q) offset count
        → EndsWithin (if b then Some x.size else listed_size (rs ++ r ∷ []) q) offset count
    go true later ends = ends
    go false later ends = later ends

-- so does a range in the ring or a listed region
inside_more : (s : Script) (r : Region) (q offset count : ℕ) → IsInside (script_sizes s) q offset count → IsInside (script_sizes (record s { regions = s.regions ++ r ∷ [] })) q offset count
inside_more s r q offset count inside = go (q == 0) inside
  where
    go : (b : Bool) → EndsWithin (if b then Some (4 * s.entries) else listed_size s.regions q) offset count
        → EndsWithin (if b then Some (4 * s.entries) else listed_size (s.regions ++ r ∷ []) q) offset count
    go true inside = inside
    go false inside = ends_more s.regions r q offset count inside

-- a number that no region has, and that differs from that of one more, is still no region's
none_more : (rs : List Region) (r : Region) (q : ℕ) → (r.id == q) ≡ false → listed_size rs q ≡ None → listed_size (rs ++ r ∷ []) q ≡ None
none_more [] r q other none = ap (λ b. if b then Some r.size else None) other
none_more (x ∷ rs) r q other none = go (x.id == q) (none_more rs r q other) none
  where
    go : (b : Bool) → (listed_size rs q ≡ None → listed_size (rs ++ r ∷ []) q ≡ None) → (if b then Some x.size else listed_size rs q) ≡ None → (if b then Some x.size else listed_size (rs ++ r ∷ []) q) ≡ None
    go true later none = absurd (cc)
    go false later none = later none

-- regions of different numbers, and one more of another
distinct_push : (rs : List Region) (r : Region) → AreDistinct rs → listed_size rs r.id ≡ None → AreDistinct (rs ++ r ∷ [])
distinct_push [] r distinct new = (refl, tt)
distinct_push (x ∷ rs) r distinct new = let later = differs (x.id == r.id) refl new in (none_more rs r x.id later.0 distinct.0, distinct_push rs r distinct.1 later.1)
  where
    differs : (b : Bool) → (x.id == r.id) ≡ b → (if b then Some x.size else listed_size rs r.id) ≡ None → ((r.id == x.id) ≡ false) × (listed_size rs r.id ≡ None)
    differs true is new = absurd (cc)
    differs false is new = (grind arith, new)

-- before the first line the script has a ring alone
pub sound_empty : IsSound empty_draft
sound_empty = record {
  whole = record { some_entries = omega arith; few_entries = omega arith; numbers = tt; distinct = tt; opening = tt; timed = tt };
  limits = record { each = tt; total = omega arith };
  answers = sound_no_draft;
}

-- no regions have no bytes
no_bytes : (rs : List Region) → eqb (length rs) 0 ≡ true → listed_bytes rs ≡ 0
no_bytes [] none = refl
no_bytes (r ∷ rs) none = absurd (grind arith)

-- what the test of a `ring` line says
ring_tests : (draft : Draft) (n : ℕ) → (is_first draft && nat_le 2 n && nat_le n 1048576) ≡ true
    → (eqb (length draft.regions) 0 ≡ true) × (eqb (length draft.opening) 0 ≡ true) × (eqb (length draft.timed) 0 ≡ true) × (2 ≤ n) × (n ≤ 1048576)
ring_tests draft n e = grind (arith, common_steps)

-- a `ring` line that may stand
sound_ring : (draft next : Draft) (n : ℕ) → IsSound draft → with_ring draft n ≡ Some next → IsSound next
unfolding with_ring
sound_ring draft next n sound e =
    let chosen = let_through (is_first draft && nat_le 2 n && nat_le n 1048576) (record draft { ring = Some n }) next e in
    let tests = ring_tests draft n chosen.0 in
    let sizes = script_sizes (script_of (record draft { ring = Some n })) in
    subst IsSound chosen.1 (record {
      whole = record {
        some_entries = tests.3;
        few_entries = tests.4;
        numbers = sound.whole.numbers;
        distinct = sound.whole.distinct;
        opening = all_of_none (IsPatchInside sizes) draft.opening tests.1;
        timed = all_of_none (IsTimedInside sizes) draft.timed tests.2;
      };
      limits = record { each = sound.limits.each; total = omega (arith, no_bytes draft.regions tests.0, tests.4) };
      answers = sound.answers;
    })

-- what the test of a `region` line says
region_tests : (draft : Draft) (r : Region)
    → (nat_le 1 r.id && nat_le r.id 255 && is_none (listed_size draft.regions r.id) && nat_le r.size 67108864 && nat_le (total_bytes (script_of draft) + r.size) 268435456) ≡ true
    → HasNumber r × (listed_size draft.regions r.id ≡ None) × (r.size ≤ 67108864) × (total_bytes (script_of draft) + r.size ≤ 268435456)
region_tests draft r e = grind (arith, common_steps)

-- a `region` line that may stand
sound_region : (draft next : Draft) (r : Region) → IsSound draft → with_region draft r ≡ Some next → IsSound next
unfolding with_region
sound_region draft next r sound e =
    let chosen = let_through
    (nat_le 1 r.id && nat_le r.id 255 && is_none (listed_size draft.regions r.id) && nat_le r.size 67108864 && nat_le (total_bytes (script_of draft) + r.size) 268435456)
    (record draft { regions = draft.regions ++ r ∷ [] }) next e in
    let tests = region_tests draft r chosen.0 in
    let old = script_sizes (script_of draft) in
    let sizes = script_sizes (script_of (record draft { regions = draft.regions ++ r ∷ [] })) in
    subst IsSound chosen.1 (record {
      whole = record {
        some_entries = sound.whole.some_entries;
        few_entries = sound.whole.few_entries;
        numbers = all_push HasNumber draft.regions r sound.whole.numbers tests.0;
        distinct = distinct_push draft.regions r sound.whole.distinct tests.1;
        opening = all_weaker (IsPatchInside old) (IsPatchInside sizes) draft.opening (λ p. inside_more (script_of draft) r p.region p.offset (length p.bytes)) sound.whole.opening;
        timed = all_weaker (IsTimedInside old) (IsTimedInside sizes) draft.timed (λ t. inside_more (script_of draft) r t.region t.offset (length t.bytes)) sound.whole.timed;
      };
      limits = record { each = all_push IsSmall draft.regions r sound.limits.each tests.2; total = omega (arith, sum_by_push (λ (x : Region). x.size) draft.regions r, tests.3) };
      answers = sound.answers;
    })

-- a `bytes` line that may stand
sound_opening : (draft next : Draft) (p : Patch) → IsSound draft → with_opening draft p ≡ Some next → IsSound next
unfolding with_opening
sound_opening draft next p sound e =
    let sizes = script_sizes (script_of draft) in
    let chosen = let_through (is_inside sizes p.region p.offset (length p.bytes)) (record draft { opening = draft.opening ++ p ∷ [] }) next e in
    let inside : IsPatchInside sizes p = tested sizes p.region p.offset (length p.bytes) chosen.0 in
    subst IsSound chosen.1 (record {
      whole = record {
        some_entries = sound.whole.some_entries;
        few_entries = sound.whole.few_entries;
        numbers = sound.whole.numbers;
        distinct = sound.whole.distinct;
        opening = all_push (IsPatchInside sizes) draft.opening p sound.whole.opening inside;
        timed = sound.whole.timed;
      };
      limits = record { each = sound.limits.each; total = sound.limits.total };
      answers = sound.answers;
    })

-- an `at` line that may stand
sound_timed : (draft next : Draft) (t : Timed) → IsSound draft → with_timed draft t ≡ Some next → IsSound next
unfolding with_timed
sound_timed draft next t sound e =
    let sizes = script_sizes (script_of draft) in
    let chosen = let_through (is_inside sizes t.region t.offset (length t.bytes)) (record draft { timed = draft.timed ++ t ∷ [] }) next e in
    let inside : IsTimedInside sizes t = tested sizes t.region t.offset (length t.bytes) chosen.0 in
    subst IsSound chosen.1 (record {
      whole = record {
        some_entries = sound.whole.some_entries;
        few_entries = sound.whole.few_entries;
        numbers = sound.whole.numbers;
        distinct = sound.whole.distinct;
        opening = sound.whole.opening;
        timed = all_push (IsTimedInside sizes) draft.timed t sound.whole.timed inside;
      };
      limits = record { each = sound.limits.each; total = sound.limits.total };
      answers = sound.answers;
    })

-- a line that says nothing of the memory
sound_beside : (draft : Draft) (surface : Option (ℕ × ℕ)) (puts : List ℕ) (answers : AnswersDraft) → IsSound draft → IsSoundDraft answers → IsSound (record draft { surface = surface; puts = puts; answers = answers })
sound_beside draft surface puts answers sound said = record {
  whole = record {
    some_entries = sound.whole.some_entries;
    few_entries = sound.whole.few_entries;
    numbers = sound.whole.numbers;
    distinct = sound.whole.distinct;
    opening = sound.whole.opening;
    timed = sound.whole.timed;
  };
  limits = record { each = sound.limits.each; total = sound.limits.total };
  answers = said;
}

-- a `surface` line that may stand
sound_surface : (draft next : Draft) (width height : ℕ) → IsSound draft → with_surface draft width height ≡ Some next → IsSound next
unfolding with_surface
sound_surface draft next width height sound e =
    let chosen = let_through (is_none draft.surface && is_side width && is_side height) (record draft { surface = Some (width, height) }) next e in
    subst IsSound chosen.1 (sound_beside draft (Some (width, height)) draft.puts draft.answers sound sound.answers)

-- a `put` line
sound_put : (draft next : Draft) (put : ℕ) → IsSound draft → Some (with_put draft put) ≡ Some next → IsSound next
sound_put draft next put sound e =
    let same : with_put draft put ≡ next = cc in
    subst IsSound same (sound_beside draft draft.surface (draft.puts ++ put ∷ []) draft.answers sound sound.answers)

-- a line that traces have as well, by the answers that it gives
sound_answers : (draft next : Draft) (answers : Option AnswersDraft) → IsSound draft → ((a : AnswersDraft) → answers ≡ Some a → IsSoundDraft a) → with_answers draft answers ≡ Some next → IsSound next
sound_answers draft next None sound said e = absurd (cc)
sound_answers draft next (Some answers) sound said e =
    let same : record draft { answers = answers } ≡ next = cc in
    subst IsSound same (sound_beside draft draft.surface draft.puts answers sound (said answers refl))

-- pixels may be any bytes
sound_pixels : (draft next : AnswersDraft) (bytes : List ℕ) → IsSoundDraft draft → Some (with_pixels draft bytes) ≡ Some next → IsSoundDraft next
sound_pixels draft next bytes sound e =
    let same : with_pixels draft bytes ≡ next = cc in
    subst IsSoundDraft same (record { compile = sound.compile; link = sound.link; last = sound.last; validate = sound.validate })

sound_common : (draft next : Draft) (line : CommonLine) → IsSound draft → with_common draft line ≡ Some next → IsSound next
unfolding with_common
sound_common draft next (Surface width height) sound e = sound_surface draft next width height sound e
sound_common draft next (Ring n) sound e = sound_ring draft next n sound e
sound_common draft next (Oom question) sound e = sound_answers draft next (with_oom draft.answers question) sound (λ a. sound_oom draft.answers a question sound.answers) e
sound_common draft next (Lost call) sound e = sound_answers draft next (with_lost draft.answers call) sound (λ a. sound_lost draft.answers a call sound.answers) e
sound_common draft next (Compile v) sound e = sound_answers draft next (with_compile draft.answers v) sound (λ a. sound_compile draft.answers a v sound.answers) e
sound_common draft next (Link v) sound e = sound_answers draft next (with_link draft.answers v) sound (λ a. sound_link draft.answers a v sound.answers) e
sound_common draft next (OfAttribute x) sound e = sound_answers draft next (with_attribute draft.answers x) sound (λ a. sound_attribute draft.answers a x sound.answers) e
sound_common draft next (OfUniform u) sound e = sound_answers draft next (with_uniform draft.answers u) sound (λ a. sound_uniform draft.answers a u sound.answers) e
sound_common draft next (Validate v) sound e = sound_answers draft next (with_validate draft.answers v) sound (λ a. sound_validate draft.answers a v sound.answers) e
sound_common draft next (Pixels bytes) sound e = sound_answers draft next (Some (with_pixels draft.answers bytes)) sound (λ a. sound_pixels draft.answers a bytes sound.answers) e

-- any line that may stand
sound_line : (draft next : Draft) (line : Line) → IsSound draft → with_line draft line ≡ Some next → IsSound next
unfolding with_line
sound_line draft next PassedOver sound e = let same : draft ≡ next = cc in subst IsSound same sound
sound_line draft next (OfRegion r) sound e = sound_region draft next r sound e
sound_line draft next (Opening p) sound e = sound_opening draft next p sound e
sound_line draft next (At t) sound e = sound_timed draft next t sound e
sound_line draft next (Put put) sound e = sound_put draft next put sound e
sound_line draft next (Common line) sound e = sound_common draft next line sound e

-- the list of the last link ends, or not
pub sound_before : (draft : Draft) (line : Line) → IsSound draft → IsSound (before_line draft line)
sound_before draft line sound = go (ends_list line)
  where
    go : (b : Bool) → IsSound (if b then record draft { answers = closed draft.answers } else draft)
    go true = sound_beside draft draft.surface draft.puts (closed draft.answers) sound (sound_closed draft.answers sound.answers)
    go false = sound

-- any line that may stand after those before
sound_after : (draft next : Draft) (line : Line) → IsSound draft → draft_after draft line ≡ Some next → IsSound next
unfolding draft_after
sound_after draft next line sound e = sound_line (before_line draft line) next line (sound_before draft line sound) e

-- any text of a line that may stand
pub sound_with : (text : List ℕ) (draft next : Draft) → IsSound draft → draft_with text draft ≡ Some next → IsSound next
sound_with text draft next sound e = go (line_in text) e
  where
    go : (o : Option Line) → (o >>= draft_after draft) ≡ Some next → IsSound next
    go None e = absurd (cc)
    go (Some line) e = sound_after draft next line sound e
