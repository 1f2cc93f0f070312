-- What is copied is what memory holds at the number of each copy.
use Prim.Native.Nat.{suc}
use Rattle.std.proofs.Common.{◌≡◌, ◌≢◌, ◌<◌, ◌≤◌, inl, inr, ℕ, ◌+◌, ◌-◌, ◌*◌, ◌/◌, ◌==◌, ◌++◌, Bool, true, false, cond, min, nat_lt, List, [], ◌∷◌, length, Option, None, Some, IsSome, refl, sym, ◌∙◌, ap, subst, arith, length-append}
use Rattle.std.proofs.lemmas.Bool.Decides.{nat_tests}
use Rattle.gl_base.specs.declared.limits.TheConstants.{COPY_LIMIT}
use Rattle.gl_plain.specs.Bytes.{word_at, words_from}
use Rattle.gl_plain.specs.declared.commands.Fetched.{Fetched}
use Rattle.gl_plain.specs.declared.commands.Malformed.{Malformed}
use Rattle.gl_plain.specs.declared.commands.Malformed.TheVariants.{OutOfBounds}
use Rattle.gl_plain.specs.declared.commands.Stop.{Stop}
use Rattle.cb_format.specs.declared.layouts.Plan.{Plan}
use Rattle.cb_format.specs.declared.layouts.Plan.TheVariants as plan
use Rattle.cb_format.specs.Plans.{plan_of, data_count}
use Rattle.cb_format.specs.Ring.{number_in, size_in, next_get, first_fault, range_fault}
use Rattle.cb_shm.specs.Memory.{CopyEntry, MemoryView, copied}
use Rattle.cb_fetch.specs.Begun.{Begun, Nothing, Header, Body, Range, header_range, words_range, piece_range, next_range, next_piece, word_count, with_copy, header_in, fault_in, fetched_in}
use Rattle.cb_fetch.specs.FetchViews.{FetchView}
use Rattle.cb_fetch.specs.Fetching.{MadeCopy, DidCopy, DidRead, FoundBad}
use Rattle.cb_fetch.specs.Seen.{Reads, AreGiven, header_read, words_count, words_read, plan_read, pieces_read, piece_count, data_read, command_at, fault_at, first_of}
use Rattle.cb_fetch.specs.Reading.{ArePieces, HasCopied, HasRead, IsApart, IsBegun, IsRead}
use Rattle.cb_fetch.proofs.Layouts.{put_fault, words_of, bare_plan}
use Rattle.cb_fetch.proofs.Passed.{HasPassed, no_count, none_left, some_left, piece_some}
use Rattle.cb_fetch.proofs.Less.{nearer}

-- the last copy gave what is read at its number
last_given : (reads : Reads) (k : ℕ) (cs : List CopyEntry) (c : CopyEntry) → AreGiven reads k (cs ++ c ∷ []) → reads (k + length cs) c.region c.offset (length c.bytes) ≡ c.bytes
last_given reads k [] c given =
    let e : k + 0 ≡ k = omega arith in
    rw e given.0
last_given reads k (d ∷ cs) c given =
    let e : k + length (d ∷ cs) ≡ k + 1 + length cs = omega arith in
    rw e (last_given reads (k + 1) cs c given.1)

module _ (reads : Reads) (f : FetchView) (m m2 : MemoryView) (now : Begun) (c : MadeCopy f m m2 now) where
  given_copy : AreGiven reads 0 m2.copies → reads (length m.copies) c.range.region c.range.offset c.range.count ≡ c.bytes
  given_copy given =
      let there : AreGiven reads 0 (copied m c.range.region c.range.offset c.bytes).copies = subst (λ (x : MemoryView). AreGiven reads 0 x.copies) c.made given in
      let e : 0 + length m.copies ≡ length m.copies = omega arith in
      ap (λ k. reads k c.range.region c.range.offset c.range.count) (sym e) ∙ ap (reads (0 + length m.copies) c.range.region c.range.offset) (sym c.whole)
      ∙ last_given reads 0 m.copies (record { region = c.range.region; offset = c.range.offset; bytes = c.bytes }) there

  one_more : length m2.copies ≡ length m.copies + 1
  one_more =
      let entry : CopyEntry = record { region = c.range.region; offset = c.range.offset; bytes = c.bytes } in
      ap (λ (x : MemoryView). length x.copies) c.made ∙ length-append m.copies (entry ∷ [])

-- Pieces of the data were copied, the last one maybe shorter.
pub record PiecesTaken (reads : Reads) (n k region offset count : ℕ) (payload : List ℕ) : Type 0 where
  pub pieces : ℕ
  pub made : k ≡ n + pieces
  pub bytes : payload ≡ pieces_read reads n region offset count pieces
  pub some : length payload ≡ min (COPY_LIMIT * pieces) count
  pub few : COPY_LIMIT * pieces < count + COPY_LIMIT

-- a front of the data of a plan, which may be all of it
abbrev pub DataTaken : Reads → ℕ → ℕ → Plan → List ℕ → Type 0
DataTaken reads n k plan.Nothing payload = (payload ≡ []) × (k ≡ n)
DataTaken reads n k (plan.Read region offset count) payload = PiecesTaken reads n k region offset count payload
DataTaken reads n k (plan.Write region offset count) payload = (payload ≡ []) × (k ≡ n)

-- what was copied of a command, which may be all of it
abbrev pub IsTaken : Reads → (ℕ → Option ℕ) → ℕ → ℕ → ℕ → ℕ → ℕ → Begun → Type 0
IsTaken reads sizes entries put get n k Nothing = ⊥
IsTaken reads sizes entries put get n k (Header header) = (k ≡ n + 1) × (header ≡ header_read reads n get) × (first_fault entries put get header ≡ None)
IsTaken reads sizes entries put get n k (Body header words payload) =
    (header ≡ header_read reads n get) × (first_fault entries put get header ≡ None)
    × (words ≡ words_read reads n get) × (range_fault sizes (plan_of (number_in header) words) ≡ None)
    × DataTaken reads (n + 2) k (plan_of (number_in header) words) payload

module _ (reads : Reads) (n k : ℕ) where
  none_taken : (p : Plan) → k ≡ n → DataTaken reads n k p []
  none_taken plan.Nothing e = (refl, e)
  none_taken (plan.Read region offset count) e = record { pieces = 0; made = omega arith; bytes = refl; some = omega arith; few = omega arith }
  none_taken (plan.Write region offset count) e = (refl, e)

  -- one more piece
  piece_taken : (region offset count : ℕ) (payload bytes : List ℕ) (a : ArePieces reads n k region offset count payload) → length payload < count
      → length bytes ≡ min COPY_LIMIT (count - length payload) → reads k region (offset + length payload) (min COPY_LIMIT (count - length payload)) ≡ bytes → PiecesTaken reads n (k + 1) region offset count (payload ++ bytes)
  piece_taken region offset count payload bytes a lt len read =
      let l = length-append payload bytes in
      let full = a.full in
      let made = a.made in
      record {
        pieces = a.pieces + 1;
        made = omega arith;
        bytes = next;
        some = omega arith;
        few = omega arith;
      } where
        next : payload ++ bytes ≡ pieces_read reads n region offset count (a.pieces + 1)
        next =
            let s : a.pieces + 1 ≡ suc a.pieces = omega arith in
            rw (s, ← a.full, ← a.made, read) (ap (λ w. w ++ bytes) a.bytes)

  -- what is not all is whole pieces
  pieces_so_far : (region offset count : ℕ) (payload : List ℕ) → PiecesTaken reads n k region offset count payload → length payload < count → ArePieces reads n k region offset count payload
  pieces_so_far region offset count payload t lt =
      let some = t.some in
      record { pieces = t.pieces; made = t.made; bytes = t.bytes; full = omega arith }

  -- all of the data
  all_taken : (p : Plan) (payload : List ℕ) → DataTaken reads n k p payload → next_piece p (length payload) ≡ None → (payload ≡ data_read reads n p) × (k ≡ n + piece_count (data_count p))
  all_taken plan.Nothing payload t e = (t.0, rw t.1 (omega arith))
  all_taken (plan.Write region offset count) payload t e = (t.0, rw t.1 (omega arith))
  all_taken (plan.Read region offset count) payload t e =
      let le : count ≤ length payload = none_left (length payload) count _ e in
      let some = t.some in
      let few = t.few in
      let c : t.pieces ≡ (count + 4095) / 4096 = omega arith in
      (t.bytes ∙ ap (pieces_read reads n region offset count) c, t.made ∙ ap (λ w. n + w) c)

module _ (reads : Reads) (sizes : ℕ → Option ℕ) (entries put get n k : ℕ) where
  -- the header that was copied is the one that is read
  header_is : (range : Range) (bytes : List ℕ) → k ≡ n → Some (header_range get) ≡ Some range → reads k range.region range.offset range.count ≡ bytes → word_at bytes 0 ≡ header_read reads n get
  header_is range bytes e planned read =
      let r : range ≡ header_range get = cc in
      let here : reads k 0 (4 * get) 4 ≡ bytes = subst (λ (r : Range). reads k r.region r.offset r.count ≡ bytes) r read in
      ap (λ (w : List ℕ). word_at w 0) (sym here ∙ ap (λ x. reads x 0 (4 * get) 4) e)

  some_range : (b : Bool) (r range : Range) → cond b None (Some r) ≡ Some range → range ≡ r
  some_range true r range e = cc
  some_range false r range e = cc

  -- and so are the words
  words_are : (header : ℕ) (range : Range) (bytes : List ℕ) → k ≡ n + 1 → header ≡ header_read reads n get → next_range get (Header header) ≡ Some range
      → reads k range.region range.offset range.count ≡ bytes → words_from bytes 0 (word_count header) ≡ words_read reads n get
  words_are header range bytes e is planned read =
      let r : range ≡ words_range get (word_count header) = some_range (word_count header == 0) _ range planned in
      let here : reads k 0 (4 * (get + 1)) (4 * word_count header) ≡ bytes = subst (λ (r : Range). reads k r.region r.offset r.count ≡ bytes) r read in
      ap (λ (w : List ℕ). words_from w 0 (word_count header)) (sym here)
      ∙ (λ i. words_from (reads (e i) 0 (4 * (get + 1)) (4 * word_count (is i))) 0 (word_count (is i)))

  piece_is : (region offset count done : ℕ) (range : Range) → next_piece (plan.Read region offset count) done ≡ Some range → range ≡ piece_range (record { region = region; offset = offset; count = count }) done
  piece_is region offset count done range e = by_test (nat_lt done count) (piece_range (record { region = region; offset = offset; count = count }) done) e where
    by_test : (b : Bool) (r : Range) → cond b (Some r) None ≡ Some range → range ≡ r
    by_test true r e = cc
    by_test false r e = cc

  -- with one more copy
  pub taken_more : (begun : Begun) (range : Range) (bytes : List ℕ) → HasCopied reads sizes entries put get n k begun → next_range get begun ≡ Some range → length bytes ≡ range.count
      → reads k range.region range.offset range.count ≡ bytes → fault_in sizes entries put get (with_copy begun bytes) ≡ None → IsTaken reads sizes entries put get n (k + 1) (with_copy begun bytes)
  taken_more Nothing range bytes b planned len read fair = (ap (λ x. x + 1) b, header_is range bytes b planned read, fair)
  taken_more (Header header) range bytes b planned len read fair =
      (b.1, b.2, words_are header range bytes b.0 b.1 planned read, fair, none_taken reads (n + 2) (k + 1) _ (omega (arith, b.0)))
  taken_more (Body header words payload) range bytes b planned len read fair =
      let region = b.4.0 in
      let offset = b.4.1 in
      let count = b.4.2 in
      let p = b.4.3 in
      let here : next_piece (plan.Read region offset count) (length payload) ≡ Some range = subst (λ (x : Plan). next_piece x (length payload) ≡ Some range) p planned in
      let r = piece_is region offset count (length payload) range here in
      let some = piece_some (plan.Read region offset count) (length payload) range here in
      let whole : length bytes ≡ min COPY_LIMIT (count - length payload) = len ∙ ap (λ (r : Range). r.count) r in
      let there : reads k region (offset + length payload) (min COPY_LIMIT (count - length payload)) ≡ bytes = subst (λ (r : Range). reads k r.region r.offset r.count ≡ bytes) r read in
      (b.0, b.1, b.2, b.3, subst (λ (x : Plan). DataTaken reads (n + 2) (k + 1) x (payload ++ bytes)) (sym p) (piece_taken reads (n + 2) k region offset count payload bytes b.4.4 some.2 whole there))

  -- what was taken and is not all
  pub begun_more : (now : Begun) → IsTaken reads sizes entries put get n k now → IsSome (next_range get now) → HasCopied reads sizes entries put get n k now
  begun_more Nothing t more = absurd t
  begun_more (Header header) t more = t
  begun_more (Body header words payload) t more = (t.0, t.1, t.2, t.3, by_plan _ refl t.4 more) where
    by_plan : (p : Plan) → plan_of (number_in header) words ≡ p → DataTaken reads (n + 2) k p payload → IsSome (next_piece p (length payload))
        → (region offset count : ℕ) × (plan_of (number_in header) words ≡ plan.Read region offset count) × ArePieces reads (n + 2) k region offset count payload
    by_plan plan.Nothing e d more = cc
    by_plan (plan.Write region offset count) e d more = cc
    by_plan (plan.Read region offset count) e d more = (region, offset, count, e, pieces_so_far reads (n + 2) k region offset count payload d (some_left (length payload) count _ more))

  -- the six tests of what is read
  fault_first : (kind : Malformed) → first_fault entries put get (header_read reads n get) ≡ Some kind → fault_at reads sizes entries put n get ≡ Some kind
  unfolding fault_at
  fault_first kind e = rw e refl

  fault_is : (o : Option Malformed) → first_fault entries put get (header_read reads n get) ≡ None → range_fault sizes (plan_read reads n get) ≡ o → fault_at reads sizes entries put n get ≡ o
  unfolding fault_at
  fault_is o e f = rw e f

  first_none : (first sixth : Option Malformed) → first_of first sixth ≡ None → first ≡ None
  first_none None sixth e = refl
  first_none (Some kind) sixth e = e

  pub header_fair : fault_at reads sizes entries put n get ≡ None → first_fault entries put get (header_read reads n get) ≡ None
  unfolding fault_at
  header_fair e = first_none (first_fault entries put get (header_read reads n get)) (range_fault sizes (plan_read reads n get)) e

  -- put is not below the entries
  pub put_seen : (kind : Malformed) → entries ≤ put → kind ≡ OutOfBounds → fault_at reads sizes entries put n get ≡ Some kind
  put_seen kind le e = fault_first kind (put_fault entries put get (header_read reads n get) le ∙ ap Some (sym e))

  -- the test that fails at one more copy
  pub bad_seen : (begun : Begun) (range : Range) (bytes : List ℕ) (kind : Malformed) → HasCopied reads sizes entries put get n k begun → next_range get begun ≡ Some range → length bytes ≡ range.count
      → reads k range.region range.offset range.count ≡ bytes → fault_in sizes entries put get (with_copy begun bytes) ≡ Some kind → fault_at reads sizes entries put n get ≡ Some kind
  bad_seen Nothing range bytes kind b planned len read fault =
      fault_first kind (ap (first_fault entries put get) (sym (header_is range bytes b planned read)) ∙ fault)
  bad_seen (Header header) range bytes kind b planned len read fault =
      let w = words_are header range bytes b.0 b.1 planned read in
      fault_is (Some kind) (ap (first_fault entries put get) (sym b.1) ∙ b.2)
      ((λ i. range_fault sizes (plan_of (number_in (sym b.1 i)) (sym w i))) ∙ fault)
  bad_seen (Body header words payload) range bytes kind b planned len read fault =
      let some = piece_some (plan_of (number_in header) words) (length payload) range planned in
      let l = length-append payload bytes in
      let lt : 0 < length (payload ++ bytes) = omega (arith, some.0) in
      let e : (length (payload ++ bytes) == 0) ≡ false = grind (arith, nat_tests) in
      let none = rw e at fault in
      cc

module _ (reads : Reads) (sizes : ℕ → Option ℕ) (f f2 : FetchView) (n k : ℕ) where
  -- the command that was read whole
  pub read_whole : (now : Begun) (command : Fetched) → HasPassed f.entries f.get now → IsTaken reads sizes f.entries f.put f.get n k now → next_range f.get now ≡ None
      → command ≡ fetched_in f.get now → f2.get ≡ next_get f.entries f.get (size_in (header_in now)) → HasRead reads sizes f f2 n k command
  unfolding command_at
  read_whole Nothing command p t whole is next = absurd p
  read_whole (Header header) command p t whole is next =
      let none : word_count header ≡ 0 = no_count (word_count header) _ whole in
      let count : words_count reads n f.get ≡ 0 = ap word_count (sym t.1) ∙ none in
      let words : words_read reads n f.get ≡ [] = ap (words_from (reads (n + 1) 0 (4 * (f.get + 1)) (4 * words_count reads n f.get)) 0) count in
      let bare = bare_plan (number_in header) p.0 p.1.known (sym (words_of header p.0 p.1.known) ∙ none) in
      let planned : plan_read reads n f.get ≡ plan.Nothing = (λ i. plan_of (number_in (sym t.1 i)) (words i)) ∙ bare in
      record {
        fair = fault_is reads sizes f.entries f.put f.get n k None (ap (first_fault f.entries f.put f.get) (sym t.1) ∙ t.2) (ap (range_fault sizes) planned);
        command_is = is ∙ (λ i. record { number = number_in (t.1 i); words = record { items = sym words i }; payload = sym (ap (data_read reads (n + 2)) planned) i; place = f.get });
        copies = rw count t.0;
        next = next ∙ ap (λ h. next_get f.entries f.get (size_in h)) t.1;
      }
  read_whole (Body header words payload) command p t whole is next =
      let planned : plan_of (number_in header) words ≡ plan_read reads n f.get = λ i. plan_of (number_in (t.0 i)) (t.2 i) in
      let whole_data = all_taken reads (n + 2) k _ payload t.4 whole in
      let count : word_count header ≡ words_count reads n f.get = ap word_count t.0 in
      let have = words_of header p.layout p.passed.known in
      let some = p.some in
      let lt : 0 < words_count reads n f.get = omega arith in
      let e : (words_count reads n f.get == 0) ≡ false = grind (arith, nat_tests) in
      let copies : k ≡ n + (2 + piece_count (data_count (plan_read reads n f.get))) = whole_data.1 ∙ ap (λ (x : Plan). n + 2 + piece_count (data_count x)) planned ∙ omega arith in
      record {
        fair = fault_is reads sizes f.entries f.put f.get n k None (ap (first_fault f.entries f.put f.get) (sym t.0) ∙ t.1) (ap (range_fault sizes) (sym planned) ∙ t.3);
        command_is = is ∙ (λ i. record { number = number_in (t.0 i); words = record { items = t.2 i }; payload = (whole_data.0 ∙ ap (data_read reads (n + 2)) planned) i; place = f.get });
        copies = rw e copies;
        next = next ∙ ap (λ h. next_get f.entries f.get (size_in h)) t.0;
      }

-- get is not put, where a command is begun
apart_of : (begun : Begun) (put get : ℕ) → (begun ≡ Nothing → get ≢ put) → IsApart put get begun → get ≢ put
apart_of Nothing put get unbegun apart = unbegun refl
apart_of (Header header) put get unbegun apart = apart
apart_of (Body header words payload) put get unbegun apart = apart

apart_begun : (begun : Begun) (put get : ℕ) → get ≢ put → IsApart put get begun
apart_begun Nothing put get apart = tt
apart_begun (Header header) put get apart = apart
apart_begun (Body header words payload) put get apart = apart

module _ (reads : Reads) (f f2 : FetchView) (m m2 : MemoryView) (n : ℕ) (inside : f.get < f.entries) (given : AreGiven reads 0 m2.copies) (b : IsBegun reads m.sizes f.entries f.put f.get n (length m.copies) f.begun) where
  apart : (now : Begun) → MadeCopy f m m2 now → f.get ≢ f.put
  apart now c = apart_of f.begun f.put f.get (λ e. (c.reading e).0) b.1

  taken : (now : Begun) → MadeCopy f m m2 now → fault_in m.sizes f.entries f.put f.get now ≡ None → IsTaken reads m.sizes f.entries f.put f.get n (length m2.copies) now
  taken now c fair =
      let t = taken_more reads m.sizes f.entries f.put f.get n (length m.copies) f.begun c.range c.bytes b.0 c.planned c.whole (given_copy reads f m m2 now c given) (rw c.now_is at fair) in
      rw (one_more reads f m m2 now c, c.now_is) t

  -- the command needs more copies
  pub seen_copied : DidCopy f m f2 m2 → IsBegun reads m.sizes f.entries f.put f.get n (length m2.copies) f2.begun
  seen_copied d =
      rw d.after (
        begun_more reads m.sizes f.entries f.put f.get n (length m2.copies) d.now (taken d.now d.copy d.fair) d.more,
        apart_begun d.now f.put f.get (apart d.now d.copy),
      )

  -- the command was read whole
  pub seen_read : (command : Fetched) (d : DidRead f m f2 m2 command) → HasPassed f.entries f.get d.now → IsRead reads m.sizes f f2 n (length m2.copies) command
  seen_read command d passed =
      let next = ap (λ (x : FetchView). x.get) d.after in
      let whole = read_whole reads m.sizes f f2 n (length m2.copies) d.now command passed (taken d.now d.copy d.fair) d.whole d.command_is next in
      let fair = header_fair reads m.sizes f.entries f.put f.get n (length m2.copies) whole.fair in
      let away = apart d.now d.copy in
      let near = nearer f.entries f.put f.get (header_read reads n f.get) inside away fair in
      record { whole = whole; apart = away; closer = rw whole.next (omega (arith, near)) }

  -- it is malformed
  pub seen_bad : (stop : Stop) → FoundBad f m f2 m2 stop → (f.get ≢ f.put) × (fault_at reads m.sizes f.entries f.put n f.get ≡ Some stop.kind)
  seen_bad stop found = elim found.fault [
    | inl h ↦ (h.2, put_seen reads m.sizes f.entries f.put f.get n (length m.copies) stop.kind h.3 h.4)
    | inr h ↦
        let c = h.1 in
        (apart h.0 c, bad_seen reads m.sizes f.entries f.put f.get n (length m.copies) f.begun c.range c.bytes stop.kind b.0 c.planned c.whole (given_copy reads f m m2 h.0 c given) (rw c.now_is at h.2))
  ]
