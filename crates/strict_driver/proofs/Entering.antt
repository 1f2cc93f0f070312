-- One more call of a strict driver, and the answers that it is loaded with.
use Rattle.std.proofs.Common.{◌≡◌, ◌<◌, ◌≤◌, ℕ, ◌+◌, Bool, true, false, ◌||◌, List, [], ◌∷◌, ◌++◌, length, Option, None, Some, IfSome, IsTrue, refl, sym, ◌∙◌, ap, subst, arith, zero-add, add-zero, length-append, inr, ◌==◌, if◌then◌else◌, slice_get}
use Rattle.std.specs.FinSet as set
use Rattle.std.specs.List.{list_any}
use Rattle.std.specs.List.Sorted.{IsNonDecreasing, IsPermutation}
use Rattle.std.proofs.lemmas.List.Sorted.{list_any-IsPermutation, IsNonDecreasingBy-short}
use Rattle.gl_plain.specs.declared.driver_calls.DriverEntry.{DriverEntry}
use Rattle.gl_plain.specs.declared.driver_calls.Answer.{Answer}
use Rattle.gl_plain.specs.declared.driver_calls.Answers.{Answers}
use Rattle.gl_plain.specs.declared.driver_calls.DriverCall.{DriverCall}
use Rattle.gl_plain.specs.declared.driver_calls.DriverCall.TheVariants.{Object, Image, Program, Draw}
use Rattle.gl_plain.specs.declared.driver_calls.DrawDriver.{DrawDriver}
use Rattle.gl_plain.specs.declared.driver_calls.DrawDriver.TheVariants.{SetRaster}
use Rattle.gl_plain.specs.declared.driver_calls.ObjectDriver.TheVariants.{GenBuffer, BufferData, GenTexture, GenRenderbuffer, GenFramebuffer}
use Rattle.gl_plain.specs.declared.driver_calls.ImageDriver.TheVariants.{TexImage, CopyTexImage, RenderbufferStorage, ReadPixels}
use Rattle.gl_plain.specs.declared.driver_calls.ProgramDriver.TheVariants.{CreateShader, CreateProgram, CompileShader, LinkProgram, ValidateProgram}
use Rattle.gl_plain.specs.declared.driver_calls.Stored.{Stored}
use Rattle.gl_plain.specs.declared.driver_calls.Stored.TheVariants as room
use Rattle.gl_plain.specs.CommonLines.{are_sound_answers}
use Rattle.gl_plain.specs.State.{DriverTables, DriverState, NamesGiven, opening_driver, opening_tables}
use Rattle.gl_plain.specs.Words.{natural}
use Rattle.gl_plain.specs.subjects.Copies.{read_count}
use Rattle.gl_plain.specs.driver.Answers.{IsAnswer, IsDrawingAnswer, IsStored, drawing_answer, answer_to, behind_call, behind_entries, stored_answer}
use Rattle.gl_plain.specs.driver.Allowed.{IsAllowed}
use Rattle.gl_plain.specs.driver.Effect.{after_buffer_data, after_tex_image, after_storage, after_drawing, tables_after}
use Rattle.gl_plain.specs.Journal.{IsLegalEntry, state_after}
use Rattle.gl_plain.specs.Oracle.{Oracle, first, answers_of, stored_at, compile_in, link_in, validate_in, pixels_in}
use Rattle.gl_plain.proofs.Journals.{state_after-append, IsLegal-append}
use Rattle.gl_driver.specs.History.{Served, is_oom}
use Rattle.strict_driver.specs.declared.counts.Counts.{Counts}
use Rattle.strict_driver.specs.declared.tables.Tables.{Tables}
use Rattle.strict_driver.specs.Given.{no_counts, answers_from, given_by, up_to}
use Rattle.strict_driver.specs.StrictView.{StrictView}
use Rattle.strict_driver.specs.declared.strict.StrictDriver.TheInside.{Inside}
use Rattle.strict_driver.specs.StrictInside.{view_of, IsStrict, IsStrictJournal, IsCounted, IsInStep}
use Rattle.strict_driver.specs.StrictHistory.{history_of, answers_left, Continues}
use Rattle.strict_driver.specs.TableState.{Follow, left_by, state_of}
use Rattle.strict_driver.proofs.Answered.{drawing_asks_nothing}
use Rattle.strict_driver.specs.Behind.{behind_entries-append, AreAnsweredBy-append}
use Rattle.strict_driver.proofs.Fitted.{length-fitted}
use Rattle.strict_driver.proofs.NamesGiven.{next_is_fresh, up_to_next}
use Rattle.strict_driver.proofs.Sound.{compile_sound, link_sound, validate_sound}

is_stored : (s : Stored) → IsStored (stored_answer s)
is_stored room.Done = tt
is_stored room.Oom = tt

is_drawing_answer : (call : DrawDriver) → IsDrawingAnswer call (drawing_answer call)
is_drawing_answer (SetRaster number words) = tt
is_drawing_answer call = tt

-- the next answer is of the form of its call
pub next_fits : (d : DriverState) (loaded : Answers) (n : Counts) (call : DriverCall) → IsTrue (are_sound_answers loaded) → d.tables.given ≡ given_by n → IsAnswer d call (answer_to (answers_from loaded n) call)
next_fits d loaded n (Object GenBuffer) sound is = rw is (next_is_fresh n.buffers (n.buffers + 1 + 0) (omega arith))
next_fits d loaded n (Object (BufferData target bytes usage)) sound is = is_stored (stored_at loaded.oom (n.stores + 0))
next_fits d loaded n (Object GenTexture) sound is = rw is (next_is_fresh n.textures (n.textures + 1 + 0) (omega arith))
next_fits d loaded n (Object GenRenderbuffer) sound is = rw is (next_is_fresh n.renderbuffers (n.renderbuffers + 1 + 0) (omega arith))
next_fits d loaded n (Object GenFramebuffer) sound is = rw is (next_is_fresh n.framebuffers (n.framebuffers + 1 + 0) (omega arith))
next_fits d loaded n (Object call) sound is = tt
next_fits d loaded n (Image (TexImage target level format kind width height payload)) sound is = is_stored (stored_at loaded.oom (n.stores + 0))
next_fits d loaded n (Image (CopyTexImage target level format x y width height)) sound is = is_stored (stored_at loaded.oom (n.stores + 0))
next_fits d loaded n (Image (RenderbufferStorage format width height)) sound is = is_stored (stored_at loaded.oom (n.stores + 0))
next_fits d loaded n (Image (ReadPixels x y width height)) sound is = length-fitted (read_count (natural width) (natural height)) (pixels_in (slice_get loaded.pixels (n.reads + 0)))
next_fits d loaded n (Image call) sound is = tt
next_fits d loaded n (Program (CreateShader kind)) sound is = rw is (next_is_fresh n.programs (n.programs + 1 + 0) (omega arith))
next_fits d loaded n (Program CreateProgram) sound is = rw is (next_is_fresh n.programs (n.programs + 1 + 0) (omega arith))
next_fits d loaded n (Program (CompileShader name)) sound is = compile_sound loaded sound (n.compiles + 0)
next_fits d loaded n (Program (LinkProgram name)) sound is = link_sound loaded sound (n.links + 0)
next_fits d loaded n (Program (ValidateProgram name)) sound is = validate_sound loaded sound (n.validates + 0)
next_fits d loaded n (Program call) sound is = tt
next_fits d loaded n (Draw call) sound is = is_drawing_answer call

module _ (t : DriverTables) (loaded : Answers) (n n2 : Counts) (is : t.given ≡ given_by n) where
  -- so many names of each kind were given
  abbrev AreGiven : ℕ → ℕ → ℕ → ℕ → ℕ → Type 0
  AreGiven buffers textures renderbuffers framebuffers programs =
      (n2.buffers ≡ buffers) × (n2.textures ≡ textures) × (n2.renderbuffers ≡ renderbuffers) × (n2.framebuffers ≡ framebuffers) × (n2.programs ≡ programs)

  abbrev given_up_to : ℕ → ℕ → ℕ → ℕ → ℕ → NamesGiven
  given_up_to buffers textures renderbuffers framebuffers programs =
      record { buffers = up_to buffers; textures = up_to textures; renderbuffers = up_to renderbuffers; framebuffers = up_to framebuffers; programs = up_to programs }

  given_as : (buffers textures renderbuffers framebuffers programs : ℕ) → AreGiven buffers textures renderbuffers framebuffers programs → given_up_to buffers textures renderbuffers framebuffers programs ≡ given_by n2
  given_as buffers textures renderbuffers framebuffers programs now = λ i. given_up_to (sym now.0 i) (sym now.1 i) (sym now.2 i) (sym now.3 i) (sym now.4 i)

  stored_gives : (target : _) (bytes : List ℕ) (usage : _) (s : Stored) → (after_buffer_data t target bytes usage (stored_answer s)).given ≡ t.given
  stored_gives target bytes usage room.Done = refl
  stored_gives target bytes usage room.Oom = refl

  image_gives : (target : _) (level : _) (v : _) (s : Stored) → (after_tex_image t target level v (stored_answer s)).given ≡ t.given
  image_gives target level v room.Done = refl
  image_gives target level v room.Oom = refl

  storage_gives : (v : _) (s : Stored) → (after_storage t v (stored_answer s)).given ≡ t.given
  storage_gives v room.Done = refl
  storage_gives v room.Oom = refl

  drawing_gives : (call : DrawDriver) → (after_drawing t call).given ≡ t.given
  drawing_gives (SetRaster number words) = refl
  drawing_gives call = refl

  one_more_buffer : AreGiven (n.buffers + 1) n.textures n.renderbuffers n.framebuffers n.programs → record t.given { buffers = set.insert t.given.buffers (n.buffers + 1 + 0) } ≡ given_by n2
  one_more_buffer now =
      (λ i. record (is i) { buffers = set.insert (is i).buffers (add-zero (n.buffers + 1) i) })
      ∙ (λ i. record (given_by n) { buffers = sym (up_to_next n.buffers) i }) ∙ given_as (n.buffers + 1) n.textures n.renderbuffers n.framebuffers n.programs now

  one_more_texture : AreGiven n.buffers (n.textures + 1) n.renderbuffers n.framebuffers n.programs → record t.given { textures = set.insert t.given.textures (n.textures + 1 + 0) } ≡ given_by n2
  one_more_texture now =
      (λ i. record (is i) { textures = set.insert (is i).textures (add-zero (n.textures + 1) i) })
      ∙ (λ i. record (given_by n) { textures = sym (up_to_next n.textures) i }) ∙ given_as n.buffers (n.textures + 1) n.renderbuffers n.framebuffers n.programs now

  one_more_renderbuffer : AreGiven n.buffers n.textures (n.renderbuffers + 1) n.framebuffers n.programs → record t.given { renderbuffers = set.insert t.given.renderbuffers (n.renderbuffers + 1 + 0) } ≡ given_by n2
  one_more_renderbuffer now =
      (λ i. record (is i) { renderbuffers = set.insert (is i).renderbuffers (add-zero (n.renderbuffers + 1) i) })
      ∙ (λ i. record (given_by n) { renderbuffers = sym (up_to_next n.renderbuffers) i }) ∙ given_as n.buffers n.textures (n.renderbuffers + 1) n.framebuffers n.programs now

  one_more_framebuffer : AreGiven n.buffers n.textures n.renderbuffers (n.framebuffers + 1) n.programs → record t.given { framebuffers = set.insert t.given.framebuffers (n.framebuffers + 1 + 0) } ≡ given_by n2
  one_more_framebuffer now =
      (λ i. record (is i) { framebuffers = set.insert (is i).framebuffers (add-zero (n.framebuffers + 1) i) })
      ∙ (λ i. record (given_by n) { framebuffers = sym (up_to_next n.framebuffers) i }) ∙ given_as n.buffers n.textures n.renderbuffers (n.framebuffers + 1) n.programs now

  one_more_program : AreGiven n.buffers n.textures n.renderbuffers n.framebuffers (n.programs + 1) → record t.given { programs = set.insert t.given.programs (n.programs + 1 + 0) } ≡ given_by n2
  one_more_program now =
      (λ i. record (is i) { programs = set.insert (is i).programs (add-zero (n.programs + 1) i) })
      ∙ (λ i. record (given_by n) { programs = sym (up_to_next n.programs) i }) ∙ given_as n.buffers n.textures n.renderbuffers n.framebuffers (n.programs + 1) now

  none_more : AreGiven n.buffers n.textures n.renderbuffers n.framebuffers n.programs → t.given ≡ given_by n2
  none_more now = is ∙ given_as n.buffers n.textures n.renderbuffers n.framebuffers n.programs now

  -- the first numbers of each name space are these
  pub record AreNext (o : Oracle) (b x r f p : ℕ) : Type 0 where
    pub buffers : o.buffers 0 ≡ b + 1
    pub textures : o.textures 0 ≡ x + 1
    pub renderbuffers : o.renderbuffers 0 ≡ r + 1
    pub framebuffers : o.framebuffers 0 ≡ f + 1
    pub programs : o.programs 0 ≡ p + 1

  -- what the counts of names are, by the answers that are left
  counts_are : (b x r f p : ℕ) (o : Oracle) → answers_from loaded n2 ≡ o → AreNext o b x r f p → AreGiven b x r f p
  counts_are b x r f p o counted next =
      let nb : n2.buffers + 1 + 0 ≡ o.buffers 0 = ap (λ (o : Oracle). o.buffers 0) counted in
      let nx : n2.textures + 1 + 0 ≡ o.textures 0 = ap (λ (o : Oracle). o.textures 0) counted in
      let nr : n2.renderbuffers + 1 + 0 ≡ o.renderbuffers 0 = ap (λ (o : Oracle). o.renderbuffers 0) counted in
      let nf : n2.framebuffers + 1 + 0 ≡ o.framebuffers 0 = ap (λ (o : Oracle). o.framebuffers 0) counted in
      let np : n2.programs + 1 + 0 ≡ o.programs 0 = ap (λ (o : Oracle). o.programs 0) counted in
      let hb = next.buffers in
      let hx = next.textures in
      let hr = next.renderbuffers in
      let hf = next.framebuffers in
      let hp = next.programs in
      (omega arith, omega arith, omega arith, omega arith, omega arith)

  -- a call that gives no name leaves the counts as they are
  no_name : (o : Oracle) → answers_from loaded n2 ≡ o → o.buffers 0 ≡ n.buffers + 1 + 0 → o.textures 0 ≡ n.textures + 1 + 0 → o.renderbuffers 0 ≡ n.renderbuffers + 1 + 0
      → o.framebuffers 0 ≡ n.framebuffers + 1 + 0 → o.programs 0 ≡ n.programs + 1 + 0 → AreGiven n.buffers n.textures n.renderbuffers n.framebuffers n.programs
  no_name o counted buffers textures renderbuffers framebuffers programs =
      counts_are n.buffers n.textures n.renderbuffers n.framebuffers n.programs o counted
      (record { buffers = omega arith; textures = omega arith; renderbuffers = omega arith; framebuffers = omega arith; programs = omega arith })

  -- as many names were given as are counted
  pub given_more : (call : DriverCall) → answers_from loaded n2 ≡ behind_call call (answers_from loaded n) → (tables_after t call (answer_to (answers_from loaded n) call)).given ≡ given_by n2
  given_more (Object GenBuffer) counted =
      one_more_buffer (counts_are (n.buffers + 1) n.textures n.renderbuffers n.framebuffers n.programs (behind_call (Object GenBuffer) (answers_from loaded n)) counted
      (record { buffers = omega arith; textures = omega arith; renderbuffers = omega arith; framebuffers = omega arith; programs = omega arith }))
  given_more (Object (BufferData target bytes usage)) counted =
      stored_gives target bytes usage (stored_at loaded.oom (n.stores + 0)) ∙ none_more (no_name (behind_call (Object (BufferData target bytes usage)) (answers_from loaded n)) counted refl refl refl refl refl)
  given_more (Object GenTexture) counted =
      one_more_texture (counts_are n.buffers (n.textures + 1) n.renderbuffers n.framebuffers n.programs (behind_call (Object GenTexture) (answers_from loaded n)) counted
      (record { buffers = omega arith; textures = omega arith; renderbuffers = omega arith; framebuffers = omega arith; programs = omega arith }))
  given_more (Object GenRenderbuffer) counted =
      one_more_renderbuffer (counts_are n.buffers n.textures (n.renderbuffers + 1) n.framebuffers n.programs (behind_call (Object GenRenderbuffer) (answers_from loaded n)) counted
      (record { buffers = omega arith; textures = omega arith; renderbuffers = omega arith; framebuffers = omega arith; programs = omega arith }))
  given_more (Object GenFramebuffer) counted =
      one_more_framebuffer (counts_are n.buffers n.textures n.renderbuffers (n.framebuffers + 1) n.programs (behind_call (Object GenFramebuffer) (answers_from loaded n)) counted
      (record { buffers = omega arith; textures = omega arith; renderbuffers = omega arith; framebuffers = omega arith; programs = omega arith }))
  given_more (Object call) counted = none_more (no_name (behind_call (Object call) (answers_from loaded n)) counted refl refl refl refl refl)
  given_more (Image (TexImage target level format kind width height payload)) counted =
      image_gives target level _ (stored_at loaded.oom (n.stores + 0)) ∙ none_more (no_name (behind_call (Image (TexImage target level format kind width height payload)) (answers_from loaded n)) counted refl refl refl refl refl)
  given_more (Image (CopyTexImage target level format x y width height)) counted =
      image_gives target level _ (stored_at loaded.oom (n.stores + 0)) ∙ none_more (no_name (behind_call (Image (CopyTexImage target level format x y width height)) (answers_from loaded n)) counted refl refl refl refl refl)
  given_more (Image (RenderbufferStorage format width height)) counted =
      storage_gives _ (stored_at loaded.oom (n.stores + 0)) ∙ none_more (no_name (behind_call (Image (RenderbufferStorage format width height)) (answers_from loaded n)) counted refl refl refl refl refl)
  given_more (Image call) counted = none_more (no_name (behind_call (Image call) (answers_from loaded n)) counted refl refl refl refl refl)
  given_more (Program (CreateShader kind)) counted =
      one_more_program (counts_are n.buffers n.textures n.renderbuffers n.framebuffers (n.programs + 1) (behind_call (Program (CreateShader kind)) (answers_from loaded n)) counted
      (record { buffers = omega arith; textures = omega arith; renderbuffers = omega arith; framebuffers = omega arith; programs = omega arith }))
  given_more (Program CreateProgram) counted =
      one_more_program (counts_are n.buffers n.textures n.renderbuffers n.framebuffers (n.programs + 1) (behind_call (Program CreateProgram) (answers_from loaded n)) counted
      (record { buffers = omega arith; textures = omega arith; renderbuffers = omega arith; framebuffers = omega arith; programs = omega arith }))
  given_more (Program call) counted = none_more (no_name (behind_call (Program call) (answers_from loaded n)) counted refl refl refl refl refl)
  given_more (Draw call) counted = drawing_gives call ∙ none_more (no_name (answers_from loaded n) (counted ∙ drawing_asks_nothing call (answers_from loaded n)) refl refl refl refl refl)

module _ (js now : List DriverEntry) (n n2 : Counts) (loaded : Answers) (call : DriverCall) (answer : Answer) (is : now ≡ js ++ (record { call = call; answer = answer }) ∷ [])
    (counted : answers_from loaded n2 ≡ behind_call call (answers_from loaded n)) (was : IsCounted js n loaded) (next : answer ≡ answer_to (behind_entries js (answers_of loaded)) call) where
  abbrev entry : DriverEntry
  entry = record { call = call; answer = answer }

  next_counted : answer ≡ answer_to (answers_from loaded n) call
  next_counted = next ∙ ap (λ (o : Oracle). answer_to o call) was.left

  -- the counts follow the journal by one entry
  pub counted_more : IsCounted now n2 loaded
  counted_more = record {
    left = ap (λ (j : List DriverEntry). behind_entries j (answers_of loaded)) is ∙ behind_entries-append js (entry ∷ []) (answers_of loaded) ∙ ap (behind_call call) was.left ∙ sym counted;
    sorted = was.sorted;
    sound = was.sound;
  }

  -- and so do the tables
  pub in_step_more : (tables tables2 : Tables) → IsInStep tables js n → Follow (tables_after (left_by tables.surface js).tables call answer) (js ++ entry ∷ []) tables2 → tables2.surface ≡ tables.surface → IsInStep tables2 now n2
  in_step_more tables tables2 step after surface =
      let t = (left_by tables.surface js).tables in
      let left : (left_by tables2.surface now).tables ≡ tables_after t call answer =
      (λ i. (left_by (surface i) (is i)).tables) ∙ ap (λ (d : DriverState). d.tables) (state_after-append (opening_driver tables.surface) js (entry ∷ [])) in
      record {
        state = λ more. (λ i. state_of (left i) (is i ++ more) tables2) ∙ after more ∙ sym left;
        given = ap (λ (t : DriverTables). t.given) left ∙ rw next_counted (given_more t loaded n n2 step.given call counted);
      }

no_more : (js : List DriverEntry) (e : DriverEntry) → js ++ e ∷ [] ≡ [] → ⊥
no_more js e is = let short : length (js ++ e ∷ []) ≡ 0 = ap length is in omega (arith, length-append js (e ∷ []))

one_more : (js : List DriverEntry) (e : DriverEntry) (lost : Option ℕ) → IfSome lost (λ n. length js < n) → IfSome lost (λ n. length (js ++ e ∷ []) ≤ n)
one_more js e None h = tt
one_more js e (Some n) h = omega (arith, h, length-append js (e ∷ []))

-- a legal entry with the next answer
pub strict_more : (surface : ℕ × ℕ) (js now : List DriverEntry) (loaded : Answers) (e : DriverEntry) → now ≡ js ++ e ∷ [] → IsStrictJournal surface js loaded None → IsLegalEntry (state_after (opening_driver surface) js) e
    → e.answer ≡ answer_to (behind_entries js (answers_of loaded)) e.call → IfSome loaded.lost (λ calls. length js < calls) → IsStrictJournal surface now loaded None
strict_more surface js now loaded e is s legal next within = rw is (record {
  legal = IsLegal-append (opening_driver surface) js (e ∷ []) s.legal (legal, tt);
  answered = AreAnsweredBy-append (answers_of loaded) js (e ∷ []) s.answered (next, tt);
  within = one_more js e loaded.lost within;
  lost = λ lost. cc;
})

or_none : (b : Bool) → (b || false) ≡ false → b ≡ false
or_none true h = h
or_none false h = refl

pub served_more : (was now : StrictView) (e : DriverEntry) → now.journal ≡ was.journal ++ e ∷ [] → now.stop ≡ was.stop → now.surface ≡ was.surface → now.loaded ≡ was.loaded → now.losses ≡ was.losses → was.ooms ≤ now.ooms → (is_oom e.answer ≡ false → now.ooms ≡ was.ooms)
    → IsLegalEntry (state_after (opening_driver was.surface) was.journal) e → e.answer ≡ answer_to (answers_left was) e.call → Served history_of Continues was now (e ∷ [])
served_more was now e more stop surface loaded losses ooms still legal next = record {
  grows = record {
    more = e ∷ [];
    journal = more;
    answers = (next, tt);
    left = (λ i. behind_entries (more i) (answers_of (loaded i))) ∙ behind_entries-append was.journal (e ∷ []) (answers_of was.loaded);
    surface = surface;
    loaded = loaded;
  };
  journal = more;
  legal = (legal, tt);
  state = (λ i. state_after (opening_driver (surface i)) (more i)) ∙ state_after-append (opening_driver was.surface) was.journal (e ∷ []);
  counted = record {
    kept = λ s is. stop ∙ is;
    losses = omega (arith, losses);
    ooms = ooms;
    lost = λ is. inr (sym stop ∙ is);
    losses_still = inr losses;
    ooms_still = λ none. still (or_none (is_oom e.answer) none);
  };
}

-- nothing was answered yet
pub same_start : (loaded : Answers) → answers_from loaded no_counts ≡ answers_of loaded
same_start loaded = λ i. record (answers_of loaded) {
  compile = λ k. compile_in (slice_get loaded.compile (zero-add k i));
  link = λ k. link_in (slice_get loaded.link (zero-add k i));
  validate = λ k. validate_in (slice_get loaded.validate (zero-add k i));
  pixels = λ k. pixels_in (slice_get loaded.pixels (zero-add k i));
  stored = λ k. stored_at loaded.oom (zero-add k i);
}

none_made : (lost : Option ℕ) → IfSome lost (λ n. 0 ≤ n)
none_made None = tt
none_made (Some n) = omega arith

-- what holds before the first call, whatever answers are loaded
pub strict_opening : (surface : ℕ × ℕ) (loaded : Answers) → IsStrictJournal surface [] loaded None
strict_opening surface loaded = record { legal = tt; answered = tt; within = none_made loaded.lost; lost = λ lost. cc }

pub counted_opening : (loaded : Answers) → IsNonDecreasing loaded.oom → IsTrue (are_sound_answers loaded) → IsCounted [] no_counts loaded
counted_opening loaded sorted sound = record { left = sym (same_start loaded); sorted = sorted; sound = sound }

pub none_sorted : IsNonDecreasing []
none_sorted = IsNonDecreasingBy-short (λ k. k) [] (omega arith)

pub step_opening : (tables : Tables) (surface : ℕ × ℕ) → ((js : List DriverEntry) → state_of (opening_tables surface) js tables ≡ opening_tables surface) → tables.surface ≡ surface → IsInStep tables [] no_counts
step_opening tables surface opening same = record { state = λ more. (λ i. state_of (opening_tables (same i)) more tables) ∙ opening more ∙ ap opening_tables (sym same); given = refl }

-- the order of the questions that find no room does not matter
pub same_room : (oom sorted : List ℕ) → IsPermutation oom sorted → stored_at sorted ≡ stored_at oom
same_room oom sorted p = λ i k. stored_same k i where
  stored_same : (k : ℕ) → stored_at sorted k ≡ stored_at oom k
  stored_same k = ap (λ b. if b then room.Oom else room.Done) (sym (list_any-IsPermutation (λ j. j == k) oom sorted p))

-- a driver that goes on makes a call that is allowed, with its next answer
module _ (a : Inside) (was : StrictView) (view_is : view_of a ≡ was) (w : IsStrict a) (call : DriverCall) (answer : Answer) (going : was.stop ≡ None) (allowed : IsAllowed (history_of was).state call)
    (next : answer ≡ answer_to (answers_left was) call) where
  still_going : a.stop ≡ None
  still_going = ap (λ (v : StrictView). v.stop) view_is ∙ going

  step : IsInStep a.tables a.journal a.counts
  step = w.in_step still_going

  now_allowed : IsAllowed (state_after (opening_driver a.tables.surface) a.journal) call
  now_allowed = subst (λ (v : StrictView). IsAllowed (history_of v).state call) (sym view_is) allowed

  now_next : answer ≡ answer_to (behind_entries a.journal (answers_of a.loaded)) call
  now_next = subst (λ (v : StrictView). answer ≡ answer_to (answers_left v) call) (sym view_is) next

  now_counted : answer ≡ answer_to (answers_from a.loaded a.counts) call
  now_counted = now_next ∙ ap (λ (o : Oracle). answer_to o call) w.counted.left

  now_answered : IsAnswer (state_after (opening_driver a.tables.surface) a.journal) call answer
  now_answered = rw now_counted (next_fits (state_after (opening_driver a.tables.surface) a.journal) a.loaded a.counts call w.counted.sound step.given)

  -- the tables may be changed
  pub tables_allow : IsAllowed (left_by a.tables.surface a.journal) call
  tables_allow = now_allowed

  pub tables_answer : IsAnswer (left_by a.tables.surface a.journal) call answer
  tables_answer = now_answered

  pub tables_follow : Follow (left_by a.tables.surface a.journal).tables a.journal a.tables
  tables_follow = step.state

  now_legal : IsLegalEntry (state_after (opening_driver a.tables.surface) a.journal) (record { call = call; answer = answer })
  now_legal = record { allowed = now_allowed; answered = now_answered }

  -- the call is entered
  module _ (now : List DriverEntry) (is : now ≡ a.journal ++ (record { call = call; answer = answer }) ∷ []) where
    pub strict_entered : (surface : ℕ × ℕ) → surface ≡ a.tables.surface → IfSome was.loaded.lost (λ calls. length was.journal < calls) → IsStrictJournal surface now a.loaded a.stop
    strict_entered surface same within =
        rw (same, still_going) (strict_more a.tables.surface a.journal now a.loaded (record { call = call; answer = answer }) is (rw still_going at w.journal) now_legal now_next
        (subst (λ (v : StrictView). IfSome v.loaded.lost (λ n. length v.journal < n)) (sym view_is) within))

    pub counted_entered : (n2 : Counts) → answers_from a.loaded n2 ≡ behind_call call (answers_from a.loaded a.counts) → IsCounted now n2 a.loaded
    counted_entered n2 counted = counted_more a.journal now a.counts n2 a.loaded call answer is counted w.counted now_next

    pub step_entered : (n2 : Counts) → answers_from a.loaded n2 ≡ behind_call call (answers_from a.loaded a.counts) → (tables2 : Tables)
        → Follow (tables_after (left_by a.tables.surface a.journal).tables call answer) (a.journal ++ (record { call = call; answer = answer }) ∷ []) tables2
        → tables2.surface ≡ a.tables.surface → IsInStep tables2 now n2
    step_entered n2 counted tables2 after surface = in_step_more a.journal now a.counts n2 a.loaded call answer is counted w.counted now_next a.tables tables2 step after surface

    pub served_entered : (b : StrictView) → b.journal ≡ now → b.stop ≡ a.stop → b.surface ≡ a.tables.surface → b.loaded ≡ a.loaded → b.losses ≡ a.losses → a.ooms ≤ b.ooms → (is_oom answer ≡ false → b.ooms ≡ a.ooms)
        → Served history_of Continues was b (record { call = call; answer = answer } ∷ [])
    served_entered b journal stop surface loaded losses ooms still =
        subst (λ (v : StrictView). Served history_of Continues v b (record { call = call; answer = answer } ∷ [])) view_is
        (served_more (view_of a) b (record { call = call; answer = answer }) (journal ∙ is) stop surface loaded losses ooms still now_legal now_next)

-- there is room where the next of the answers that are left says so
pub room_left : (a : Inside) (was : StrictView) → view_of a ≡ was → IsStrict a → (wanting : Bool) → wanting ≡ list_any (λ n. n == a.counts.stores) a.loaded.oom → (if wanting then room.Oom else room.Done) ≡ first (answers_left was).stored
room_left a was view_is w wanting is =
    subst (λ (v : StrictView). (if wanting then room.Oom else room.Done) ≡ first (answers_left v).stored) view_is
    (ap (λ b. if b then room.Oom else room.Done) is ∙ sym (ap (λ (o : Oracle). first o.stored) w.counted.left ∙ ap (stored_at a.loaded.oom) (add-zero a.counts.stores)))
