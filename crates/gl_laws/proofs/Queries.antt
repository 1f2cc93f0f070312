-- The own laws of the queries: ReadPixels behind its zeroing, and the others, which make no driver call.
use Prim.Native.Nat.{zero, suc}
use Rattle.std.proofs.Common.{◌≡◌, ◌≢◌, ◌≤◌, ◌<◌, ◌+◌, ◌-◌, ◌*◌, ◌==◌, ◌&&◌, ◌||◌, ℕ, ℤ, Bool, true, false, not, nat_lt, if◌then◌else◌, List, [], ◌∷◌, ◌++◌, None, is_some, is_none, refl, sym, ap, ◌∙◌, subst, arith, mul_assoc, mul_comm, mul-le-mul}
use Rattle.std.proofs.lemmas.Bool.Decides.{nat_tests}
use Rattle.std.proofs.Math.Nat.{suc-mul}
use Rattle.gl_base.specs.declared.limits.TheConstants.{DATA_LIMIT}
use Rattle.gl_base.specs.PixelSizes.{image_size, pixel_bytes, pixel_size, row_step}
use Rattle.gl_base.proofs.Rows.{row_within}
use Rattle.gl_base.specs.declared.texture_enums.TheConstants.{RGBA}
use Rattle.gl_base.specs.declared.enums.TheConstants.{UNSIGNED_BYTE}
use Rattle.gl_plain.specs.declared.commands.QueryCommand.{QueryCommand}
use Rattle.gl_plain.specs.declared.commands.QueryCommand.TheVariants.{ReadPixels, GetError, Words, Bytes}
use Rattle.gl_plain.specs.declared.driver_calls.Answer.{Answer}
use Rattle.gl_plain.specs.declared.driver_calls.Answer.TheVariants.{Done, Name, Oom, Compile, Link, Validate, Pixels}
use Rattle.gl_plain.specs.declared.driver_calls.DriverCall.{DriverCall}
use Rattle.gl_plain.specs.declared.driver_calls.DriverCall.TheVariants.{Image}
use Rattle.gl_plain.specs.declared.driver_calls.ImageDriver.TheVariants as calls
use Rattle.gl_plain.specs.declared.driver_calls.DriverEntry.{DriverEntry}
use Rattle.gl_plain.specs.declared.errors.GlError.TheVariants.{InvalidEnum, InvalidValue, InvalidOperation, InvalidFramebufferOperation, OutOfMemory}
use Rattle.gl_plain.specs.declared.image_words.ReadWords.{ReadWords}
use Rattle.gl_plain.specs.declared.raster.WordRule.TheVariants.{Alignment}
use Rattle.gl_plain.specs.declared.targets.Target.TheVariants as target
use Rattle.gl_plain.specs.subjects.Raster.{IsAligned, is_wrong_value}
use Rattle.gl_plain.specs.subjects.Images.{AreWritten, Contents, counted, Covers, IsScreenWritten, Marks, read_contents}
use Rattle.gl_plain.specs.subjects.Targets.{Drawable, colour_images, colour_view, is_incomplete, target_of}
use Rattle.gl_plain.specs.subjects.Copies.{IsReadAllowed, fitted, read_bytes, is_any_pixel, is_over_data_limit, is_read_format, read_count, read_pixels_refusal, reads_nothing}
use Rattle.gl_plain.specs.Words.{is_negative, natural}
use Rattle.gl_plain.specs.Oracle.{Oracle, behind, first}
use Rattle.gl_plain.specs.State.{DriverState, EsState, drawable_in, drawable_of}
use Rattle.gl_plain.specs.Outcome.{Outcome}
use Rattle.gl_plain.specs.declared.calls.Reply.TheVariants as reply
use Rattle.gl_plain.specs.driver.Allowed.{IsAllowed}
use Rattle.gl_plain.specs.driver.Answers.{told}
use Rattle.gl_plain.specs.Journal.{IsLegal, records_in, state_after}
use Rattle.gl_plain.specs.Parts.{calls_in}
use Rattle.gl_plain.specs.Records.{ReadRecord, Record, query_contents, query_records, read_record}
use Rattle.gl_plain.specs.Agreement.{ImagesAgree, TablesAgree}
use Rattle.gl_plain.specs.query.Calls.{own_query_calls, query_whole_first}
use Rattle.gl_plain.specs.query.Refusal.{query_command_refusal}
use Rattle.gl_plain.specs.query.Step.{query_step}
use Rattle.gl_laws.proofs.Drawables.{same_drawable}
use Rattle.gl_laws.proofs.Lists.{entry, front_of_one, no_entry, not_nil, one_entry}
use Rattle.gl_laws.proofs.MadeImages.{colour_is_written, colours_read}
use Rattle.gl_laws.proofs.Refusals.{not_false, not_refused_by, or_false}
use Rattle.gl_laws.proofs.Tables.{with_errors}

-- what calls leave that come to this outcome, with these contents and records
pub record LeftAs (s : EsState) (d : DriverState) (f : Covers) (m : Marks) (out : Outcome EsState) (k : Contents) (made : List Record) (after : Oracle) (es : List DriverEntry) : Type 0 where
  pub asked : out.oracle ≡ after
  pub tables : TablesAgree out.state (state_after d es).tables
  pub images : ImagesAgree out.state.textures.objects out.state.renderbuffers.objects f m (state_after d es).contents
  pub aligned : out.state.alignments ≡ s.alignments
  pub contents : read_contents (state_after d es).contents ≡ k
  pub records : records_in d es ≡ made

-- what the own calls of a query leave
abbrev pub QueryLeft : EsState → DriverState → Covers → Marks → QueryCommand → Oracle → Oracle → List DriverEntry → Type 0
QueryLeft s d f m c before after es = LeftAs s d f m (query_step s c before) (query_contents c (read_contents d.contents)) (query_records s c (read_contents d.contents)) after es

abbrev pub QueryMayGoOn : EsState → DriverState → QueryCommand → Type 0
QueryMayGoOn s d c = (es : List DriverEntry) (next : DriverCall) (more : List DriverCall) → calls_in es ++ next ∷ more ≡ own_query_calls s c → IsAllowed (state_after d es) next

abbrev pub QueryLeaves : EsState → DriverState → Covers → Marks → QueryCommand → Type 0
QueryLeaves s d f m c = (o : Oracle) (es : List DriverEntry) → IsLegal d es → calls_in es ≡ own_query_calls s c → QueryLeft s d f m c (told es o) o es

-- The size of what is read

-- pixels without padding have no more bytes than with it
unpadded_small : (width height pack : ℕ) → (width == 0) ≡ false → (height == 0) ≡ false → 1 ≤ pack → image_size width height 4 pack ≤ DATA_LIMIT → width * height * 4 ≤ DATA_LIMIT
unpadded_small width height pack w h one small =
    let size : row_step (width * 4) pack * (height - 1) + width * 4 ≤ DATA_LIMIT = subst (λ (b : Bool). (if b then 0 else row_step (width * 4) pack * (height - 1) + width * 4) ≤ DATA_LIMIT) (λ i. w i || h i) small in
    let wide : width * 4 ≤ row_step (width * 4) pack = row_within (width * 4) pack one in
    let lines : width * 4 * (height - 1) ≤ row_step (width * 4) pack * (height - 1) = mul-le-mul wide (omega arith) in
    let whole : width * height * 4 ≡ width * 4 * (height - 1) + width * 4 = rows_joined width height (grind (arith, nat_tests)) in
    omega (arith, size, lines, whole)
  where
    rows_joined : (width height : ℕ) → 1 ≤ height → width * height * 4 ≡ width * 4 * (height - 1) + width * 4
    rows_joined width zero h = absurd (omega arith)
    rows_joined width (suc n) h =
        mul_assoc width (suc n) 4 ∙ ap (λ k. width * k) (mul_comm (suc n) 4) ∙ sym (mul_assoc width 4 (suc n)) ∙ mul_comm (width * 4) (suc n) ∙ suc-mul n (width * 4) ∙ ap (λ k. k + width * 4) (mul_comm n (width * 4)) ∙ ap (λ k. width * 4 * k + width * 4) (let e : n ≡ suc n - 1 = omega arith in e)

aligned_one : (pack : ℕ) → is_wrong_value Alignment pack ≡ false → 1 ≤ pack
aligned_one pack h = grind (arith, nat_tests)

-- What is so of a read that is not refused

record IsFineRead (b : Drawable) (words : ReadWords) : Type 0 where
  columns : is_negative words.width ≡ false
  rows : is_negative words.height ≡ false
  size : (natural words.width == 0) ≡ false → (natural words.height == 0) ≡ false → read_count (natural words.width) (natural words.height) ≤ DATA_LIMIT
  complete : is_incomplete b ≡ false
  colour : is_none (colour_view b) ≡ false

module _ (b : Drawable) (pack : ℕ) (aligned : is_wrong_value Alignment pack ≡ false) (words : ReadWords) where
  -- the pixels of RGBA in four bytes are within the limit
  read_small : (format kind : ℕ) → words.format.0 ≡ format → words.kind.0 ≡ kind → format ≡ RGBA.0 → kind ≡ UNSIGNED_BYTE.0 → is_over_data_limit pack words ≡ false
      → (natural words.width == 0) ≡ false → (natural words.height == 0) ≡ false → read_count (natural words.width) (natural words.height) ≤ DATA_LIMIT
  read_small format kind is_format is_kind rgba byte over w h =
      let over_is : nat_lt DATA_LIMIT (image_size (natural words.width) (natural words.height) 4 pack) ≡ false =
      sym (λ i. is_some (pixel_bytes (record { 0 = (is_format ∙ rgba) i }) (record { 0 = (is_kind ∙ byte) i })) && nat_lt DATA_LIMIT (image_size (natural words.width) (natural words.height) (pixel_size (record { 0 = (is_format ∙ rgba) i }) (record { 0 = (is_kind ∙ byte) i })) pack)) ∙ over in
      unpadded_small (natural words.width) (natural words.height) pack w h (aligned_one pack aligned) (grind (arith, nat_tests))

  fine_read : read_pixels_refusal b pack words ≡ None → IsFineRead b words
  fine_read is =
      let a = not_refused_by (not (is_any_pixel words.format words.kind)) InvalidEnum _ is in
      let c = not_refused_by (is_negative words.width || is_negative words.height) InvalidValue _ a.1 in
      let sides = or_false (is_negative words.width) (is_negative words.height) c.0 in
      let e = not_refused_by (is_over_data_limit pack words) OutOfMemory _ c.1 in
      let g = not_refused_by (is_incomplete b) InvalidFramebufferOperation _ e.1 in
      let h = not_refused_by (not (is_read_format words.format words.kind) || is_none (colour_view b)) InvalidOperation None g.1 in
      let last = or_false (not (is_read_format words.format words.kind)) (is_none (colour_view b)) h.0 in
      let pair = not_false (is_read_format words.format words.kind) last.0 in
      record {
        columns = sides.0;
        rows = sides.1;
        size = read_small words.format.0 words.kind.0 refl refl (grind (arith, nat_tests)) (grind (arith, nat_tests)) e.0;
        complete = g.0;
        colour = last.1;
      }

-- ReadPixels

module _ (s : EsState) (d : DriverState) (a : TablesAgree s d.tables) (aligned : IsAligned s.alignments) where
  driver_drawable : drawable_in d.tables ≡ drawable_of s
  driver_drawable = sym (same_drawable s d.tables a)

  module _ (words : ReadWords) (bucket : ℕ) (fine : IsFineRead (drawable_of s) words) (screen : IsScreenWritten d.contents.screen) where
    abbrev read_call : DriverCall
    read_call = Image (calls.ReadPixels words.x words.y words.width words.height)

    -- what is needed written, where something is read
    abbrev IsReadFirst : Bool → Type 0
    IsReadFirst nothing = AreWritten s.textures.objects s.renderbuffers.objects d.contents (if nothing then [] else colour_images (target_of s.framebuffers))

    read_allowed : reads_nothing words ≡ false → IsReadFirst false → IsReadAllowed (drawable_of s) d.contents words.width words.height
    read_allowed some all =
        let sides = or_false (natural words.width == 0) (natural words.height == 0) some in
        record {
          columns = (fine.columns, sides.0);
          rows = (fine.rows, sides.1);
          size = fine.size sides.0 sides.1;
          complete = fine.complete;
          colour = fine.colour;
          written = colour_is_written (drawable_of s) d.contents (target_of s.framebuffers) screen all;
        }

    read_may : IsReadFirst (reads_nothing words) → QueryMayGoOn s d (ReadPixels words bucket)
    read_may all es next more h = elim (reads_nothing words) as (λ b. reads_nothing words ≡ b → IsReadFirst b → calls_in es ++ next ∷ more ≡ (if b then [] else read_call ∷ []) → IsAllowed (state_after d es) next) [
      | true ↦ λ nothing all h. absurd (not_nil (calls_in es) next more h)
      | false ↦ λ some all h. front_of_one (λ (gs : List DriverEntry) (c : DriverCall). IsAllowed (state_after d gs) c) read_call
          (subst (λ (b : Drawable). IsReadAllowed b d.contents words.width words.height) (sym driver_drawable) (read_allowed some all)) es next more h
    ] refl all h

    module _ (f : Covers) (m : Marks) (agree : ImagesAgree s.textures.objects s.renderbuffers.objects f m d.contents) where
      abbrev outcome_by : Bool → Oracle → Outcome EsState
      outcome_by nothing o = if nothing then record { state = s; oracle = o; reply = reply.Bytes [] } else record {
        state = s;
        oracle = record o { pixels = behind o.pixels };
        reply = reply.Bytes (read_bytes s.alignments.pack words (fitted (read_count (natural words.width) (natural words.height)) (first o.pixels)));
      }

      -- what is left by whether there is nothing to read
      abbrev ReadLeft : Bool → Oracle → List DriverEntry → Type 0
      ReadLeft nothing o es = LeftAs s d f m (outcome_by nothing (told es o)) (if nothing then read_contents d.contents else counted (read_contents d.contents))
          (if nothing then [] else read_record (drawable_of s) (read_contents d.contents) words.x words.y words.width words.height ∷ []) o es

      -- the record of the read is that of what is read
      record_read : IsReadFirst false → read_record (drawable_in d.tables) d.contents words.x words.y words.width words.height ≡ read_record (drawable_of s) (read_contents d.contents) words.x words.y words.width words.height
      record_read all = (λ i. read_record (driver_drawable i) d.contents words.x words.y words.width words.height)
          ∙ (λ i. ReadRecord (record { colour = colours_read (drawable_of s) d.contents (target_of s.framebuffers) (colour_is_written (drawable_of s) d.contents (target_of s.framebuffers) screen all) i; x = words.x; y = words.y; width = words.width; height = words.height }))

      -- nothing is read where there is nothing to read
      read_none : (o : Oracle) → ReadLeft true o []
      read_none o = record { asked = refl; tables = a; images = agree; aligned = refl; contents = refl; records = refl }

      read_told : IsReadFirst false → (o : Oracle) (answer : Answer) → IsLegal d (entry read_call answer ∷ []) → ReadLeft false o (entry read_call answer ∷ [])
      read_told all o (Pixels bytes) l = record {
        asked = refl;
        tables = a;
        images = record { covers = agree.covers; marks = agree.marks; screen = agree.screen };
        aligned = refl;
        contents = refl;
        records = λ i. record_read all i ∷ [];
      }
      read_told all o Done l = absurd l.0.answered
      read_told all o (Name n) l = absurd l.0.answered
      read_told all o Oom l = absurd l.0.answered
      read_told all o (Compile ok log) l = absurd l.0.answered
      read_told all o (Link answer) l = absurd l.0.answered
      read_told all o (Validate ok log) l = absurd l.0.answered

      read_by : (nothing : Bool) → IsReadFirst nothing → (o : Oracle) (es : List DriverEntry) → IsLegal d es → calls_in es ≡ (if nothing then [] else read_call ∷ []) → ReadLeft nothing o es
      read_by true all o es l h = no_entry (ReadLeft true o) (read_none o) es h
      read_by false all o es l h = one_entry (λ (gs : List DriverEntry). IsLegal d gs → ReadLeft false o gs) read_call (read_told all o) es h l

      read_leaves : IsReadFirst (reads_nothing words) → QueryLeaves s d f m (ReadPixels words bucket)
      read_leaves all o es l h = read_by (reads_nothing words) all o es l h

  -- the laws, a line for each query

  pub query_may : (c : QueryCommand) → query_command_refusal s c ≡ None → IsScreenWritten d.contents.screen → AreWritten s.textures.objects s.renderbuffers.objects d.contents (query_whole_first s c) → QueryMayGoOn s d c
  query_may (ReadPixels words bucket) allowed screen all = read_may words bucket (fine_read (drawable_of s) s.alignments.pack aligned.pack words allowed) screen all
  query_may GetError allowed screen all = λ es next more h. absurd (not_nil (calls_in es) next more h)
  query_may (Words query) allowed screen all = λ es next more h. absurd (not_nil (calls_in es) next more h)
  query_may (Bytes query bucket) allowed screen all = λ es next more h. absurd (not_nil (calls_in es) next more h)

  pub query_leaves : (c : QueryCommand) → query_command_refusal s c ≡ None → (f : Covers) (m : Marks) → ImagesAgree s.textures.objects s.renderbuffers.objects f m d.contents
      → AreWritten s.textures.objects s.renderbuffers.objects d.contents (query_whole_first s c) → QueryLeaves s d f m c
  query_leaves (ReadPixels words bucket) allowed f m agree all = read_leaves words bucket (fine_read (drawable_of s) s.alignments.pack aligned.pack words allowed) agree.screen f m agree all
  query_leaves GetError allowed f m agree all = λ o es l h. no_entry (λ (gs : List DriverEntry). QueryLeft s d f m GetError (told gs o) o gs)
      (record { asked = refl; tables = with_errors s d.tables _ a; images = agree; aligned = refl; contents = refl; records = refl }) es h
  query_leaves (Words query) allowed f m agree all = λ o es l h. no_entry (λ (gs : List DriverEntry). QueryLeft s d f m (Words query) (told gs o) o gs)
      (record { asked = refl; tables = a; images = agree; aligned = refl; contents = refl; records = refl }) es h
  query_leaves (Bytes query bucket) allowed f m agree all = λ o es l h. no_entry (λ (gs : List DriverEntry). QueryLeft s d f m (Bytes query bucket) (told gs o) o gs)
      (record { asked = refl; tables = a; images = agree; aligned = refl; contents = refl; records = refl }) es h
