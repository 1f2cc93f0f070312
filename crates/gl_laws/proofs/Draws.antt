-- The own laws of ActiveTexture, of the commands on the fixed state, and of those that clear and draw, in the state behind their zeroings. Each
-- makes at most one driver call, which tells nothing.
use Rattle.std.proofs.Common.{◌≡◌, ◌≤◌, ℕ, ℤ, ◌+◌, ◌==◌, ◌&&◌, nat_le, Bool, true, false, if◌then◌else◌, List, [], ◌∷◌, ◌++◌, Option, None, Some, Result, Ok, Err, refl, sym, ap, ◌∙◌, subst, arith}
use Rattle.std.specs.Prelude.{map}
use Rattle.std.proofs.lemmas.Bool.Decides.{nat_tests}
use Rattle.gl_base.specs.declared.gl_enum.GlEnum.{GlEnum}
use Rattle.gl_base.specs.declared.limits.TheConstants.{LAST_UNIT}
use Rattle.gl_base.specs.declared.texture_enums.TheConstants.{TEXTURE0, TEXTURE7}
use Rattle.gl_plain.specs.declared.commands.DrawCommand.{DrawCommand}
use Rattle.gl_plain.specs.declared.commands.DrawCommand.TheVariants.{ActiveTexture, Raster, Clear, DrawArrays, DrawElements, Flush, Finish}
use Rattle.gl_plain.specs.declared.draws.DrawPlan.{DrawPlan}
use Rattle.gl_plain.specs.declared.driver_calls.Answer.{Answer}
use Rattle.gl_plain.specs.declared.driver_calls.DriverCall.{DriverCall}
use Rattle.gl_plain.specs.declared.driver_calls.DriverCall.TheVariants.{Draw}
use Rattle.gl_plain.specs.declared.driver_calls.DriverEntry.{DriverEntry}
use Rattle.gl_plain.specs.declared.driver_calls.DrawDriver.TheVariants as calls
use Rattle.gl_plain.specs.declared.errors.GlError.{GlError}
use Rattle.gl_plain.specs.declared.errors.GlError.TheVariants.{InvalidEnum}
use Rattle.gl_plain.specs.declared.raster.RasterWords.{RasterWords}
use Rattle.gl_plain.specs.subjects.Images.{Contents, ImageContents, Covers, Marks, AreWritten, IsTargetWritten, read_contents, target_contents}
use Rattle.gl_plain.specs.subjects.Raster.{is_driver_raster, kept_words, raster_effect, raster_refusal}
use Rattle.gl_plain.specs.subjects.Clears.{cleared, drawn, clear_refusal}
use Rattle.gl_plain.specs.declared.draws.UnitView.{UnitView}
use Rattle.gl_plain.specs.declared.targets.AnyImage.{AnyImage}
use Rattle.gl_plain.specs.declared.targets.AnyImage.TheVariants as any
use Rattle.gl_plain.specs.declared.targets.Target.{Target}
use Rattle.gl_plain.specs.declared.textures.Texture.{Texture}
use Rattle.gl_plain.specs.Words.{natural}
use Rattle.gl_plain.specs.subjects.Completeness.{sampled_places}
use Rattle.gl_plain.specs.subjects.Textures.{TextureObjects, AreTexturesSound, active_texture_effect, active_texture_refusal, unit_number}
use Rattle.gl_plain.specs.subjects.Draws.{Sources, Black, Sampled, IsDrawAllowed, check_arrays, check_indexed, drawn_images, drawn_places, element_bytes, elements_from, indices, is_sampled, places_from, places_of, sample_by, sample_of, sampled_number, sampled_texture, samples_from, unit_places, units_viewed, vertex_of}
use Rattle.gl_plain.specs.subjects.Targets.{Drawable, Renderbuffers, target_images, target_of}
use Rattle.gl_plain.specs.Oracle.{Oracle}
use Rattle.gl_plain.specs.State.{EsState, DriverState, drawable_of, drawable_in, sources_of, sources_in}
use Rattle.gl_plain.specs.driver.Allowed.{IsAllowed}
use Rattle.gl_plain.specs.driver.Answers.{told}
use Rattle.gl_plain.specs.Journal.{state_after, records_in}
use Rattle.gl_plain.specs.Parts.{calls_in}
use Rattle.gl_plain.specs.Records.{Record, DrawRecord, ClearRecord, clear_record, draw_record, arrays_record, elements_record, draw_contents, draw_records, if_drawn}
use Rattle.gl_plain.specs.Agreement.{TablesAgree, ImagesAgree}
use Rattle.gl_plain.specs.draw.Refusal.{draw_command_refusal}
use Rattle.gl_plain.specs.draw.Step.{draw_effect}
use Rattle.gl_plain.specs.draw.Calls.{drawing_calls, drawing_whole_first, draw_whole_first, own_draw_calls}
use Rattle.gl_laws.proofs.Lists.{entry, not_nil, no_entry, one_entry, front_of_one}
use Rattle.gl_laws.proofs.Tables.{with_textures}
use Rattle.gl_laws.proofs.Drawables.{same_drawable, same_sources}
use Rattle.gl_laws.proofs.Zeroing.{AreStored, stored_rest}
use Rattle.gl_laws.proofs.MadeImages.{agree_cleared, agree_drawn, clear_reads, draw_reads, levels_first, levels_read, levels_rest, target_is_written, target_reads, written_first, written_rest}
use Rattle.gl_laws.proofs.Raster.{set_raster_allowed, raster_stays}

-- Samples

module _ (t : TextureObjects) (r : Renderbuffers) (k : Contents) where
  texture_reads : (number : ℕ) (o : Option Texture) → AreWritten t r k (map any.Level (places_of number o)) → sample_by t k number o ≡ sample_by t (read_contents k) number o
  texture_reads number None all = refl
  texture_reads number (Some x) all = ap (λ (images : List ImageContents). Sampled x.min x.mag x.wrap_s x.wrap_t images) (levels_read t r k (sampled_places number x) all)

  sample_reads : (unit : ℕ) (u : UnitView) (b : Bool) → AreWritten t r k (map any.Level (if b then places_of (sampled_number t unit u) (sampled_texture t unit u) else []))
      → (if b then sample_by t k (sampled_number t unit u) (sampled_texture t unit u) else Black) ≡ (if b then sample_by t (read_contents k) (sampled_number t unit u) (sampled_texture t unit u) else Black)
  sample_reads unit u true all = texture_reads (sampled_number t unit u) (sampled_texture t unit u) all
  sample_reads unit u false all = refl

  -- what the units sample reads as it is
  samples_read : (unit : ℕ) (units : List UnitView) → AreWritten t r k (map any.Level (places_from t unit units)) → samples_from t k unit units ≡ samples_from t (read_contents k) unit units
  samples_read unit [] all = refl
  samples_read unit (u ∷ units) all =
      let first : sample_of t k unit u ≡ sample_of t (read_contents k) unit u = sample_reads unit u u.complete (levels_first t r k (unit_places t unit u) (places_from t (unit + 1) units) all) in
      let rest : samples_from t k (unit + 1) units ≡ samples_from t (read_contents k) (unit + 1) units = samples_read (unit + 1) units (levels_rest t r k (unit_places t unit u) (places_from t (unit + 1) units) all) in
      λ i. (if is_sampled u then first i ∷ [] else []) ++ rest i

-- Calls

-- the entries of a draw, by what the rules say
module _ (call : ℕ → DriverCall) where
  entries_if : (P : Bool → List DriverEntry → Type 0) (black : ℕ) → P false [] → ((answer : Answer) → P true (entry (call black) answer ∷ [])) → (b : Bool) (es : List DriverEntry) → calls_in es ≡ (if b then call black ∷ [] else []) → P b es
  entries_if P black none one true es h = one_entry (P true) (call black) one es h
  entries_if P black none one false es h = no_entry (P false) none es h

  drawing_entries : (P : Result DrawPlan GlError → List DriverEntry → Type 0) → ((e : GlError) → P (Err e) []) → ((black : ℕ) → P (Ok (record { draw = false; black = black })) [])
      → ((black : ℕ) (answer : Answer) → P (Ok (record { draw = true; black = black })) (entry (call black) answer ∷ [])) → (r : Result DrawPlan GlError) (es : List DriverEntry) → calls_in es ≡ drawing_calls call r → P r es
  drawing_entries P refused none one (Err e) es h = no_entry (P (Err e)) (refused e) es h
  drawing_entries P refused none one (Ok plan) es h = entries_if (λ (b : Bool) (gs : List DriverEntry). P (Ok (record { draw = b; black = plan.black })) gs) plan.black (none plan.black) (one plan.black) plan.draw es h

  -- its call, where one is left
  front_if : (P : List DriverEntry → DriverCall → Type 0) (black : ℕ) (b : Bool) → (b ≡ true → P [] (call black)) → (es : List DriverEntry) (next : DriverCall) (more : List DriverCall) → calls_in es ++ next ∷ more ≡ (if b then call black ∷ [] else []) → P es next
  front_if P black true one es next more h = front_of_one P (call black) (one refl) es next more h
  front_if P black false one es next more h = absurd (not_nil (calls_in es) next more h)

  drawing_front : (P : List DriverEntry → DriverCall → Type 0) (r : Result DrawPlan GlError) → ((black : ℕ) → r ≡ Ok (record { draw = true; black = black }) → P [] (call black)) → (es : List DriverEntry) (next : DriverCall) (more : List DriverCall)
      → calls_in es ++ next ∷ more ≡ drawing_calls call r → P es next
  drawing_front P (Err e) one es next more h = absurd (not_nil (calls_in es) next more h)
  drawing_front P (Ok plan) one es next more h =
      front_if P plan.black plan.draw (λ draws. one plan.black (λ i. Ok (record { draw = draws i; black = plan.black }))) es next more h

-- The laws

-- what the calls of a command leave, where it leaves these tables, written rectangles, marks and contents and makes these records
pub record DrawLeft (d : DriverState) (s : EsState) (f : Covers) (m : Marks) (k : Contents) (made : List Record) (o : Oracle) (es : List DriverEntry) : Type 0 where
  pub asked : told es o ≡ o
  pub tables : TablesAgree s (state_after d es).tables
  pub images : ImagesAgree s.textures.objects s.renderbuffers.objects f m (state_after d es).contents
  pub contents : read_contents (state_after d es).contents ≡ k
  pub records : records_in d es ≡ made

-- behind any of its own calls that a command has made, the next one is allowed
abbrev pub DrawMayGoOn : EsState → DriverState → DrawCommand → Type 0
DrawMayGoOn s d c = (es : List DriverEntry) (next : DriverCall) (more : List DriverCall) → calls_in es ++ next ∷ more ≡ own_draw_calls (sources_of s) c → IsAllowed (state_after d es) next

-- what all its own calls leave
abbrev pub DrawLeaves : EsState → DriverState → Covers → Marks → DrawCommand → Type 0
DrawLeaves s d f m c = (o : Oracle) (es : List DriverEntry) → calls_in es ≡ own_draw_calls (sources_of s) c → DrawLeft d (draw_effect s c) f m (draw_contents s c (read_contents d.contents)) (draw_records s c (read_contents d.contents)) o es

-- the renderbuffers that it draws to are there
abbrev pub AreFirstStored : EsState → DrawCommand → Type 0
AreFirstStored s c = AreStored s.renderbuffers.objects (draw_whole_first (sources_of s) c)

-- the images that it samples or draws to were written
abbrev pub IsSampleWritten : EsState → DriverState → DrawCommand → Type 0
IsSampleWritten s d c = AreWritten s.textures.objects s.renderbuffers.objects d.contents (draw_whole_first (sources_of s) c)

module _ (s : EsState) (d : DriverState) (f : Covers) (m : Marks) (a : TablesAgree s d.tables) (g : ImagesAgree s.textures.objects s.renderbuffers.objects f m d.contents) where
  abbrev AreAllWritten : List AnyImage → Type 0
  AreAllWritten xs = AreWritten s.textures.objects s.renderbuffers.objects d.contents xs

  abbrev AreAllStored : List AnyImage → Type 0
  AreAllStored xs = AreStored s.renderbuffers.objects xs

  -- what is drawn to
  abbrev drawn_to : Target
  drawn_to = target_of s.framebuffers

  -- the driver draws from and to what the service does
  driver_drawable : drawable_in d.tables ≡ drawable_of s
  driver_drawable = sym (same_drawable s d.tables a)

  driver_sources : sources_in d.tables ≡ sources_of s
  driver_sources = sym (same_sources s d.tables a)

  -- the driver's images of what is drawn to are what is read of them
  before_read : AreAllWritten (target_images drawn_to) → target_contents (drawable_of s) d.contents drawn_to ≡ target_contents (drawable_of s) (read_contents d.contents) drawn_to
  before_read all = target_reads (drawable_of s) d.contents drawn_to (target_is_written (drawable_of s) d.contents drawn_to g.screen all)

  -- and were written
  driver_written : AreAllWritten (target_images drawn_to) → IsTargetWritten (drawable_in d.tables) d.contents (drawable_in d.tables).target
  driver_written all = subst (λ (b : Drawable). IsTargetWritten b d.contents b.target) (sym driver_drawable) (target_is_written (drawable_of s) d.contents drawn_to g.screen all)

  -- without a call all stays
  nothing : (o : Oracle) → DrawLeft d s f m (read_contents d.contents) [] o []
  nothing o = record { asked = refl; tables = a; images = g; contents = refl; records = refl }

  -- ActiveTexture

  module _ (unit : GlEnum) where
    abbrev unit_call : DriverCall
    unit_call = Draw (calls.ActiveTexture (unit_number unit))

    unit_within : (b : Bool) → (nat_le TEXTURE0.0 unit.0 && nat_le unit.0 TEXTURE7.0) ≡ b → (if b then None else Some InvalidEnum) ≡ None → unit_number unit ≤ LAST_UNIT
    unit_within true is h = grind (arith, nat_tests)
    unit_within false is h = absurd (cc)

    unit_may : active_texture_refusal unit ≡ None → DrawMayGoOn s d (ActiveTexture unit)
    unit_may allowed es next more h =
        front_of_one (λ (gs : List DriverEntry) (c : DriverCall). IsAllowed (state_after d gs) c) unit_call (unit_within (nat_le TEXTURE0.0 unit.0 && nat_le unit.0 TEXTURE7.0) refl allowed) es next more h

    -- no image changes with the active unit, nor what the units bind
    unit_left : (o : Oracle) (answer : Answer) → DrawLeft d (draw_effect s (ActiveTexture unit)) f m (read_contents d.contents) [] o (entry unit_call answer ∷ [])
    unit_left o answer = record {
      asked = refl;
      tables = with_textures s d.tables _ _ a (record { names = a.textures.names; objects = ap (λ (t : TextureObjects). active_texture_effect t (unit_number unit)) a.textures.objects; sound = activated a.textures.sound });
      images = record { covers = g.covers; marks = g.marks; screen = g.screen };
      contents = refl;
      records = refl;
    }
      where
        activated : AreTexturesSound s.textures → AreTexturesSound (record s.textures { objects = active_texture_effect s.textures.objects (unit_number unit) })
        activated sound = record {
          made = sound.made;
          owned = sound.owned;
          sized = sound.sized;
          flat_sized = sound.flat_sized;
          cube_sized = sound.cube_sized;
          flat_kind = sound.flat_kind;
          cube_kind = sound.cube_kind;
          bound = sound.bound;
        }

    unit_leaves : DrawLeaves s d f m (ActiveTexture unit)
    unit_leaves o es h = one_entry (λ (gs : List DriverEntry). DrawLeft d (draw_effect s (ActiveTexture unit)) f m (read_contents d.contents) [] o gs) unit_call (unit_left o) es h

  -- the commands on the fixed state
  module _ (number : ℕ) (words : List ℕ) where
    abbrev set_raster : DriverCall
    set_raster = Draw (calls.SetRaster number (kept_words number words))

    raster_may : raster_refusal number words ≡ None → DrawMayGoOn s d (Raster number words)
    raster_may allowed es next more h =
        elim (is_driver_raster number) as (λ b. is_driver_raster number ≡ b → calls_in es ++ next ∷ more ≡ (if b then set_raster ∷ [] else []) → IsAllowed (state_after d es) next) [
          | true ↦ λ known h. front_of_one (λ (gs : List DriverEntry) (c : DriverCall). IsAllowed (state_after d gs) c) set_raster (set_raster_allowed number words known allowed) es next more h
          | false ↦ λ known h. absurd (not_nil (calls_in es) next more h)
        ] refl h

    abbrev RasterLeft : Oracle → List DriverEntry → Type 0
    RasterLeft o es = DrawLeft d (draw_effect s (Raster number words)) f m (read_contents d.contents) [] o es

    -- the driver has the same fixed state again
    with_raster : (r : RasterWords) → raster_effect s.raster number (kept_words number words) ≡ r → TablesAgree (draw_effect s (Raster number words)) (record d.tables { raster = r })
    with_raster r same = record { surface = a.surface; buffers = a.buffers; textures = a.textures; renderbuffers = a.renderbuffers; framebuffers = a.framebuffers; attribs = a.attribs; programs = a.programs; raster = same }

    raster_set_both : (o : Oracle) (answer : Answer) → RasterLeft o (entry set_raster answer ∷ [])
    raster_set_both o answer = record {
      asked = refl;
      tables = with_raster _ (ap (λ (r : RasterWords). raster_effect r number (kept_words number words)) a.raster);
      images = g;
      contents = refl;
      records = refl;
    }

    raster_set_here : (o : Oracle) → is_driver_raster number ≡ false → RasterLeft o []
    raster_set_here o none = record { asked = refl; tables = with_raster d.tables.raster (raster_stays s.raster number none (kept_words number words) ∙ a.raster); images = g; contents = refl; records = refl }

    raster_leaves : DrawLeaves s d f m (Raster number words)
    raster_leaves o es h =
        elim (is_driver_raster number) as (λ b. is_driver_raster number ≡ b → calls_in es ≡ (if b then set_raster ∷ [] else []) → RasterLeft o es) [
          | true ↦ λ known h. one_entry (RasterLeft o) set_raster (raster_set_both o) es h
          | false ↦ λ none h. no_entry (RasterLeft o) (raster_set_here o none) es h
        ] refl h

  -- Clear
  module _ (mask : ℕ) where
    -- the images of a Clear that does something
    abbrev IsClearWritten : Bool → Type 0
    IsClearWritten b = AreAllWritten (if b then [] else target_images drawn_to)

    clear_may : clear_refusal (drawable_of s) mask ≡ None → IsSampleWritten s d (Clear mask) → DrawMayGoOn s d (Clear mask)
    clear_may allowed all es next more h = elim (mask == 0) as (λ b. (mask == 0) ≡ b → IsClearWritten b → calls_in es ++ next ∷ more ≡ (if b then [] else Draw (calls.Clear mask) ∷ []) → IsAllowed (state_after d es) next) [
      | true ↦ λ none all h. absurd (not_nil (calls_in es) next more h)
      | false ↦ λ some all h. front_of_one (λ (gs : List DriverEntry) (c : DriverCall). IsAllowed (state_after d gs) c) (Draw (calls.Clear mask))
          (record { known = ap (λ (b : Drawable). clear_refusal b mask) driver_drawable ∙ allowed; some = some; written = driver_written all }) es next more h
    ] refl all h

    abbrev clear_made : Record
    clear_made = clear_record (drawable_of s) s.raster (read_contents d.contents) mask

    -- the record of a Clear by what is read
    record_read : AreAllWritten (target_images drawn_to) → clear_record (drawable_in d.tables) d.tables.raster d.contents mask ≡ clear_made
    record_read all = (λ i. clear_record (driver_drawable i) (sym a.raster i) d.contents mask) ∙ (λ i. ClearRecord (record { mask = mask; raster = s.raster; before = before_read all i }))

    all_cleared : AreAllStored (target_images drawn_to) → AreAllWritten (target_images drawn_to) → (o : Oracle) (answer : Answer) → DrawLeft d s f m (cleared mask drawn_to (read_contents d.contents)) (clear_made ∷ []) o (entry (Draw (calls.Clear mask)) answer ∷ [])
    all_cleared there all o answer = record {
      asked = refl;
      tables = a;
      images = subst (λ (to : Target). ImagesAgree s.textures.objects s.renderbuffers.objects f m (cleared mask to d.contents)) (ap (λ (b : Drawable). b.target) (sym driver_drawable))
          (agree_cleared s.textures.objects s.renderbuffers.objects f m d.contents g mask drawn_to there all);
      contents = clear_reads mask (target_of d.tables.framebuffers) d.contents ∙ ap (λ (b : Drawable). cleared mask b.target (read_contents d.contents)) driver_drawable;
      records = λ i. record_read all i ∷ [];
    }

    clear_leaves : AreFirstStored s (Clear mask) → IsSampleWritten s d (Clear mask) → DrawLeaves s d f m (Clear mask)
    clear_leaves there all o es h = elim (mask == 0) as (λ b. AreAllStored (if b then [] else target_images drawn_to) → IsClearWritten b → calls_in es ≡ (if b then [] else Draw (calls.Clear mask) ∷ [])
        → DrawLeft d s f m (if b then read_contents d.contents else cleared mask drawn_to (read_contents d.contents)) (if b then [] else clear_made ∷ []) o es) [
          | true ↦ λ there all h. no_entry (λ (gs : List DriverEntry). DrawLeft d s f m (read_contents d.contents) [] o gs) (nothing o) es h
          | false ↦ λ there all h. one_entry (λ (gs : List DriverEntry). DrawLeft d s f m (cleared mask drawn_to (read_contents d.contents)) (clear_made ∷ []) o gs) (Draw (calls.Clear mask)) (all_cleared there all o) es h
        ] there all h

  -- DrawArrays and DrawElements

  -- all images of a draw
  abbrev IsDrawWritten : Type 0
  IsDrawWritten = AreAllWritten (drawn_images (sources_of s))

  sampled_written : IsDrawWritten → AreAllWritten (map any.Level (drawn_places (sources_of s)))
  sampled_written all = written_first s.textures.objects s.renderbuffers.objects d.contents (map any.Level (drawn_places (sources_of s))) (target_images drawn_to) all

  drawn_written : IsDrawWritten → AreAllWritten (target_images drawn_to)
  drawn_written all = written_rest s.textures.objects s.renderbuffers.objects d.contents (map any.Level (drawn_places (sources_of s))) (target_images drawn_to) all

  drawn_stored : AreAllStored (drawn_images (sources_of s)) → AreAllStored (target_images drawn_to)
  drawn_stored there = stored_rest s.renderbuffers.objects (map any.Level (drawn_places (sources_of s))) (target_images drawn_to) there

  -- the record of a draw by what is read, where its images were written
  draw_read : IsDrawWritten → (mode : GlEnum) (elements : List ℕ)
      → draw_record (sources_of s) s.raster d.contents mode elements ≡ draw_record (sources_of s) s.raster (read_contents d.contents) mode elements
  draw_read all mode elements = λ i. DrawRecord (record {
    mode = mode;
    vertices = map (vertex_of (sources_of s)) elements;
    executable = s.programs.installed;
    samples = samples_read s.textures.objects s.renderbuffers.objects d.contents 0 (units_viewed (sources_of s)) (sampled_written all) i;
    raster = s.raster;
    before = before_read (drawn_written all) i;
  })

  -- what is drawn to is written, and no other image changes
  images_drawn : AreAllStored (drawn_images (sources_of s)) → IsDrawWritten → ImagesAgree s.textures.objects s.renderbuffers.objects f m (drawn (target_of d.tables.framebuffers) d.contents)
  images_drawn there all = subst (λ (to : Target). ImagesAgree s.textures.objects s.renderbuffers.objects f m (drawn to d.contents)) (ap (λ (b : Drawable). b.target) (sym driver_drawable))
      (agree_drawn s.textures.objects s.renderbuffers.objects f m d.contents g drawn_to (drawn_stored there) (drawn_written all))

  contents_drawn : read_contents (drawn (target_of d.tables.framebuffers) d.contents) ≡ drawn drawn_to (read_contents d.contents)
  contents_drawn = draw_reads (target_of d.tables.framebuffers) d.contents ∙ ap (λ (b : Drawable). drawn b.target (read_contents d.contents)) driver_drawable

  -- the images where something is drawn
  written_if : (r : Result DrawPlan GlError) (black : ℕ) → r ≡ Ok (record { draw = true; black = black }) → AreAllWritten (drawing_whole_first (sources_of s) r) → IsDrawWritten
  written_if r black is all = subst AreAllWritten (ap (drawing_whole_first (sources_of s)) is) all

  -- the condition of the driver call
  draw_allowed : (check : Sources → Result DrawPlan GlError) (black : ℕ) → check (sources_of s) ≡ Ok (record { draw = true; black = black }) → IsDrawWritten → IsDrawAllowed (sources_in d.tables) d.contents (check (sources_in d.tables)) black
  draw_allowed check black is all = subst (λ (x : Sources). IsDrawAllowed x d.contents (check x) black) (sym driver_sources)
      (record { draws = is; sampled = sampled_written all; written = target_is_written (drawable_of s) d.contents drawn_to g.screen (drawn_written all) })

  -- what a draw leaves that makes this record, by what the rules say
  abbrev LeftBy : Record → Oracle → Result DrawPlan GlError → List DriverEntry → Type 0
  LeftBy made o r es = AreAllStored (drawing_whole_first (sources_of s) r) → AreAllWritten (drawing_whole_first (sources_of s) r) → DrawLeft d s f m (if_drawn r (drawn drawn_to (read_contents d.contents)) (read_contents d.contents)) (if_drawn r (made ∷ []) []) o es

  module _ (mode : GlEnum) (start count : ℤ) where
    abbrev arrays_call : ℕ → DriverCall
    arrays_call black = Draw (calls.DrawArrays mode start count black)

    arrays_may : IsSampleWritten s d (DrawArrays mode start count) → DrawMayGoOn s d (DrawArrays mode start count)
    arrays_may all es next more h = drawing_front arrays_call (λ (gs : List DriverEntry) (c : DriverCall). IsAllowed (state_after d gs) c) (check_arrays (sources_of s) mode start count)
        (λ black is. draw_allowed (λ (x : Sources). check_arrays x mode start count) black is (written_if (check_arrays (sources_of s) mode start count) black is all)) es next more h

    arrays_leaves : AreFirstStored s (DrawArrays mode start count) → IsSampleWritten s d (DrawArrays mode start count) → DrawLeaves s d f m (DrawArrays mode start count)
    arrays_leaves there all o es h = drawing_entries arrays_call (LeftBy (arrays_record (sources_of s) s.raster (read_contents d.contents) mode start count) o) (λ e there all. nothing o) (λ black there all. nothing o)
        (λ black answer there all. record {
          asked = refl;
          tables = a;
          images = images_drawn there all;
          contents = contents_drawn;
          records = (λ i. arrays_record (driver_sources i) (sym a.raster i) d.contents mode start count ∷ []) ∙ (λ i. draw_read all mode (elements_from (natural start) (natural count)) i ∷ []);
        }) (check_arrays (sources_of s) mode start count) es h there all

  module _ (mode : GlEnum) (count : ℤ) (kind : GlEnum) (offset : ℕ) where
    abbrev elements_call : ℕ → DriverCall
    elements_call black = Draw (calls.DrawElements mode count kind offset black)

    elements_may : IsSampleWritten s d (DrawElements mode count kind offset) → DrawMayGoOn s d (DrawElements mode count kind offset)
    elements_may all es next more h = drawing_front elements_call (λ (gs : List DriverEntry) (c : DriverCall). IsAllowed (state_after d gs) c) (check_indexed (sources_of s) mode count kind offset)
        (λ black is. draw_allowed (λ (x : Sources). check_indexed x mode count kind offset) black is (written_if (check_indexed (sources_of s) mode count kind offset) black is all)) es next more h

    elements_leaves : AreFirstStored s (DrawElements mode count kind offset) → IsSampleWritten s d (DrawElements mode count kind offset) → DrawLeaves s d f m (DrawElements mode count kind offset)
    elements_leaves there all o es h = drawing_entries elements_call (LeftBy (elements_record (sources_of s) s.raster (read_contents d.contents) mode count kind offset) o) (λ e there all. nothing o) (λ black there all. nothing o)
        (λ black answer there all. record {
          asked = refl;
          tables = a;
          images = images_drawn there all;
          contents = contents_drawn;
          records = (λ i. elements_record (driver_sources i) (sym a.raster i) d.contents mode count kind offset ∷ []) ∙ (λ i. draw_read all mode (indices (element_bytes (sources_of s)) kind offset (natural count)) i ∷ []);
        }) (check_indexed (sources_of s) mode count kind offset) es h there all

  -- the laws, a line for each command

  pub draw_may : (c : DrawCommand) → draw_command_refusal (sources_of s) c ≡ None → IsSampleWritten s d c → DrawMayGoOn s d c
  draw_may (ActiveTexture unit) allowed all = unit_may unit allowed
  draw_may (Raster number words) allowed all = raster_may number words allowed
  draw_may (Clear mask) allowed all = clear_may mask allowed all
  draw_may (DrawArrays mode start count) allowed all = arrays_may mode start count all
  draw_may (DrawElements mode count kind offset) allowed all = elements_may mode count kind offset all
  draw_may Flush allowed all = λ es next more h. absurd (not_nil (calls_in es) next more h)
  draw_may Finish allowed all = λ es next more h. absurd (not_nil (calls_in es) next more h)

  pub draw_leaves : (c : DrawCommand) → AreFirstStored s c → IsSampleWritten s d c → DrawLeaves s d f m c
  draw_leaves (ActiveTexture unit) there all = unit_leaves unit
  draw_leaves (Raster number words) there all = raster_leaves number words
  draw_leaves (Clear mask) there all = clear_leaves mask there all
  draw_leaves (DrawArrays mode start count) there all = arrays_leaves mode start count there all
  draw_leaves (DrawElements mode count kind offset) there all = elements_leaves mode count kind offset there all
  draw_leaves Flush there all = λ o es h. no_entry (λ (gs : List DriverEntry). DrawLeft d s f m (read_contents d.contents) [] o gs) (nothing o) es h
  draw_leaves Finish there all = λ o es h. no_entry (λ (gs : List DriverEntry). DrawLeft d s f m (read_contents d.contents) [] o gs) (nothing o) es h
