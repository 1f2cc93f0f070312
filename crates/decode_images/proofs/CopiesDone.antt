-- A copy that is not refused: its zeroings, and the copy behind them.
use Rattle.std.proofs.Common.{◌≡◌, ◌==◌, ℕ, Bool, true, false, is_none, if◌then◌else◌, List, [], ◌∷◌, ◌++◌, None, Result, Ok, Err, refl, sym, ap, ◌∙◌, subst, arith}
use Rattle.std.proofs.lemmas.Bool.Decides.{nat_tests}
use Rattle.std.specs.Result.{IsErrAnd}
use Rattle.gl_base.specs.Rects.{is_empty, union_of}
use Rattle.gl_base.specs.declared.rect.Rect.{Rect}
use Rattle.gl_plain.specs.declared.calls.Reply.{Reply}
use Rattle.gl_plain.specs.declared.calls.Reply.TheVariants as reply
use Rattle.gl_plain.specs.declared.commands.Command.TheVariants.{Image}
use Rattle.gl_plain.specs.declared.commands.ImageCommand.{ImageCommand}
use Rattle.gl_plain.specs.declared.commands.ImageCommand.TheVariants.{CopyTexImage2D, CopyTexSubImage2D}
use Rattle.gl_plain.specs.declared.driver_calls.DriverCall.{DriverCall}
use Rattle.gl_plain.specs.declared.driver_calls.DriverCall.TheVariants as driver
use Rattle.gl_plain.specs.declared.driver_calls.ImageDriver.TheVariants as calls
use Rattle.gl_plain.specs.declared.errors.Errors.{Errors}
use Rattle.gl_plain.specs.declared.image_words.CopyWords.{CopyWords}
use Rattle.gl_plain.specs.declared.image_words.CopyPartWords.{CopyPartWords}
use Rattle.gl_plain.specs.declared.stop.ExecStop.{ExecStop}
use Rattle.gl_plain.specs.declared.targets.AnyImage.{AnyImage}
use Rattle.gl_plain.specs.declared.targets.AnyImage.TheVariants as image
use Rattle.gl_plain.specs.declared.targets.Target.{Target}
use Rattle.gl_plain.specs.declared.textures.ImagePlace.{ImagePlace}
use Rattle.gl_plain.specs.State.{WireState, DriverState}
use Rattle.gl_plain.specs.Wire.{zeroed}
use Rattle.gl_plain.specs.Covers.{zeroings, all_filled, all_marked}
use Rattle.gl_plain.specs.driver.Allowed.{IsAllowed}
use Rattle.gl_plain.specs.image.Covers.{copy_first, part_first}
use Rattle.gl_plain.specs.image.Refusal.{image_command_refusal}
use Rattle.gl_plain.specs.subjects.Copies.{copy_image, copy_rect, copy_part_place, is_wrong_source}
use Rattle.gl_plain.specs.subjects.Images.{Covers, Marks, no_marks, extended, tex_image_refusal, with_cover}
use Rattle.gl_plain.specs.subjects.Levels.{is_cube_face}
use Rattle.gl_plain.specs.subjects.Targets.{Drawable, colour_images, is_colour_of, target_of}
use Rattle.gl_plain.specs.subjects.Textures.{IsOfKind, TextureTables, bound_texture, level_at}
use Rattle.gl_laws.proofs.Copies.{IsFineCopyPart, as_image, fine_copy, fine_copy_part}
use Rattle.gl_driver.specs.History.{History}
use Rattle.gl_driver.specs.Performed.{Acts, Made, StoppedIn, MayMake}
use Rattle.gl_driver.specs.Stops.{stop_of_driver}
use Rattle.gl_driver.specs.declared.stop.DriverStop.{DriverStop}
use Rattle.gl_driver.proofs.Exits.{ends_alone, ends_own, ends_zeroed, own_means, passes_zeroing_stop}
use Rattle.gl_driver.proofs.Zeroed.{zeroings_may, own_may_behind}
use Rattle.svc_raster.specs.declared.raster.Raster.{Raster}
use Rattle.texture_mgr.specs.Covered.{IsInLevel}
use Rattle.texture_mgr.specs.declared.textures.Textures.{Textures}
use Rattle.texture_mgr.specs.Tables.{tables, covers}
use Rattle.target_mgr.specs.declared.targets.Targets.{Targets}
use Rattle.target_mgr.specs.Tables.{renderbuffers, framebuffers, marks}
use Rattle.whole_images.specs.Views.{drawable}
use Rattle.whole_images.specs.Whole.{image_zeroings, MakesImagesWhole, IsColourThere}
use Rattle.whole_images.proofs.MadeImages.{joins, made_both, may_first, may_left, stops_first}
use Rattle.decode_images.specs.States.{IsReady, images_in, means, own_part, copy_written}
use Rattle.decode_images.specs.Whole.{level_zeroings}
use Rattle.decode_images.proofs.CopiesTaken.{copy_anyway, copy_part_anyway, kept_covers, not_colour, source_there}
use Rattle.decode_images.proofs.Done.{part_marks, part_unmarked}

-- CopyTexImage2D

module _ (copy : CopyWords) (payload : List ℕ) (x : Textures) (g : Targets) (r : Raster) (e : Errors) where
  abbrev the_copy : ImageCommand
  the_copy = CopyTexImage2D copy

  abbrev at_copy : WireState → WireState
  at_copy = images_in x g r e

  abbrev read_from : Target
  read_from = target_of (framebuffers g)

  abbrev copy_call : DriverCall
  copy_call = driver.Image (calls.CopyTexImage copy.target copy.level copy.internal copy.x copy.y copy.width copy.height)

  module _ {d : DriverState} (ready : IsReady the_copy payload at_copy d) where
    copy_taken : (s : WireState) → image_command_refusal (at_copy s).es the_copy ≡ None
    copy_taken s = copy_anyway x g s.es.surface ready.others.es.surface copy ∙ ready.taken

    -- what it reads is there, and may be zeroed
    pub copy_is_there : IsColourThere (renderbuffers g).objects read_from
    copy_is_there = let b : Drawable = drawable ready.others.es.surface x g in source_there b copy.target copy.internal (fine_copy b copy ready.taken).source

    pub copy_may_zero : MayMake d (image_zeroings x g (colour_images read_from))
    copy_may_zero = zeroings_may (at_copy ready.others) (Image the_copy) payload ready.taken ready.may

    -- its image is one that TexImage2D takes
    pub copy_fair : tex_image_refusal (copy_image copy) ≡ None
    copy_fair = let b : Drawable = drawable ready.others.es.surface x g in as_image b copy (fine_copy b copy ready.taken)

    pub copy_bound : (x1 : Textures) → tables x1 ≡ tables x → IsOfKind (is_cube_face copy.target) (bound_texture (tables x1).objects (is_cube_face copy.target))
    copy_bound x1 same =
        subst (λ (t : TextureTables). IsOfKind (is_cube_face copy.target) (bound_texture t.objects (is_cube_face copy.target))) (sym same) (ready.sound.bound (tables x).objects.units.active (is_cube_face copy.target))

  module _ {D : Type 0} {history : D → History} {grown : D → D → Type 0} {v : D} (ready : IsReady the_copy payload at_copy (history v).state) where
    -- the driver stopped in its zeroings, and `?` passes its stop on
    pub copy_stops : {after : WireState → WireState} {v1 : D} {stop : DriverStop} (result : Result Reply ExecStop) → IsErrAnd result (λ y. y ≡ stop_of_driver stop) → StoppedIn history grown v v1 (image_zeroings x g (colour_images read_from)) stop
        → Acts history grown (means the_copy payload) at_copy after v v1 result
    copy_stops result passed stopped = passes_zeroing_stop (Image the_copy) payload result passed stopped (λ s. refl) (copy_taken ready) (λ s. refl)

    module _ {v1 : D} {x1 : Textures} {g1 : Targets} (whole : MakesImagesWhole history grown v v1 x x1 g g1 (colour_images read_from) (Ok tt)) where
      -- behind them it may be made
      pub copy_allowed : IsAllowed (history v1).state copy_call
      copy_allowed = own_may_behind (at_copy ready.others) (Image the_copy) payload ready.taken ready.may whole.calls copy_call [] (λ o. refl)

      -- and then it is done
      pub copy_done : ((a b c : D) → grown a b → grown b c → grown a c) → {v2 : D} {after : WireState → WireState} (result : Result Reply ExecStop) → Acts history grown (own_part the_copy payload) (images_in x1 g1 r e) after v1 v2 result
          → Acts history grown (means the_copy payload) at_copy after v v2 result
      copy_done further {v2} {after} result acts =
          let same : images_in x1 g1 r e ≡ (λ s. zeroed (at_copy s) (Image the_copy)) =
          λ i s. record (at_copy s) { es = record (at_copy s).es { textures = whole.tables_are i; renderbuffers = whole.renderbuffers_are i; framebuffers = whole.framebuffers_are i }; covers = whole.covers_are i; marks = whole.marks_are i } in
          ends_zeroed (Image the_copy) payload further result whole.calls (λ s. refl) (copy_taken ready) (λ s. refl)
          (subst (λ (b : WireState → WireState). Acts history grown (own_means (Image the_copy) payload) b after v1 v2 result) same acts)

-- CopyTexSubImage2D

-- there is no pixel, or some
pub no_pixel : (q : Rect) → (q.width ≡ 0) → is_empty q ≡ true
no_pixel q none = grind (arith, nat_tests)

pub no_row : (q : Rect) → (q.height ≡ 0) → is_empty q ≡ true
no_row q none = grind (arith, nat_tests)

pub some_pixel : (q : Rect) → ((q.width ≡ 0) → ⊥) → ((q.height ≡ 0) → ⊥) → is_empty q ≡ false
some_pixel q columns rows = grind (arith, nat_tests)

module _ (copy : CopyPartWords) (payload : List ℕ) (x : Textures) (g : Targets) (r : Raster) (e : Errors) where
  abbrev the_part : ImageCommand
  the_part = CopyTexSubImage2D copy

  abbrev at_part : WireState → WireState
  at_part = images_in x g r e

  abbrev part_from : Target
  part_from = target_of (framebuffers g)

  abbrev part_call : DriverCall
  part_call = driver.Image (calls.CopyTexSubImage copy)

  -- the place that is copied to
  abbrev to_place : ImagePlace
  to_place = copy_part_place (tables x).objects copy

  abbrev first : List AnyImage
  first = colour_images part_from

  abbrev left : List AnyImage
  left = part_first (covers x) to_place (copy_rect copy)

  -- by whether there is no pixel
  abbrev whole_if : Bool → List AnyImage
  whole_if nothing = if nothing then [] else first ++ left

  module _ {d : DriverState} (ready : IsReady the_part payload at_part d) where
    part_taken : (s : WireState) → image_command_refusal (at_part s).es the_part ≡ None
    part_taken s = copy_part_anyway x g s.es.surface ready.others.es.surface copy ∙ ready.taken

    abbrev source : Drawable
    source = drawable ready.others.es.surface x g

    part_fine : IsFineCopyPart source copy
    part_fine = fine_copy_part source copy ready.taken

    -- what it reads is there
    pub part_is_there : IsColourThere (renderbuffers g).objects part_from
    part_is_there = source_there source copy.target part_fine.view.format part_fine.source

    -- a copy of no pixel does nothing
    pub part_nothing : {D : Type 0} {history : D → History} {grown : D → D → Type 0} {v : D} → ((a : D) → grown a a) → ((a b c : D) → grown a b → grown b c → grown a c) → is_empty (copy_rect copy) ≡ true → Acts history grown (means the_part payload) at_part at_part v v (Ok reply.None)
    part_nothing itself further none =
        ends_own (Image the_part) payload itself further (λ s. ap whole_if none) (λ s. refl) part_taken
        (ends_alone {m = own_means (Image the_part) payload} itself (λ s. refl) (λ s o. sym (ap (λ (b : Bool). if b then [] else part_call ∷ []) none))
        (λ s o. ap (λ (b : Bool). record { state = record (at_part s) { covers = if b then covers x else with_cover (covers x) to_place (extended (covers x to_place) (copy_rect copy)) }; oracle = o; reply = reply.None }) none))

    module _ (some : is_empty (copy_rect copy) ≡ false) where
      all_may : MayMake d (image_zeroings x g (first ++ left))
      all_may = subst (λ (is : List AnyImage). MayMake d (image_zeroings x g is)) (ap whole_if some) (zeroings_may (at_part ready.others) (Image the_part) payload ready.taken ready.may)

  same_calls : is_empty (copy_rect copy) ≡ false → image_zeroings x g (first ++ left) ≡ image_zeroings x g (whole_if (is_empty (copy_rect copy)))
  same_calls some = ap (image_zeroings x g) (sym (ap whole_if some))

  -- the image that colours are read from may be zeroed
  pub part_may_zero : {D : Type 0} (history : D → History) (grown : D → D → Type 0) → ((a : D) → grown a a) → ((a b c : D) → grown a b → grown b c → grown a c) → (v : D) → IsReady the_part payload at_part (history v).state → is_empty (copy_rect copy) ≡ false
      → MayMake (history v).state (image_zeroings x g first)
  part_may_zero history grown itself further v ready some = may_first history grown itself further first left v x g (all_may ready some)

  module _ {D : Type 0} {history : D → History} {grown : D → D → Type 0} (itself : (a : D) → grown a a) (further : (a b c : D) → grown a b → grown b c → grown a c) {v : D} (ready : IsReady the_part payload at_part (history v).state) (some : is_empty (copy_rect copy) ≡ false) where
    -- the driver stopped in a zeroing, and `?` passes its stop on
    stops_somewhere : {after : WireState → WireState} {v2 : D} {stop : DriverStop} (result : Result Reply ExecStop) → IsErrAnd result (λ y. y ≡ stop_of_driver stop) → StoppedIn history grown v v2 (image_zeroings x g (first ++ left)) stop
        → Acts history grown (means the_part payload) at_part after v v2 result
    stops_somewhere result passed stopped = passes_zeroing_stop (Image the_part) payload result passed stopped (λ s. refl) (part_taken ready) (λ s. same_calls some)

    -- in that of the colours
    pub part_stops : {after : WireState → WireState} {v1 : D} {x1 : Textures} {g1 : Targets} {stop : DriverStop} (result : Result Reply ExecStop) → IsErrAnd result (λ y. y ≡ stop_of_driver stop) → MakesImagesWhole history grown v v1 x x1 g g1 first (Err stop)
        → Acts history grown (means the_part payload) at_part after v v1 result
    part_stops result passed stopped = stops_somewhere result passed (stops_first history grown itself further first left v x g stopped).calls

    module _ {v1 : D} {x1 : Textures} {g1 : Targets} (whole : MakesImagesWhole history grown v v1 x x1 g g1 first (Ok tt)) (place : ImagePlace) (rect : Rect) (here : place ≡ copy_part_place (tables x1).objects copy) (is : rect ≡ copy_rect copy) where
      at_place : place ≡ to_place
      at_place = here ∙ ap (λ (t : TextureTables). copy_part_place t.objects copy) whole.tables_are

      -- the image that is copied to is as it was
      kept : covers x1 to_place ≡ covers x to_place
      kept = ap (λ (f : Covers). f to_place) whole.covers_are ∙ kept_covers (tables x).objects (covers x) part_from to_place (not_colour (source ready) copy.target (part_fine ready).view.format (part_fine ready).source)

      abbrev part_by : Rect → ImagePlace → Rect → List AnyImage
      part_by c p q = if is_none (union_of c q) then image.Level p ∷ [] else []

      first_are : part_first (covers x1) place rect ≡ left
      first_are = (λ i. part_by (covers x1 (at_place i)) (at_place i) (is i)) ∙ ap (λ (c : Rect). part_by c to_place (copy_rect copy)) kept

      left_calls : level_zeroings x1 (part_first (covers x1) place rect) ≡ image_zeroings x1 g1 left
      left_calls = part_marks (is_none (union_of (covers x1 place) rect)) place (tables x1).objects (covers x1) no_marks (marks g1) ∙ ap (image_zeroings x1 g1) first_are

      -- the rectangle lies in it
      pub part_inside : IsInLevel (level_at (tables x1).objects place) rect
      part_inside =
          let lies : IsInLevel (level_at (tables x).objects to_place) (copy_rect copy) = subst (λ o. IsInLevel o (copy_rect copy)) (sym (part_fine ready).is) (part_fine ready).inside in
          let there : IsInLevel (level_at (tables x1).objects to_place) (copy_rect copy) = subst (λ (t : TextureTables). IsInLevel (level_at t.objects to_place) (copy_rect copy)) (sym whole.tables_are) lies in
          subst (λ (p : ImagePlace). IsInLevel (level_at (tables x1).objects p) rect) (sym at_place) (subst (IsInLevel (level_at (tables x1).objects to_place)) (sym is) there)

      -- what is not written of it may be zeroed
      pub part_may_fill : MayMake (history v1).state (level_zeroings x1 (part_first (covers x1) place rect))
      part_may_fill = subst (MayMake (history v1).state) (sym left_calls) (may_left history grown itself further first left v x g whole (all_may ready some))

      -- the driver stopped there, and `?` passes its stop on
      pub part_stops_filling : {after : WireState → WireState} {v2 : D} {stop : DriverStop} (result : Result Reply ExecStop) → IsErrAnd result (λ y. y ≡ stop_of_driver stop) → StoppedIn history grown v1 v2 (level_zeroings x1 (part_first (covers x1) place rect)) stop
          → Acts history grown (means the_part payload) at_part after v v2 result
      part_stops_filling {v2 = v2} {stop} result passed stopped =
          let last : MakesImagesWhole history grown v1 v2 x1 x1 g1 g1 left (Err stop) = record {
            calls = subst (λ (calls : List DriverCall). StoppedIn history grown v1 v2 calls stop) left_calls stopped;
            tables_are = tt;
            covers_are = tt;
            renderbuffers_are = tt;
            framebuffers_are = tt;
            marks_are = tt;
          } in
          stops_somewhere result passed (joins history grown itself further first left v x g whole (Err stop) last).calls

      module _ {v2 : D} (made : Made history grown v1 v2 (level_zeroings x1 (part_first (covers x1) place rect))) where
        both : Made history grown v v2 (image_zeroings x g (first ++ left)) × (all_filled (tables x).objects (covers x1) left ≡ all_filled (tables x).objects (covers x) (first ++ left)) × (all_marked (marks g1) left ≡ all_marked (marks g) (first ++ left))
        both = made_both history grown itself further first left v x g whole (subst (Made history grown v1 v2) left_calls made)

        -- behind both it may be made
        pub part_allowed : IsAllowed (history v2).state part_call
        part_allowed = own_may_behind (at_part ready.others) (Image the_part) payload ready.taken ready.may (subst (Made history grown v v2) (same_calls some) both.0) part_call [] (λ o. ap (λ (b : Bool). if b then [] else part_call ∷ []) some)

        -- and then it is done
        pub part_done : {v3 : D} (x2 : Textures) → tables x2 ≡ tables x1
            → covers x2 ≡ with_cover (all_filled (tables x1).objects (covers x1) (part_first (covers x1) place rect)) place (extended (all_filled (tables x1).objects (covers x1) (part_first (covers x1) place rect) place) rect)
            → (result : Result Reply ExecStop) → ((lent : WireState → WireState) → Acts history grown (own_part the_part payload) lent (copy_written copy lent) v2 v3 result) → Acts history grown (means the_part payload) at_part (images_in x2 g1 r e) v v3 result
        part_done {v3} x2 tables_are covers_are result acts =
            let behind : WireState → WireState = λ s. zeroed (at_part s) (Image the_part) in
            let entered : Covers → ImagePlace → Rect → Covers = λ f p q. with_cover f p (extended (f p) q) in
            let filled_are : all_filled (tables x1).objects (covers x1) (part_first (covers x1) place rect) ≡ all_filled (tables x).objects (covers x) (whole_if (is_empty (copy_rect copy))) =
            (λ i. all_filled (whole.tables_are i).objects (covers x1) (first_are i)) ∙ both.1 ∙ ap (all_filled (tables x).objects (covers x)) (sym (ap whole_if some)) in
            let written : covers x2 ≡ entered (all_filled (tables x).objects (covers x) (whole_if (is_empty (copy_rect copy)))) to_place (copy_rect copy) = covers_are ∙ (λ i. entered (filled_are i) (at_place i) (is i)) in
            let marked : all_marked (marks g) (whole_if (is_empty (copy_rect copy))) ≡ marks g1 =
            ap (all_marked (marks g)) (ap whole_if some) ∙ sym both.2 ∙ part_unmarked (is_none (union_of (covers x to_place) (copy_rect copy))) to_place (marks g1) in
            let same : copy_written copy behind ≡ images_in x2 g1 r e = λ i s. record (at_part s) {
              es = record (at_part s).es { textures = sym (tables_are ∙ whole.tables_are) i; renderbuffers = sym whole.renderbuffers_are i; framebuffers = sym whole.framebuffers_are i };
              covers = sym written i;
              marks = marked i;
            } in
            ends_zeroed (Image the_part) payload further result both.0 (λ s. refl) (part_taken ready) (λ s. same_calls some)
            (subst (λ (after : WireState → WireState). Acts history grown (own_means (Image the_part) payload) behind after v2 v3 result) same (acts behind))
