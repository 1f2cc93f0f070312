-- A command on images that is neither malformed nor refused.
use Rattle.std.proofs.Common.{◌≡◌, ◌==◌, ℕ, true, false, is_none, if◌then◌else◌, List, [], ◌∷◌, Bool, None, Err, Result, refl, sym, ap, ◌∙◌, subst}
use Rattle.std.specs.Result.{IsErrAnd}
use Rattle.gl_base.specs.declared.rect.Rect.{Rect}
use Rattle.gl_plain.specs.declared.calls.Payload.{Payload}
use Rattle.gl_plain.specs.declared.calls.Payload.TheVariants.{Absent, Here}
use Rattle.gl_plain.specs.declared.calls.Reply.{Reply}
use Rattle.gl_plain.specs.declared.commands.Command.TheVariants.{Image}
use Rattle.gl_plain.specs.declared.commands.DataWords.{DataWords}
use Rattle.gl_plain.specs.declared.commands.ImageCommand.{ImageCommand}
use Rattle.gl_plain.specs.declared.commands.ImageCommand.TheVariants.{TexImage2D, TexSubImage2D, TexParameteri}
use Rattle.gl_plain.specs.declared.driver_calls.DriverCall.{DriverCall}
use Rattle.gl_plain.specs.declared.driver_calls.DriverCall.TheVariants as driver
use Rattle.gl_plain.specs.declared.driver_calls.ImageDriver.TheVariants as calls
use Rattle.gl_plain.specs.declared.image_words.ImageWords.{ImageWords}
use Rattle.gl_plain.specs.declared.image_words.PartWords.{PartWords}
use Rattle.gl_plain.specs.declared.stop.ExecStop.{ExecStop}
use Rattle.gl_base.specs.Rects.{union_of}
use Rattle.gl_plain.specs.declared.targets.AnyImage.TheVariants as image
use Rattle.gl_plain.specs.declared.textures.ImagePlace.{ImagePlace}
use Rattle.gl_plain.specs.subjects.Textures.{TextureObjects}
use Rattle.gl_plain.specs.Oracle.{Oracle, default_answers}
use Rattle.gl_plain.specs.State.{WireState, DriverState}
use Rattle.gl_plain.specs.Wire.{calls_by, command_calls, zeroed}
use Rattle.gl_plain.specs.Covers.{zeroings, all_filled, all_marked}
use Rattle.gl_plain.specs.driver.Allowed.{IsAllowed}
use Rattle.gl_plain.specs.driver.Answers.{told}
use Rattle.gl_plain.specs.image.Covers.{part_place, part_first}
use Rattle.gl_plain.specs.subjects.Data.{payload_of}
use Rattle.gl_plain.specs.subjects.Images.{Covers, Marks, no_marks, extended, part_rect, unpadded_image, unpadded_part, unpadded_payload, with_cover}
use Rattle.gl_plain.specs.declared.errors.Errors.{Errors}
use Rattle.texture_mgr.specs.declared.textures.Textures.{Textures}
use Rattle.texture_mgr.specs.Tables.{tables, covers}
use Rattle.target_mgr.specs.declared.targets.Targets.{Targets}
use Rattle.target_mgr.specs.Tables.{marks}
use Rattle.svc_raster.specs.declared.raster.Raster.{Raster}
use Rattle.gl_driver.specs.History.{History}
use Rattle.gl_driver.specs.Performed.{Acts, Made, StoppedIn, MayMake}
use Rattle.gl_driver.specs.Stops.{stop_of_driver}
use Rattle.gl_driver.specs.declared.stop.DriverStop.{DriverStop}
use Rattle.gl_driver.proofs.Exits.{ends_own, ends_zeroed, own_means, passes_zeroing_stop}
use Rattle.gl_driver.proofs.Zeroed.{zeroings_may, own_may_behind}
use Rattle.decode_images.specs.States.{IsReady, images_in, means, own_part, part_written}

-- A command that zeroes nothing

-- the data that a driver is given of an image without data, and of one with data
pub nothing_given : (i : ImageWords) (words : DataWords) (payload : List ℕ) (alignment : ℕ) → words.source ≡ 0 → Absent ≡ unpadded_payload i alignment (payload_of words payload)
nothing_given i words payload alignment none = sym (ap (λ (source : ℕ). unpadded_payload i alignment (if source == 0 then Absent else Here payload)) none)

pub rows_given : (i : ImageWords) (words : DataWords) (payload rows : List ℕ) (alignment : ℕ) → (words.source == 0) ≡ false → rows ≡ unpadded_image i alignment payload → Here rows ≡ unpadded_payload i alignment (payload_of words payload)
rows_given i words payload rows alignment some is = ap Here is ∙ sym (ap (λ (b : Bool). unpadded_payload i alignment (if b then Absent else Here payload)) some)

-- the new image is one that OpenGL ES takes
pub image_allowed : (i : ImageWords) (words : DataWords) (payload : List ℕ) (before : WireState → WireState) (d : DriverState) (ready : IsReady (TexImage2D i words) payload before d) (bytes : Payload) → bytes ≡ unpadded_payload i (before ready.others).es.alignments.unpack (payload_of words payload)
    → IsAllowed d (driver.Image (calls.TexImage i.target i.level i.format i.kind i.width i.height bytes))
image_allowed i words payload before d ready bytes is =
    let call : Payload → DriverCall = λ p. driver.Image (calls.TexImage i.target i.level i.format i.kind i.width i.height p) in
    ready.may default_answers [] (call bytes) [] tt (ap (λ (p : Payload). call p ∷ []) is ∙ sym (ap (λ r. calls_by r (before ready.others) (Image (TexImage2D i words)) payload default_answers) ready.taken))

-- A part of an image

-- the zeroings of a part ask for no mark, and make none
pub part_marks : (b : Bool) (place : ImagePlace) (t : TextureObjects) (f : Covers) (m n : Marks) → zeroings t f m (if b then image.Level place ∷ [] else []) ≡ zeroings t f n (if b then image.Level place ∷ [] else [])
part_marks true place t f m n = refl
part_marks false place t f m n = refl

pub part_unmarked : (b : Bool) (place : ImagePlace) (m : Marks) → all_marked m (if b then image.Level place ∷ [] else []) ≡ m
part_unmarked true place m = refl
part_unmarked false place m = refl

module _ (part : PartWords) (words : DataWords) (payload : List ℕ) (x : Textures) (g : Targets) (r : Raster) (e : Errors) (place : ImagePlace) (rect : Rect) (here : place ≡ part_place (tables x).objects part) (is : rect ≡ part_rect part) where
  abbrev the_command : ImageCommand
  the_command = TexSubImage2D part words

  abbrev before : WireState → WireState
  before = images_in x g r e

  abbrev calls_first : ImagePlace → Rect → List DriverCall
  calls_first p q = zeroings (tables x).objects (covers x) (marks g) (part_first (covers x) p q)

  abbrev level_first : ImagePlace → Rect → List DriverCall
  level_first p q = zeroings (tables x).objects (covers x) no_marks (part_first (covers x) p q)

  abbrev covers_first : ImagePlace → Rect → Covers
  covers_first p q =
      let f : Covers = all_filled (tables x).objects (covers x) (part_first (covers x) p q) in with_cover f p (extended (f p) q)

  same_first : level_first place rect ≡ calls_first (part_place (tables x).objects part) (part_rect part)
  same_first = part_marks (is_none (union_of (covers x place) rect)) place (tables x).objects (covers x) no_marks (marks g) ∙ (λ i. calls_first (here i) (is i))

  -- the state behind the zeroings
  abbrev behind : WireState → WireState
  behind s = zeroed (before s) (Image the_command)

  -- the zeroings may be made
  pub part_may : (d : DriverState) → IsReady the_command payload before d → MayMake d (level_first place rect)
  part_may d ready = subst (MayMake d) (sym same_first) (zeroings_may (before ready.others) (Image the_command) payload ready.taken ready.may)

  module _ {D : Type 0} {history : D → History} {grown : D → D → Type 0} {d d1 : D} (ready : IsReady the_command payload before (history d).state) where
    -- the driver stopped in them, and `?` passes its stop on
    pub part_stops : {after : WireState → WireState} {stop : DriverStop} (result : Result Reply ExecStop) → IsErrAnd result (λ x. x ≡ stop_of_driver stop) → StoppedIn history grown d d1 (level_first place rect) stop → Acts history grown (means the_command payload) before after d d1 result
    part_stops result passed stopped = passes_zeroing_stop (Image the_command) payload result passed stopped (λ s. ready.fair) (λ s. ready.taken) (λ s. same_first)

    module _ (made : Made history grown d d1 (level_first place rect)) (rows : List ℕ) (rows_are : rows ≡ unpadded_part part r.alignments.unpack payload) where
      -- behind them the rows may be written
      pub part_allowed : IsAllowed (history d1).state (driver.Image (calls.TexSubImage part rows))
      part_allowed =
          own_may_behind (before ready.others) (Image the_command) payload ready.taken ready.may (subst (Made history grown d d1) same_first made) (driver.Image (calls.TexSubImage part rows)) []
          (λ o. ap (λ (bytes : List ℕ). driver.Image (calls.TexSubImage part bytes) ∷ []) (sym rows_are))

      -- and then it is done
      pub part_done : ((a b c : D) → grown a b → grown b c → grown a c) → {d2 : D} (x2 : Textures) → tables x2 ≡ tables x → covers x2 ≡ covers_first place rect → (result : Result Reply ExecStop)
          → ((lent : WireState → WireState) → ((w : WireState) → rows ≡ unpadded_part part (lent w).es.alignments.unpack payload) → Acts history grown (own_part the_command payload) lent (part_written part lent) d1 d2 result)
          → Acts history grown (means the_command payload) before (images_in x2 g r e) d d2 result
      part_done further {d2} x2 tables_are covers_are result acts =
          let written : covers x2 ≡ covers_first (part_place (tables x).objects part) (part_rect part) = covers_are ∙ (λ i. covers_first (here i) (is i)) in
          let unmarked : all_marked (marks g) (part_first (covers x) (part_place (tables x).objects part) (part_rect part)) ≡ marks g =
          part_unmarked (is_none (union_of (covers x (part_place (tables x).objects part)) (part_rect part))) (part_place (tables x).objects part) (marks g) in
          let same : part_written part behind ≡ images_in x2 g r e = λ i s. record (before s) { es = record (before s).es { textures = sym tables_are i }; covers = sym written i; marks = unmarked i } in
          ends_zeroed (Image the_command) payload further result made (λ s. ready.fair) (λ s. ready.taken) (λ s. same_first)
          (subst (λ (after : WireState → WireState). Acts history grown (own_means (Image the_command) payload) behind after d1 d2 result) same (acts behind (λ w. rows_are)))

-- a part goes by no code that is recorded
pub ready_whatever : (part : PartWords) (words : DataWords) (payload : List ℕ) (x : Textures) (g : Targets) (r : Raster) (e other : Errors) (d : DriverState) → IsReady (TexSubImage2D part words) payload (images_in x g r e) d → IsReady (TexSubImage2D part words) payload (images_in x g r other) d
ready_whatever part words payload x g r e other d ready =
    let same : (o : Oracle) → command_calls (images_in x g r other ready.others) (Image (TexSubImage2D part words)) payload o ≡ command_calls (images_in x g r e ready.others) (Image (TexSubImage2D part words)) payload o =
    λ o. ap (λ refused. calls_by refused (images_in x g r other ready.others) (Image (TexSubImage2D part words)) payload o) ready.taken
    ∙ sym (ap (λ refused. calls_by refused (images_in x g r e ready.others) (Image (TexSubImage2D part words)) payload o) ready.taken) in
    record { others = ready.others; fair = ready.fair; taken = ready.taken; given = ready.given; sound = ready.sound; storage = ready.storage; may = λ o es next more legal front. ready.may o es next more legal (front ∙ same (told es o)) }
