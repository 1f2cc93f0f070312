-- Images of textures, made whole one by one.
use Prim.Native.Nat.{suc}
use Rattle.std.proofs.Common.{◌≡◌, ◌<◌, ℕ, ◌+◌, ◌-◌, Bool, false, if◌then◌else◌, List, [], ◌∷◌, ◌++◌, length, get_or, drop, Option, None, Some, Result, Ok, Err, refl, sym, ap, ◌∙◌, subst, arith}
use Rattle.std.proofs.lemmas.List.{drop_more, map-append}
use Rattle.std.specs.Prelude.{map}
use Rattle.std.proofs.lemmas.Result.{err_from_is_err_and}
use Rattle.std.specs.Result.{IsErrAnd}
use Rattle.gl_base.specs.declared.gl_enum.GlEnum.{GlEnum}
use Rattle.gl_base.specs.declared.rect.Rect.{Rect}
use Rattle.gl_base.specs.Rects.{whole, rest_of}
use Rattle.gl_base.proofs.Rest.{rest_whole}
use Rattle.gl_plain.specs.declared.draws.UnitView.{UnitView}
use Rattle.gl_plain.specs.declared.driver_calls.DriverCall.{DriverCall}
use Rattle.gl_plain.specs.declared.targets.AnyImage.{AnyImage}
use Rattle.gl_plain.specs.declared.targets.AnyImage.TheVariants as image
use Rattle.gl_plain.specs.declared.textures.ImagePlace.{ImagePlace}
use Rattle.gl_plain.specs.declared.textures.LevelView.{LevelView}
use Rattle.gl_plain.specs.subjects.Completeness.{level_places, face_places, first_face}
use Rattle.gl_plain.specs.subjects.Draws.{sampled_number, sampled_texture, places_of, unit_places, places_from}
use Rattle.gl_plain.specs.subjects.Levels.{face_count}
use Rattle.gl_plain.specs.subjects.Images.{Covers, Marks, no_marks, rest_at, with_cover}
use Rattle.gl_plain.specs.subjects.Textures.{TextureObjects, TextureTables, level_at}
use Rattle.gl_plain.specs.Covers.{zero_calls, unwritten, filled, filled_by, zeroings, all_filled, all_marked}
use Rattle.gl_laws.proofs.Places.{at_place, cover_here, cover_elsewhere}
use Rattle.gl_driver.specs.History.{History}
use Rattle.gl_driver.specs.Performed.{Made, StoppedIn, MayMake}
use Rattle.gl_driver.specs.declared.stop.DriverStop.{DriverStop}
use Rattle.gl_driver.proofs.Laws.{Served-nothing}
use Rattle.gl_driver.proofs.Whole.{WholeSoFar, begins_whole, may_make_whole, makes_whole, stops_in_whole}
use Rattle.texture_mgr.specs.declared.textures.Textures.{Textures}
use Rattle.texture_mgr.specs.Tables.{tables, covers}
use Rattle.texture_mgr.specs.Covered.{IsWhole}
use Rattle.whole_images.specs.Whole.{zeroings_of, MakesWhole}

-- An image that is whole

nothing_left : (o : Option LevelView) (r : Rect) → IsWhole o r → rest_at o r ≡ []
nothing_left None r is = refl
nothing_left (Some v) r is = ap (rest_of v.width v.height) is ∙ rest_whole v.width v.height

stays_whole : (f : Covers) (place : ImagePlace) (o : Option LevelView) → IsWhole o (f place) → f ≡ filled_by f place o
stays_whole f place None is = refl
stays_whole f place (Some v) is =
    let r : Rect = whole v.width v.height in
    let same : (other : ImagePlace) → f other ≡ with_cover f place r other =
    λ other. at_place (λ (i : ImagePlace). f i ≡ with_cover f place r i) place other (is ∙ sym (cover_here f place r)) (λ apart. sym (cover_elsewhere f place r other apart)) in
    λ i other. same other i

-- it is left as it is
pub makes_already : {D : Type 0} {history : D → History} {grown : D → D → Type 0} → ((a : D) → grown a a) → (d : D) (x : Textures) (place : ImagePlace) → IsWhole (level_at (tables x).objects place) (covers x place) → MakesWhole history grown d d x x (place ∷ []) (Ok tt)
makes_already {D} {history} {grown} itself d x place is =
    let none : zeroings_of x (place ∷ []) ≡ [] = ap (λ (rs : List Rect). zero_calls place rs ++ []) (nothing_left (level_at (tables x).objects place) (covers x place) is) in
    record {
      calls = subst (Made history grown d d) (sym none) record { entries = []; served = Served-nothing itself d; all = refl; going = refl };
      tables_are = refl;
      covers_are = stays_whole (covers x) place (level_at (tables x).objects place) is;
    }

-- Images of textures among any images

-- they leave marks as they are
pub levels_marked : (m : Marks) (places : List ImagePlace) → all_marked m (map image.Level places) ≡ m
levels_marked m [] = refl
levels_marked m (place ∷ places) = levels_marked m places

-- and no mark says how they are zeroed
pub levels_zeroed : (t : TextureObjects) (f : Covers) (m m2 : Marks) (places : List ImagePlace) → zeroings t f m (map image.Level places) ≡ zeroings t f m2 (map image.Level places)
levels_zeroed t f m m2 [] = refl
levels_zeroed t f m m2 (place ∷ places) = ap (λ (calls : List DriverCall). zero_calls place (unwritten t f place) ++ calls) (levels_zeroed t (filled t f place) m m2 places)

-- The images of a loop

-- some of these images of textures were made whole since, and with those that are left they are all of them
pub record WholeIn {D : Type 0} (history : D → History) (grown : D → D → Type 0) (d d2 : D) (x x2 : Textures) (places left : List ImagePlace) : Type 0 where
  pub tables_are : tables x2 ≡ tables x
  pub whole : WholeSoFar history grown d d2 (tables x).objects (covers x) (covers x2) no_marks no_marks (map image.Level places) (map image.Level left)

module _ {D : Type 0} {history : D → History} {grown : D → D → Type 0} where
  -- nothing is to be made whole
  pub makes_none : ((a : D) → grown a a) → {d : D} {x : Textures} {places : List ImagePlace} → places ≡ [] → MakesWhole history grown d d x x places (Ok tt)
  makes_none itself {d} {x} {places} none = subst (λ (ps : List ImagePlace). MakesWhole history grown d d x x ps (Ok tt)) (sym none) record {
    calls = record { entries = []; served = Served-nothing itself d; all = refl; going = refl };
    tables_are = refl;
    covers_are = refl;
  }

  module _ {x : Textures} {places : List ImagePlace} where
    pub begins_in : {left : List ImagePlace} → places ≡ left → ((a : D) → grown a a) → (d : D) → WholeIn history grown d d x x places left
    begins_in all itself d = subst (λ (ps : List ImagePlace). WholeIn history grown d d x x places ps) all record { tables_are = refl; whole = begins_whole itself d }

    module _ {d d1 : D} {x1 : Textures} {all : List ImagePlace} (first left : List ImagePlace) (next : all ≡ first ++ left) (w : WholeIn history grown d d1 x x1 places all) where
      split : WholeSoFar history grown d d1 (tables x).objects (covers x) (covers x1) no_marks no_marks (map image.Level places) (map image.Level first ++ map image.Level left)
      split = subst (λ (is : List AnyImage). WholeSoFar history grown d d1 (tables x).objects (covers x) (covers x1) no_marks no_marks (map image.Level places) is) (ap (map image.Level) next ∙ map-append image.Level first left) w.whole

      -- the tables are those at first
      same_calls : zeroings (tables x).objects (covers x1) no_marks (map image.Level first) ≡ zeroings_of x1 first
      same_calls = ap (λ (t : TextureTables). zeroings t.objects (covers x1) no_marks (map image.Level first)) (sym w.tables_are)

      -- the next may be made whole
      pub may_in : MayMake (history d).state (zeroings_of x places) → MayMake (history d1).state (zeroings_of x1 first)
      may_in may = subst (MayMake (history d1).state) same_calls (may_make_whole (map image.Level first) (map image.Level left) split may)

      -- they were
      pub makes_in : ((a b c : D) → grown a b → grown b c → grown a c) → {d2 : D} {x2 : Textures} → MakesWhole history grown d1 d2 x1 x2 first (Ok tt) → WholeIn history grown d d2 x x2 places left
      makes_in further {d2} {x2} made = record {
        tables_are = made.tables_are ∙ w.tables_are;
        whole = makes_whole (map image.Level first) (map image.Level left) split further (subst (Made history grown d1 d2) (sym same_calls) made.calls)
            (made.covers_are ∙ ap (λ (t : TextureTables). all_filled t.objects (covers x1) (map image.Level first)) w.tables_are) (sym (levels_marked no_marks first));
      }

      -- the driver stopped there, and `?` passes its stop on
      pub stops_in : ((a b c : D) → grown a b → grown b c → grown a c) → {d2 : D} {x2 : Textures} {stop : DriverStop} (result : Result (Unit {0}) DriverStop) → IsErrAnd result (λ e. e ≡ stop) → MakesWhole history grown d1 d2 x1 x2 first (Err stop) → MakesWhole history grown d d2 x x2 places result
      stops_in further {d2} {x2} {stop} result passed stopped =
          let p = err_from_is_err_and result passed in
          let at_first : MakesWhole history grown d d2 x x2 places (Err stop) = record {
            calls = stops_in_whole (map image.Level first) (map image.Level left) split further (subst (λ (calls : List DriverCall). StoppedIn history grown d1 d2 calls stop) (sym same_calls) stopped.calls);
            tables_are = tt;
            covers_are = tt;
          } in
          rw (p.1, p.2) at_first

-- The next images

one_less : (i n : ℕ) → i < n → n - i ≡ suc (n - (i + 1))
one_less i n h = omega arith

module _ (number : ℕ) where
  -- of the levels that are left
  pub next_level : (face : GlEnum) (level levels : ℕ) → level < levels
      → level_places number face level (levels - level) ≡ (record { texture = number; face = face; level = level } ∷ []) ++ level_places number face (level + 1) (levels - (level + 1))
  next_level face level levels h = ap (level_places number face level) (one_less level levels h)

  -- of the faces that are left
  pub next_face : (levels face last : ℕ) → face < last → face_places number levels face (last - face) ≡ level_places number (record { 0 = face }) 0 levels ++ face_places number levels (face + 1) (last - (face + 1))
  next_face levels face last h = ap (face_places number levels face) (one_less face last h)

  -- of all faces
  pub all_faces : (levels : ℕ) (cube : Bool) (first last : ℕ) → first ≡ (first_face cube).0 → last ≡ (first_face cube).0 + face_count cube → face_places number levels (first_face cube).0 (face_count cube) ≡ face_places number levels first (last - first)
  all_faces levels cube first last begins ends =
      let count : face_count cube ≡ last - first = omega arith in (λ i. face_places number levels (sym begins i) (count i))
