-- The zeroings of a list of images: each is allowed, none is seen, and after them the images are written.
use Rattle.std.proofs.Common.{◌≡◌, ◌⊎◌, inl, inr, ℕ, ◌<◌, ◌==◌, Bool, true, false, if◌then◌else◌, List, [], ◌∷◌, ◌++◌, Option, None, Some, IsSome, refl, sym, ap, ◌∙◌, arith, subst}
use Rattle.std.specs.Prelude.{map}
use Rattle.std.specs.List.{AllByRecursion}
use Rattle.gl_base.specs.declared.rect.Rect.{Rect}
use Rattle.gl_base.specs.Rects.{has, IsIn, whole, rest_of, Disjoint, AllInside}
use Rattle.gl_base.proofs.Rects.{whole_has}
use Rattle.gl_base.proofs.Rest.{rest_is}
use Rattle.gl_plain.specs.declared.driver_calls.Answer.{Answer}
use Rattle.gl_plain.specs.declared.driver_calls.DriverCall.{DriverCall}
use Rattle.gl_plain.specs.declared.driver_calls.DriverCall.TheVariants as driver
use Rattle.gl_plain.specs.declared.driver_calls.DriverEntry.{DriverEntry}
use Rattle.gl_plain.specs.declared.driver_calls.ImageDriver.TheVariants as calls
use Rattle.gl_plain.specs.declared.targets.AnyImage.{AnyImage}
use Rattle.gl_plain.specs.declared.targets.AnyImage.TheVariants as any
use Rattle.gl_plain.specs.declared.textures.ImagePlace.{ImagePlace}
use Rattle.gl_plain.specs.declared.textures.LevelView.{LevelView}
use Rattle.gl_plain.specs.subjects.Textures.{TextureObjects, level_at}
use Rattle.gl_plain.specs.subjects.Targets.{Renderbuffers, renderbuffer_at}
use Rattle.gl_plain.specs.subjects.Images.{Pixel, Undefined, Zero, Contents, Covers, Marks, AreWritten, IsCovered, IsMarked, IsWritten, IsZeroLevelAllowed, is_defined, is_place, read_contents, rest_at, with_mark, with_storage}
use Rattle.gl_plain.specs.Agreement.{ImagesAgree}
use Rattle.gl_plain.specs.Covers.{all_filled, all_marked, filled, filled_by, unwritten, zero_calls, zero_storage, zeroings}
use Rattle.gl_plain.specs.Oracle.{Oracle}
use Rattle.gl_plain.specs.State.{DriverState}
use Rattle.gl_plain.specs.driver.Allowed.{IsAllowed}
use Rattle.gl_plain.specs.driver.Answers.{told, told_call}
use Rattle.gl_plain.specs.driver.Effect.{driver_after}
use Rattle.gl_plain.specs.Journal.{entry_after, state_after, records_in}
use Rattle.gl_plain.specs.Parts.{calls_in}
use Rattle.gl_plain.specs.Records.{Record, call_records}
use Rattle.gl_laws.proofs.Lists.{head_is, tail_is}
use Rattle.gl_laws.proofs.Places.{at_number, at_place, cover_here, cover_elsewhere, mark_here, mark_elsewhere}
use Rattle.gl_laws.proofs.Pixels.{AllUndefined, read_zeroed, read_zeroed_storage, rest_undefined, storage_elsewhere, storage_here, undefined_of, whole_defined, zeroed_elsewhere, zeroed_rect, zeroed_rects, zeroed_screen, zeroed_storage, zeroed_storages}

-- Entries of two lists of calls

-- the entries are all of the first calls, and some more
abbrev Beyond : (List DriverEntry → Type 0) → List DriverCall → List DriverEntry → Type 0
Beyond Rest first es = (xs ys : List DriverEntry) × (es ≡ xs ++ ys) × (calls_in xs ≡ first) × Rest ys

-- or the first calls go on behind them
abbrev Split : (List DriverCall → List DriverCall) → (List DriverEntry → Type 0) → List DriverCall → List DriverEntry → Type 0
Split more Rest first es = ((left : List DriverCall) × (calls_in es ++ more left ≡ first)) ⊎ Beyond Rest first es

beyond_cons : (Rest : List DriverEntry → Type 0) (first : List DriverCall) (es : List DriverEntry) (c : DriverCall) (e : DriverEntry) → e.call ≡ c → Beyond Rest first es → Beyond Rest (c ∷ first) (e ∷ es)
beyond_cons Rest first es c e is p = (e ∷ p.0, p.1, ap (λ (gs : List DriverEntry). e ∷ gs) p.2, λ i. is i ∷ p.3 i, p.4)

split_cons : (more : List DriverCall → List DriverCall) (Rest : List DriverEntry → Type 0) (first : List DriverCall) (es : List DriverEntry) (c : DriverCall) (e : DriverEntry) → e.call ≡ c → Split more Rest first es → Split more Rest (c ∷ first) (e ∷ es)
split_cons more Rest first es c e is (inl p) = inl (p.0, λ i. is i ∷ p.1 i)
split_cons more Rest first es c e is (inr p) = inr (beyond_cons Rest first es c e is p)

-- where a list of calls is made of two, its entries are of the first alone, with a next call in it, or they are all of the first and some of the second
pub front_of_both : (first second : List DriverCall) (es : List DriverEntry) (next : DriverCall) (more : List DriverCall) → calls_in es ++ next ∷ more ≡ first ++ second
    → ((left : List DriverCall) × (calls_in es ++ next ∷ left ≡ first)) ⊎ ((xs ys : List DriverEntry) × (es ≡ xs ++ ys) × (calls_in xs ≡ first) × (calls_in ys ++ next ∷ more ≡ second))
front_of_both [] second es next more h = inr ([], es, refl, refl, h)
front_of_both (c ∷ first) second [] next more h = inl (first, λ i. head_is next c more (first ++ second) h i ∷ first)
front_of_both (c ∷ first) second (e ∷ es) next more h = split_cons (λ left. next ∷ left) (λ ys. calls_in ys ++ next ∷ more ≡ second) first es c e
    (head_is e.call c (calls_in es ++ next ∷ more) (first ++ second) h) (front_of_both first second es next more (tail_is e.call c (calls_in es ++ next ∷ more) (first ++ second) h))

-- the same of an unfinished list
pub front_of_two : (first second : List DriverCall) (es : List DriverEntry) (more : List DriverCall) → calls_in es ++ more ≡ first ++ second
    → ((left : List DriverCall) × (calls_in es ++ left ≡ first)) ⊎ ((xs ys : List DriverEntry) × (es ≡ xs ++ ys) × (calls_in xs ≡ first) × (calls_in ys ++ more ≡ second))
front_of_two [] second es more h = inr ([], es, refl, refl, h)
front_of_two (c ∷ first) second [] more h = inl (c ∷ first, refl)
front_of_two (c ∷ first) second (e ∷ es) more h = split_cons (λ left. left) (λ ys. calls_in ys ++ more ≡ second) first es c e
    (head_is e.call c (calls_in es ++ more) (first ++ second) h) (front_of_two first second es more (tail_is e.call c (calls_in es ++ more) (first ++ second) h))

-- all entries of both
pub all_of_both : (first second : List DriverCall) (es : List DriverEntry) → calls_in es ≡ first ++ second → (xs ys : List DriverEntry) × (es ≡ xs ++ ys) × (calls_in xs ≡ first) × (calls_in ys ≡ second)
all_of_both [] second es h = ([], es, refl, refl, h)
all_of_both (c ∷ first) second [] h = absurd (cc)
all_of_both (c ∷ first) second (e ∷ es) h = beyond_cons (λ ys. calls_in ys ≡ second) first es c e
    (head_is e.call c (calls_in es) (first ++ second) h) (all_of_both first second es (tail_is e.call c (calls_in es) (first ++ second) h))

-- Calls that zero

abbrev pub IsZeroCall : DriverCall → Type 0
IsZeroCall (driver.Image (calls.ZeroLevel place r)) = Unit {0}
IsZeroCall (driver.Image (calls.ZeroRenderbuffer number)) = Unit {0}
IsZeroCall call = ⊥

-- what they leave of the contents
abbrev pub painted_one : Contents → DriverCall → Contents
painted_one k (driver.Image (calls.ZeroLevel place r)) = zeroed_rect k place r
painted_one k (driver.Image (calls.ZeroRenderbuffer number)) = zeroed_storage k number
painted_one k call = k

abbrev pub painted : Contents → List DriverCall → Contents
painted k [] = k
painted k (c ∷ cs) = painted (painted_one k c) cs

abbrev pub with_contents : DriverState → Contents → DriverState
with_contents d k = record d { contents = k }

pub zero_after : (d : DriverState) (c : DriverCall) (answer : Answer) → IsZeroCall c → driver_after d c answer ≡ with_contents d (painted_one d.contents c)
zero_after d (driver.Image (calls.ZeroLevel place r)) answer h = refl
zero_after d (driver.Image (calls.ZeroRenderbuffer number)) answer h = refl
zero_after d c answer h = absurd h

zero_told : (c : DriverCall) (answer : Answer) (o : Oracle) → IsZeroCall c → told_call c answer o ≡ o
zero_told (driver.Image (calls.ZeroLevel place r)) answer o h = refl
zero_told (driver.Image (calls.ZeroRenderbuffer number)) answer o h = refl
zero_told c answer o h = absurd h

zero_records : (d : DriverState) (c : DriverCall) (answer : Answer) → IsZeroCall c → call_records d c answer ≡ []
zero_records d (driver.Image (calls.ZeroLevel place r)) answer h = refl
zero_records d (driver.Image (calls.ZeroRenderbuffer number)) answer h = refl
zero_records d c answer h = absurd h

zero_allowed : (d : DriverState) (k : Contents) (c : DriverCall) → IsZeroCall c → IsAllowed d c → IsAllowed (with_contents d k) c
zero_allowed d k (driver.Image (calls.ZeroLevel place r)) h allowed = allowed
zero_allowed d k (driver.Image (calls.ZeroRenderbuffer number)) h allowed = allowed
zero_allowed d k c h allowed = absurd h

-- what such calls leave, tell and record
zeros_after : (d : DriverState) (es : List DriverEntry) → AllByRecursion IsZeroCall (calls_in es) → state_after d es ≡ with_contents d (painted d.contents (calls_in es))
zeros_after d [] h = refl
zeros_after d (e ∷ es) h = ap (λ (s : DriverState). state_after s es) (zero_after d e.call e.answer h.0) ∙ zeros_after (with_contents d (painted_one d.contents e.call)) es h.1

zeros_told : (es : List DriverEntry) (o : Oracle) → AllByRecursion IsZeroCall (calls_in es) → told es o ≡ o
zeros_told [] o h = refl
zeros_told (e ∷ es) o h = zero_told e.call e.answer (told es o) h.0 ∙ zeros_told es o h.1

zeros_records : (d : DriverState) (es : List DriverEntry) → AllByRecursion IsZeroCall (calls_in es) → records_in d es ≡ []
zeros_records d [] h = refl
zeros_records d (e ∷ es) h = ap (λ (r : List Record). r ++ records_in (entry_after d e) es) (zero_records d e.call e.answer h.0) ∙ zeros_records (entry_after d e) es h.1

-- What holds of each call

module _ (P : DriverCall → Type 0) where
  each_append : (xs ys : List DriverCall) → AllByRecursion P xs → AllByRecursion P ys → AllByRecursion P (xs ++ ys)
  each_append [] ys h g = g
  each_append (x ∷ xs) ys h g = (h.0, each_append xs ys h.1 g)

  each_first : (xs ys : List DriverCall) → AllByRecursion P (xs ++ ys) → AllByRecursion P xs
  each_first [] ys h = tt
  each_first (x ∷ xs) ys h = (h.0, each_first xs ys h.1)

  next_of : (xs : List DriverCall) (next : DriverCall) (more : List DriverCall) → AllByRecursion P (xs ++ next ∷ more) → P next
  next_of [] next more h = h.0
  next_of (x ∷ xs) next more h = next_of xs next more h.1

calls_zero : (place : ImagePlace) (rs : List Rect) → AllByRecursion IsZeroCall (zero_calls place rs)
calls_zero place [] = tt
calls_zero place (r ∷ rs) = (tt, calls_zero place rs)

storage_zero : (number : ℕ) (is_written : Bool) → AllByRecursion IsZeroCall (zero_storage number is_written)
storage_zero number true = tt
storage_zero number false = (tt, tt)

-- each zeroing of images is such a call
zeroings_zero : (t : TextureObjects) (f : Covers) (m : Marks) (xs : List AnyImage) → AllByRecursion IsZeroCall (zeroings t f m xs)
zeroings_zero t f m [] = tt
zeroings_zero t f m (any.Level place ∷ xs) = each_append IsZeroCall (zero_calls place (unwritten t f place)) (zeroings t (filled t f place) m xs)
    (calls_zero place (unwritten t f place)) (zeroings_zero t (filled t f place) m xs)
zeroings_zero t f m (any.Renderbuffer number ∷ xs) = each_append IsZeroCall (zero_storage number (m number)) (zeroings t f (with_mark m number true) xs)
    (storage_zero number (m number)) (zeroings_zero t f (with_mark m number true) xs)

-- so is each of some first ones
zeroings_first : (t : TextureObjects) (f : Covers) (m : Marks) (xs : List AnyImage) (es : List DriverEntry) (more : List DriverCall) → calls_in es ++ more ≡ zeroings t f m xs → AllByRecursion IsZeroCall (calls_in es)
zeroings_first t f m xs es more h = each_first IsZeroCall (calls_in es) more (subst (AllByRecursion IsZeroCall) (sym h) (zeroings_zero t f m xs))

-- some first ones record nothing, and are told nothing
pub zeroings_record_nothing : (t : TextureObjects) (f : Covers) (m : Marks) (d : DriverState) (xs : List AnyImage) (es : List DriverEntry) (more : List DriverCall) → calls_in es ++ more ≡ zeroings t f m xs → records_in d es ≡ []
zeroings_record_nothing t f m d xs es more h = zeros_records d es (zeroings_first t f m xs es more h)

pub zeroings_told : (t : TextureObjects) (f : Covers) (m : Marks) (xs : List AnyImage) (es : List DriverEntry) (more : List DriverCall) → calls_in es ++ more ≡ zeroings t f m xs → (o : Oracle) → told es o ≡ o
zeroings_told t f m xs es more h o = zeros_told es o (zeroings_first t f m xs es more h)

-- Agreement of images

-- the image has pixels
abbrev pub HasPixels : Option LevelView → Type 0
HasPixels None = ⊥
HasPixels (Some v) = (0 < v.width) × (0 < v.height)

-- a renderbuffer is there, and has pixels
abbrev pub IsStored : Renderbuffers → AnyImage → Type 0
IsStored r (any.Level place) = Unit {0}
IsStored r (any.Renderbuffer number) = HasPixels (renderbuffer_at r number)

-- so does each of these
abbrev pub AreStored : Renderbuffers → List AnyImage → Type 0
AreStored r xs = AllByRecursion (IsStored r) xs

-- levels are no renderbuffers
pub levels_stored : (r : Renderbuffers) (places : List ImagePlace) → AreStored r (map any.Level places)
levels_stored r [] = tt
levels_stored r (place ∷ places) = (tt, levels_stored r places)

pub stored_append : (r : Renderbuffers) (xs ys : List AnyImage) → AreStored r xs → AreStored r ys → AreStored r (xs ++ ys)
stored_append r [] ys h g = g
stored_append r (x ∷ xs) ys h g = (h.0, stored_append r xs ys h.1 g)

pub stored_first : (r : Renderbuffers) (xs more : List AnyImage) → AreStored r (xs ++ more) → AreStored r xs
stored_first r [] more h = tt
stored_first r (x ∷ xs) more h = (h.0, stored_first r xs more h.1)

pub stored_rest : (r : Renderbuffers) (xs more : List AnyImage) → AreStored r (xs ++ more) → AreStored r more
stored_rest r [] more h = h
stored_rest r (x ∷ xs) more h = stored_rest r xs more h.1

pub stored_if : (r : Renderbuffers) (b : Bool) (xs : List AnyImage) → AreStored r xs → AreStored r (if b then xs else [])
stored_if r true xs h = h
stored_if r false xs h = tt

-- One image of a texture

pub painted-append : (k : Contents) (xs ys : List DriverCall) → painted k (xs ++ ys) ≡ painted (painted k xs) ys
painted-append k [] ys = refl
painted-append k (c ∷ cs) ys = painted-append (painted_one k c) cs ys

pub painted_of : (k : Contents) (place : ImagePlace) (rs : List Rect) → painted k (zero_calls place rs) ≡ zeroed_rects k place rs
painted_of k place [] = refl
painted_of k place (r ∷ rs) = painted_of (zeroed_rect k place r) place rs

pub filled_elsewhere : (f : Covers) (place : ImagePlace) (o : Option LevelView) (other : ImagePlace) → is_place place other ≡ false → filled_by f place o other ≡ f other
filled_elsewhere f place None other e = refl
filled_elsewhere f place (Some v) other e = cover_elsewhere f place (whole v.width v.height) other e

module _ (f : Covers) (k : Contents) (place : ImagePlace) where
  -- the contents behind the zeroings of an image
  abbrev pub filled_contents : TextureObjects → Contents
  filled_contents t = zeroed_rects k place (unwritten t f place)

  undefined_by : (o : Option LevelView) → IsCovered o (f place) (k.images place) → AllUndefined k place (rest_at o (f place))
  undefined_by None c = λ x y e. absurd (cc)
  undefined_by (Some v) c = rest_undefined k place v (f place) c

  disjoint_by : (o : Option LevelView) → IsCovered o (f place) (k.images place) → Disjoint (rest_at o (f place))
  disjoint_by None c = tt
  disjoint_by (Some v) c = (rest_is v.width v.height (f place) c.inside).disjoint

  filled_here : (o : Option LevelView) → IsCovered o (f place) (k.images place) → IsCovered o (filled_by f place o place) ((zeroed_rects k place (rest_at o (f place))).images place)
  filled_here None c = c
  filled_here (Some v) c = record {
    inside = subst (λ (r : Rect). IsIn r v.width v.height) (sym (cover_here f place (whole v.width v.height))) (omega arith, omega arith);
    exact = λ x y xw yh. whole_defined k place v (f place) c x y xw yh ∙ sym (ap (λ (r : Rect). has r x y) (cover_here f place (whole v.width v.height)) ∙ whole_has v.width v.height x y xw yh);
  }

  module _ (t : TextureObjects) (r : Renderbuffers) (m : Marks) (agree : ImagesAgree t r f m k) where
    pub unwritten_undefined : AllUndefined k place (unwritten t f place)
    unwritten_undefined = undefined_by (level_at t place) (agree.covers place)

    pub unwritten_disjoint : Disjoint (unwritten t f place)
    unwritten_disjoint = disjoint_by (level_at t place) (agree.covers place)

    read_filled : read_contents (filled_contents t) ≡ read_contents k
    read_filled = read_zeroed k place (unwritten t f place) unwritten_disjoint unwritten_undefined

    covered_filled : (other : ImagePlace) → IsCovered (level_at t other) (filled t f place other) ((filled_contents t).images other)
    covered_filled other = at_place (λ (i : ImagePlace). IsCovered (level_at t i) (filled t f place i) ((filled_contents t).images i)) place other
        (filled_here (level_at t place) (agree.covers place))
        (λ e. subst (λ (r : Rect). IsCovered (level_at t other) r ((filled_contents t).images other)) (sym (filled_elsewhere f place (level_at t place) other e))
        (subst (λ (px : ℕ → ℕ → Pixel). IsCovered (level_at t other) (f other) px) (sym (zeroed_elsewhere k place (unwritten t f place) other e)) (agree.covers other)))

    -- the written rectangles are again just the written places
    pub agree_filled : ImagesAgree t r (filled t f place) m (filled_contents t)
    agree_filled = record {
      covers = covered_filled;
      marks = λ n. subst (λ (px : ℕ → ℕ → Pixel). IsMarked (renderbuffer_at r n) (m n) px) (sym (ap (λ pixels. pixels n) (zeroed_storages k place (unwritten t f place)))) (agree.marks n);
      screen = λ i x y. ap (λ screen. is_defined (screen i x y)) (zeroed_screen k place (unwritten t f place)) ∙ agree.screen i x y;
    }

-- One renderbuffer

-- what is so of each mark is so of all where one changes, with its storage or without
module _ (P : Option LevelView → Bool → (ℕ → ℕ → Pixel) → Type 0) (r after : Renderbuffers) (m : Marks) (k : Contents) (number : ℕ) (is_written : Bool) where
  pub marks_stored : (new : ℕ → ℕ → Pixel) → ((n : ℕ) → P (renderbuffer_at r n) (m n) (k.renderbuffers n)) → ((n : ℕ) → (number == n) ≡ false → renderbuffer_at after n ≡ renderbuffer_at r n) → P (renderbuffer_at after number) is_written new
      → (n : ℕ) → P (renderbuffer_at after n) (with_mark m number is_written n) ((with_storage k number new).renderbuffers n)
  marks_stored new before same here n = at_number (λ (i : ℕ). P (renderbuffer_at after i) (with_mark m number is_written i) ((with_storage k number new).renderbuffers i)) number n
      (subst (λ (b : Bool). P (renderbuffer_at after number) b ((with_storage k number new).renderbuffers number)) (sym (mark_here m number is_written))
      (subst (λ (px : ℕ → ℕ → Pixel). P (renderbuffer_at after number) is_written px) (sym (storage_here k number new)) here))
      (λ e. subst (λ (b : Bool). P (renderbuffer_at after n) b ((with_storage k number new).renderbuffers n)) (sym (mark_elsewhere m number is_written n e))
      (subst (λ (px : ℕ → ℕ → Pixel). P (renderbuffer_at after n) (m n) px) (sym (storage_elsewhere k number new n e))
      (subst (λ (o : Option LevelView). P o (m n) (k.renderbuffers n)) (sym (same n e)) (before n))))

mark_as_is : (P : Option LevelView → Bool → (ℕ → ℕ → Pixel) → Type 0) (r : Renderbuffers) (m : Marks) (k : Contents) (number : ℕ) → m number ≡ true → ((n : ℕ) → P (renderbuffer_at r n) (m n) (k.renderbuffers n)) → (n : ℕ) → P (renderbuffer_at r n) (with_mark m number true n) (k.renderbuffers n)
mark_as_is P r m k number is before n = at_number (λ (i : ℕ). P (renderbuffer_at r i) (with_mark m number true i) (k.renderbuffers i)) number n
    (subst (λ (b : Bool). P (renderbuffer_at r number) b (k.renderbuffers number)) (is ∙ sym (mark_here m number true)) (before number))
    (λ e. subst (λ (b : Bool). P (renderbuffer_at r n) b (k.renderbuffers n)) (sym (mark_elsewhere m number true n e)) (before n))

-- the contents behind the zeroing of a renderbuffer, by its mark
abbrev pub stored_by : Contents → ℕ → Bool → Contents
stored_by k number true = k
stored_by k number false = zeroed_storage k number

abbrev pub stored_contents : Marks → Contents → ℕ → Contents
stored_contents m k number = stored_by k number (m number)

pub painted_storage : (k : Contents) (number : ℕ) (is_written : Bool) → painted k (zero_storage number is_written) ≡ stored_by k number is_written
painted_storage k number true = refl
painted_storage k number false = refl

zero_marked : (o : Option LevelView) → HasPixels o → IsMarked o true (λ x y. Zero)
zero_marked None h = absurd h
zero_marked (Some v) h = λ x y. refl

-- no place of a renderbuffer was written of which the mark says so
pub storage_undefined : (o : Option LevelView) (mark : Bool) (px : ℕ → ℕ → Pixel) → HasPixels o → IsMarked o mark px → mark ≡ false → (x y : ℕ) → px x y ≡ Undefined
storage_undefined None mark px there marked none = absurd there
storage_undefined (Some v) mark px there marked none = λ x y. undefined_of (px x y) (marked x y ∙ none)

module _ (r : Renderbuffers) (m : Marks) (k : Contents) (number : ℕ) (there : HasPixels (renderbuffer_at r number)) where
  module _ (t : TextureObjects) (f : Covers) (agree : ImagesAgree t r f m k) where
    stored_agree : (b : Bool) → m number ≡ b → ImagesAgree t r f (with_mark m number true) (stored_by k number b)
    stored_agree true is = record { covers = agree.covers; marks = mark_as_is IsMarked r m k number is agree.marks; screen = agree.screen }
    stored_agree false is = record {
      covers = agree.covers;
      marks = marks_stored IsMarked r r m k number true (λ x y. Zero) agree.marks (λ n e. refl) (zero_marked (renderbuffer_at r number) there);
      screen = agree.screen;
    }

    -- the marks are again those of the storage
    pub agree_stored : ImagesAgree t r f (with_mark m number true) (stored_contents m k number)
    agree_stored = stored_agree (m number) refl

    stored_reads : (b : Bool) → m number ≡ b → read_contents (stored_by k number b) ≡ read_contents k
    stored_reads true is = refl
    stored_reads false is = read_zeroed_storage k number (storage_undefined (renderbuffer_at r number) (m number) (k.renderbuffers number) there (agree.marks number) is)

    read_stored : read_contents (stored_contents m k number) ≡ read_contents k
    read_stored = stored_reads (m number) refl

-- the rectangle is the whole of an image that is there
abbrev pub IsWholeOf : Option LevelView → Rect → Type 0
IsWholeOf None r = Unit {0}
IsWholeOf (Some v) r = r ≡ whole v.width v.height

filled_by_whole : (f : Covers) (place : ImagePlace) (o : Option LevelView) → IsWholeOf o (filled_by f place o place)
filled_by_whole f place None = tt
filled_by_whole f place (Some v) = cover_here f place (whole v.width v.height)

written_by : (o : Option LevelView) (r : Rect) (px : ℕ → ℕ → Pixel) → IsCovered o r px → IsWholeOf o r → IsWritten o px
written_by None r px c is = tt
written_by (Some v) r px c is = λ x y xw yh. c.exact x y xw yh ∙ ap (λ (r : Rect). has r x y) is ∙ whole_has v.width v.height x y xw yh

marked_written : (o : Option LevelView) (mark : Bool) (px : ℕ → ℕ → Pixel) → IsMarked o mark px → mark ≡ true → IsWritten o px
marked_written None mark px h is = tt
marked_written (Some v) mark px h is = λ x y xw yh. h x y ∙ is

-- A list of images

-- what is marked stays marked
pub still_marked : (m : Marks) (number other : ℕ) → m other ≡ true → with_mark m number true other ≡ true
still_marked m number other is = at_number (λ (n : ℕ). m n ≡ true → with_mark m number true n ≡ true) number other (λ marked. mark_here m number true) (λ e marked. mark_elsewhere m number true other e ∙ marked) is

mark_kept : (m : Marks) (xs : List AnyImage) (other : ℕ) → m other ≡ true → all_marked m xs other ≡ true
mark_kept m [] other is = is
mark_kept m (any.Level place ∷ xs) other is = mark_kept m xs other is
mark_kept m (any.Renderbuffer number ∷ xs) other is = mark_kept (with_mark m number true) xs other (still_marked m number other is)

module _ (t : TextureObjects) where
  pub filled_whole : (f : Covers) (place : ImagePlace) → IsWholeOf (level_at t place) (filled t f place place)
  filled_whole f place = filled_by_whole f place (level_at t place)

  -- what is whole stays whole
  pub still_whole : (f : Covers) (place other : ImagePlace) → IsWholeOf (level_at t other) (f other) → IsWholeOf (level_at t other) (filled t f place other)
  still_whole f place other is = at_place (λ (i : ImagePlace). IsWholeOf (level_at t i) (f i) → IsWholeOf (level_at t i) (filled t f place i)) place other
      (λ whole_is. filled_whole f place) (λ e whole_is. subst (IsWholeOf (level_at t other)) (sym (filled_elsewhere f place (level_at t place) other e)) whole_is) is

  pub whole_kept : (f : Covers) (xs : List AnyImage) (other : ImagePlace) → IsWholeOf (level_at t other) (f other) → IsWholeOf (level_at t other) (all_filled t f xs other)
  whole_kept f [] other is = is
  whole_kept f (any.Level place ∷ xs) other is = whole_kept (filled t f place) xs other (still_whole f place other is)
  whole_kept f (any.Renderbuffer number ∷ xs) other is = whole_kept f xs other is

  pub painted_filled : (f : Covers) (m : Marks) (k : Contents) (place : ImagePlace) (xs : List AnyImage) → painted k (zeroings t f m (any.Level place ∷ xs)) ≡ painted (filled_contents f k place t) (zeroings t (filled t f place) m xs)
  painted_filled f m k place xs = painted-append k (zero_calls place (unwritten t f place)) (zeroings t (filled t f place) m xs)
      ∙ ap (λ (g : Contents). painted g (zeroings t (filled t f place) m xs)) (painted_of k place (unwritten t f place))

  pub painted_stored : (f : Covers) (m : Marks) (k : Contents) (number : ℕ) (xs : List AnyImage) → painted k (zeroings t f m (any.Renderbuffer number ∷ xs)) ≡ painted (stored_contents m k number) (zeroings t f (with_mark m number true) xs)
  painted_stored f m k number xs = painted-append k (zero_storage number (m number)) (zeroings t f (with_mark m number true) xs)
      ∙ ap (λ (g : Contents). painted g (zeroings t f (with_mark m number true) xs)) (painted_storage k number (m number))

  module _ (r : Renderbuffers) where
    agree_all : (f : Covers) (m : Marks) (k : Contents) (xs : List AnyImage) → AreStored r xs → ImagesAgree t r f m k → ImagesAgree t r (all_filled t f xs) (all_marked m xs) (painted k (zeroings t f m xs))
    agree_all f m k [] there agree = agree
    agree_all f m k (any.Level place ∷ xs) there agree = subst (ImagesAgree t r (all_filled t (filled t f place) xs) (all_marked m xs)) (sym (painted_filled f m k place xs))
        (agree_all (filled t f place) m (filled_contents f k place t) xs there.1 (agree_filled f k place t r m agree))
    agree_all f m k (any.Renderbuffer number ∷ xs) there agree = subst (ImagesAgree t r (all_filled t f xs) (all_marked (with_mark m number true) xs)) (sym (painted_stored f m k number xs))
        (agree_all f (with_mark m number true) (stored_contents m k number) xs there.1 (agree_stored r m k number there.0 t f agree))

    read_all : (f : Covers) (m : Marks) (k : Contents) (xs : List AnyImage) → AreStored r xs → ImagesAgree t r f m k → read_contents (painted k (zeroings t f m xs)) ≡ read_contents k
    read_all f m k [] there agree = refl
    read_all f m k (any.Level place ∷ xs) there agree =
        ap read_contents (painted_filled f m k place xs) ∙ read_all (filled t f place) m (filled_contents f k place t) xs there.1 (agree_filled f k place t r m agree) ∙ read_filled f k place t r m agree
    read_all f m k (any.Renderbuffer number ∷ xs) there agree =
        ap read_contents (painted_stored f m k number xs) ∙ read_all f (with_mark m number true) (stored_contents m k number) xs there.1 (agree_stored r m k number there.0 t f agree) ∙ read_stored r m k number there.0 t f agree

    -- each of the images is written
    written_in : (f : Covers) (m : Marks) (k : Contents) (xs : List AnyImage) → ImagesAgree t r (all_filled t f xs) (all_marked m xs) k → AreWritten t r k xs
    written_in f m k [] agree = tt
    written_in f m k (any.Level place ∷ xs) agree = (
      written_by (level_at t place) (all_filled t f (any.Level place ∷ xs) place) (k.images place) (agree.covers place) (whole_kept (filled t f place) xs place (filled_whole f place)),
      written_in (filled t f place) m k xs agree,
    )
    written_in f m k (any.Renderbuffer number ∷ xs) agree = (
      marked_written (renderbuffer_at r number) (all_marked m (any.Renderbuffer number ∷ xs) number) (k.renderbuffers number) (agree.marks number) (mark_kept (with_mark m number true) xs number (mark_here m number true)),
      written_in f (with_mark m number true) k xs agree,
    )

-- a zeroing needs an image that is there
rects_allowed : (d : DriverState) (place : ImagePlace) (v : LevelView) (rs : List Rect) → level_at d.tables.textures.objects place ≡ Some v → AllInside v.width v.height rs → AllByRecursion (IsAllowed d) (zero_calls place rs)
rects_allowed d place v [] is inside = tt
rects_allowed d place v (r ∷ rs) is inside = (
  subst (λ (o : Option LevelView). IsZeroLevelAllowed o r) (sym is) (record { inside = inside.0; columns = inside.1; rows = inside.2 }),
  rects_allowed d place v rs is inside.3,
)

rest_allowed : (d : DriverState) (place : ImagePlace) (r : Rect) (px : ℕ → ℕ → Pixel) (o : Option LevelView) → level_at d.tables.textures.objects place ≡ o → IsCovered o r px → AllByRecursion (IsAllowed d) (zero_calls place (rest_at o r))
rest_allowed d place r px None is c = tt
rest_allowed d place r px (Some v) is c = rects_allowed d place v (rest_of v.width v.height r) is (rest_is v.width v.height r c.inside).inside

pixels_some : (o : Option LevelView) → HasPixels o → IsSome o
pixels_some None h = absurd h
pixels_some (Some v) h = refl

storage_allowed : (d : DriverState) (number : ℕ) (is_written : Bool) → HasPixels (renderbuffer_at d.tables.renderbuffers.objects number) → AllByRecursion (IsAllowed d) (zero_storage number is_written)
storage_allowed d number true there = tt
storage_allowed d number false there = (pixels_some (renderbuffer_at d.tables.renderbuffers.objects number) there, tt)

zeroings_allowed : (d : DriverState) (f : Covers) (m : Marks) (k : Contents) (xs : List AnyImage) → AreStored d.tables.renderbuffers.objects xs → ImagesAgree d.tables.textures.objects d.tables.renderbuffers.objects f m k
    → AllByRecursion (IsAllowed d) (zeroings d.tables.textures.objects f m xs)
zeroings_allowed d f m k [] there agree = tt
zeroings_allowed d f m k (any.Level place ∷ xs) there agree =
    let t = d.tables.textures.objects in
    each_append (IsAllowed d) (zero_calls place (unwritten t f place)) (zeroings t (filled t f place) m xs)
    (rest_allowed d place (f place) (k.images place) (level_at t place) refl (agree.covers place))
    (zeroings_allowed d (filled t f place) m (filled_contents f k place t) xs there.1 (agree_filled f k place t d.tables.renderbuffers.objects m agree))
zeroings_allowed d f m k (any.Renderbuffer number ∷ xs) there agree =
    let t = d.tables.textures.objects in
    each_append (IsAllowed d) (zero_storage number (m number)) (zeroings t f (with_mark m number true) xs)
    (storage_allowed d number (m number) there.0)
    (zeroings_allowed d f (with_mark m number true) (stored_contents m k number) xs there.1 (agree_stored d.tables.renderbuffers.objects m k number there.0 t f agree))

module _ (t : TextureObjects) (r : Renderbuffers) (f : Covers) (m : Marks) (d : DriverState) (same : t ≡ d.tables.textures.objects) (same_storage : r ≡ d.tables.renderbuffers.objects) (agree : ImagesAgree t r f m d.contents)
    (xs : List AnyImage) (there : AreStored r xs) where
  -- behind some first ones the next is allowed
  pub zeroings_may : (es : List DriverEntry) (next : DriverCall) (more : List DriverCall) → calls_in es ++ next ∷ more ≡ zeroings t f m xs → IsAllowed (state_after d es) next
  zeroings_may es next more h =
      let all = zeroings_allowed d f m d.contents xs (subst (λ (r : Renderbuffers). AreStored r xs) same_storage there)
      (subst (λ (r : Renderbuffers). ImagesAgree d.tables.textures.objects r f m d.contents) same_storage (subst (λ (t : TextureObjects). ImagesAgree t r f m d.contents) same agree)) in
      let allowed = next_of (IsAllowed d) (calls_in es) next more (subst (AllByRecursion (IsAllowed d)) (sym (h ∙ ap (λ (t : TextureObjects). zeroings t f m xs) same)) all) in
      let zero = next_of IsZeroCall (calls_in es) next more (subst (AllByRecursion IsZeroCall) (sym h) (zeroings_zero t f m xs)) in
      subst (λ (s : DriverState). IsAllowed s next) (sym (zeros_after d es (zeroings_first t f m xs es (next ∷ more) h))) (zero_allowed d (painted d.contents (calls_in es)) next zero allowed)

-- what the zeroings of these images leave
pub record ZeroingsLeft (t : TextureObjects) (r : Renderbuffers) (f : Covers) (m : Marks) (d : DriverState) (xs : List AnyImage) (es : List DriverEntry) : Type 0 where
  pub asked : (o : Oracle) → told es o ≡ o
  pub tables : (state_after d es).tables ≡ d.tables
  pub images : ImagesAgree t r (all_filled t f xs) (all_marked m xs) (state_after d es).contents
  pub reads : read_contents (state_after d es).contents ≡ read_contents d.contents
  pub records : records_in d es ≡ []
  pub written : AreWritten t r (state_after d es).contents xs

pub zeroings_leave : (t : TextureObjects) (r : Renderbuffers) (f : Covers) (m : Marks) (d : DriverState) → ImagesAgree t r f m d.contents → (xs : List AnyImage) → AreStored r xs → (es : List DriverEntry) → calls_in es ≡ zeroings t f m xs → ZeroingsLeft t r f m d xs es
zeroings_leave t r f m d agree xs there es h =
    let zero = subst (AllByRecursion IsZeroCall) (sym h) (zeroings_zero t f m xs) in
    let after = zeros_after d es zero in
    let contents : (state_after d es).contents ≡ painted d.contents (zeroings t f m xs) = ap (λ (s : DriverState). s.contents) after ∙ ap (painted d.contents) h in
    let left = subst (ImagesAgree t r (all_filled t f xs) (all_marked m xs)) (sym contents) (agree_all t r f m d.contents xs there agree) in
    record {
      asked = λ o. zeros_told es o zero;
      tables = ap (λ (s : DriverState). s.tables) after;
      images = left;
      reads = ap read_contents contents ∙ read_all t r f m d.contents xs there agree;
      records = zeros_records d es zero;
      written = written_in t r f m (state_after d es).contents xs left;
    }
