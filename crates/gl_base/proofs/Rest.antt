-- What is left of an image without a rectangle.
use Rattle.std.proofs.Common.{◌≡◌, ◌≤◌, ◌<◌, ℕ, ◌+◌, ◌-◌, Bool, true, false, not, ◌&&◌, ◌||◌, if◌then◌else◌, List, [], ◌∷◌, ◌++◌, refl, sym, ap, ◌∙◌, arith, length, length-append}
use Rattle.std.proofs.lemmas.Bool.Decides.{nat_tests}
use Rattle.gl_base.specs.declared.rect.Rect.{Rect}
use Rattle.gl_base.specs.Rects.{has, is_empty, covers, IsIn, whole, with_part, rest_of, in_any, Disjoint, AllInside, IsRest}
use Rattle.gl_base.proofs.Rects.{Has, is_there, empty_has, positive}

or_false : (p : Bool) → (p || false) ≡ p
or_false true = refl
or_false false = refl

or_assoc : (p q r : Bool) → (p || (q || r)) ≡ ((p || q) || r)
or_assoc true q r = refl
or_assoc false q r = refl

in_append : (rs : List Rect) (r : Rect) (x y : ℕ) → in_any (rs ++ r ∷ []) x y ≡ (in_any rs x y || has r x y)
in_append [] r x y = or_false (has r x y)
in_append (q ∷ rs) r x y = ap (λ b. has q x y || b) (in_append rs r x y) ∙ or_assoc (has q x y) (in_any rs x y) (has r x y)

in_by : (e : Bool) (rs : List Rect) (r : Rect) (x y : ℕ) → (e ≡ true → has r x y ≡ false) → in_any (if e then rs else rs ++ r ∷ []) x y ≡ (in_any rs x y || has r x y)
in_by true rs r x y h = sym (ap (λ b. in_any rs x y || b) (h refl) ∙ or_false (in_any rs x y))
in_by false rs r x y h = in_append rs r x y

in_part : (rs : List Rect) (r : Rect) (x y : ℕ) → in_any (with_part rs r) x y ≡ (in_any rs x y || has r x y)
in_part rs r x y = in_by (is_empty r) rs r x y (empty_has r x y)

and_or : (p q r : Bool) → (p && q) ≡ false → ((p || q) && r) ≡ false → (p && (q || r)) ≡ false
and_or true q r h k = ap (λ b. b || r) h ∙ k
and_or false q r h k = refl

and_later : (p q r : Bool) → ((p || q) && r) ≡ false → (q && r) ≡ false
and_later true true r h = h
and_later true false r h = refl
and_later false q r h = h

disjoint_append : (rs : List Rect) (r : Rect) → Disjoint rs → ((x y : ℕ) → (in_any rs x y && has r x y) ≡ false) → Disjoint (rs ++ r ∷ [])
disjoint_append [] r d h = (λ x y. and_false (has r x y), tt)
  where
    and_false : (p : Bool) → (p && false) ≡ false
    and_false true = refl
    and_false false = refl
disjoint_append (q ∷ rs) r d h = (
  λ x y. ap (λ b. has q x y && b) (in_append rs r x y) ∙ and_or (has q x y) (in_any rs x y) (has r x y) (d.0 x y) (h x y),
  disjoint_append rs r d.1 (λ x y. and_later (has q x y) (in_any rs x y) (has r x y) (h x y)),
)

inside_append : (width height : ℕ) (rs : List Rect) (r : Rect) → AllInside width height rs → IsIn r width height → 0 < r.width → 0 < r.height → AllInside width height (rs ++ r ∷ [])
inside_append width height [] r a i w h = (i, w, h, tt)
inside_append width height (q ∷ rs) r a i w h = (a.0, a.1, a.2, inside_append width height rs r a.3 i w h)

-- the parts so far
record Good (width height : ℕ) (rs : List Rect) : Type 0 where
  pub disjoint : Disjoint rs
  pub inside : AllInside width height rs

good_by : (e : Bool) (width height : ℕ) (rs : List Rect) (r : Rect) → (e ≡ false → (0 < r.width) × (0 < r.height)) → Good width height rs → IsIn r width height → ((x y : ℕ) → (in_any rs x y && has r x y) ≡ false) → Good width height (if e then rs else rs ++ r ∷ [])
good_by true width height rs r p g i h = g
good_by false width height rs r p g i h = record { disjoint = disjoint_append rs r g.disjoint h; inside = inside_append width height rs r g.inside i (p refl).0 (p refl).1 }

good_part : (width height : ℕ) (rs : List Rect) (r : Rect) → Good width height rs → IsIn r width height → ((x y : ℕ) → (in_any rs x y && has r x y) ≡ false) → Good width height (with_part rs r)
good_part width height rs r g i h = good_by (is_empty r) width height rs r (positive r) g i h

apart : (p q r : Bool) → p ≡ q → (q && r) ≡ false → (p && r) ≡ false
apart p q r e h = ap (λ b. b && r) e ∙ h

more_by : (e : Bool) (rs : List Rect) (r : Rect) → length (if e then rs else rs ++ r ∷ []) ≤ length rs + 1
more_by true rs r = omega arith
more_by false rs r = omega (arith, length-append rs (r ∷ []))

one_more : (rs : List Rect) (r : Rect) → length (with_part rs r) ≤ length rs + 1
one_more rs r = more_by (is_empty r) rs r

pub rest_is : (width height : ℕ) (w : Rect) → IsIn w width height → IsRest width height w (rest_of width height w)
rest_is width height w i =
    let r1 : Rect = record { x = 0; y = 0; width = width; height = w.y } in
    let r2 : Rect = record { x = 0; y = w.y + w.height; width = width; height = height - (w.y + w.height) } in
    let r3 : Rect = record { x = 0; y = w.y; width = w.x; height = w.height } in
    let r4 : Rect = record { x = w.x + w.width; y = w.y; width = width - (w.x + w.width); height = w.height } in
    let p1 = with_part [] r1 in
    let p2 = with_part p1 r2 in
    let p3 = with_part p2 r3 in
    let e1 = λ (x y : ℕ). in_part [] r1 x y in
    let e2 = λ (x y : ℕ). in_part p1 r2 x y ∙ ap (λ b. b || has r2 x y) (e1 x y) in
    let e3 = λ (x y : ℕ). in_part p2 r3 x y ∙ ap (λ b. b || has r3 x y) (e2 x y) in
    let e4 = λ (x y : ℕ). in_part p3 r4 x y ∙ ap (λ b. b || has r4 x y) (e3 x y) in
    let g1 = good_part width height [] r1 (record { disjoint = tt; inside = tt }) (omega arith, omega arith) (λ x y. refl) in
    let g2 = good_part width height p1 r2 g1 (omega arith, omega arith) (λ x y. apart (in_any p1 x y) (has r1 x y) (has r2 x y) (e1 x y) (apart_12 width height w x y)) in
    let g3 = good_part width height p2 r3 g2 (omega arith, omega arith) (λ x y. apart (in_any p2 x y) (has r1 x y || has r2 x y) (has r3 x y) (e2 x y) (apart_3 width height w x y)) in
    let g4 = good_part width height p3 r4 g3 (omega arith, omega arith) (λ x y. apart (in_any p3 x y) ((has r1 x y || has r2 x y) || has r3 x y) (has r4 x y) (e3 x y) (apart_4 width height w x y)) in
    record { exact = λ x y xw yh. e4 x y ∙ exact width height w x y i xw yh; disjoint = g4.disjoint; inside = g4.inside; few = omega (arith, one_more [] r1, one_more p1 r2, one_more p2 r3, one_more p3 r4) }
  where
    apart_12 : (width height : ℕ) (w : Rect) (x y : ℕ) → (has (record { x = 0; y = 0; width = width; height = w.y }) x y && has (record { x = 0; y = w.y + w.height; width = width; height = height - (w.y + w.height) }) x y) ≡ false
    apart_12 width height w x y = grind (arith, nat_tests)

    apart_3 : (width height : ℕ) (w : Rect) (x y : ℕ) → ((has (record { x = 0; y = 0; width = width; height = w.y }) x y || has (record { x = 0; y = w.y + w.height; width = width; height = height - (w.y + w.height) }) x y) && has (record { x = 0; y = w.y; width = w.x; height = w.height }) x y) ≡ false
    apart_3 width height w x y = grind (arith, nat_tests)

    apart_4 : (width height : ℕ) (w : Rect) (x y : ℕ) → (((has (record { x = 0; y = 0; width = width; height = w.y }) x y || has (record { x = 0; y = w.y + w.height; width = width; height = height - (w.y + w.height) }) x y) || has (record { x = 0; y = w.y; width = w.x; height = w.height }) x y) && has (record { x = w.x + w.width; y = w.y; width = width - (w.x + w.width); height = w.height }) x y) ≡ false
    apart_4 width height w x y = grind (arith, nat_tests)

    exact : (width height : ℕ) (w : Rect) (x y : ℕ) → IsIn w width height → x < width → y < height → (((has (record { x = 0; y = 0; width = width; height = w.y }) x y || has (record { x = 0; y = w.y + w.height; width = width; height = height - (w.y + w.height) }) x y) || has (record { x = 0; y = w.y; width = w.x; height = w.height }) x y) || has (record { x = w.x + w.width; y = w.y; width = width - (w.x + w.width); height = w.height }) x y) ≡ not (has w x y)
    exact width height w x y i xw yh = grind (arith, nat_tests)

not_true : (b : Bool) → not b ≡ true → b ≡ false
not_true true h = absurd (cc)
not_true false h = refl

in_later : (p q : Bool) → (p || q) ≡ true → p ≡ false → q ≡ true
in_later true q h n = absurd (cc)
in_later false q h n = h

module _ (width height x y : ℕ) where
  inside_first : (b : Bool) (r : Rect) (rs : List Rect) → has r x y ≡ b → IsIn r width height → (in_any rs x y ≡ true → (x < width) × (y < height)) → in_any (r ∷ rs) x y ≡ true → (x < width) × (y < height)
  inside_first true r rs e i later h = let p : Has r x y = is_there r x y e in (omega arith, omega arith)
  inside_first false r rs e i later h = later (in_later (has r x y) (in_any rs x y) h e)

  -- each place of rectangles inside an image is one of the image
  pub in_inside : (rs : List Rect) → AllInside width height rs → in_any rs x y ≡ true → (x < width) × (y < height)
  in_inside [] a h = absurd (cc)
  in_inside (r ∷ rs) a h = inside_first (has r x y) r rs refl a.0 (in_inside rs a.3) h

  -- a place of the rest is one of the image
  pub rest_inside : (w : Rect) → IsIn w width height → in_any (rest_of width height w) x y ≡ true → (x < width) × (y < height)
  rest_inside w i h = in_inside (rest_of width height w) (rest_is width height w i).inside h

  -- and it is not in the rectangle
  pub rest_apart : (w : Rect) → IsIn w width height → in_any (rest_of width height w) x y ≡ true → has w x y ≡ false
  rest_apart w i h =
      let p = rest_inside w i h in
      not_true (has w x y) (sym ((rest_is width height w i).exact x y p.0 p.1) ∙ h)

  -- any other place of the image is in the rest
  pub rest_has : (w : Rect) → IsIn w width height → x < width → y < height → has w x y ≡ false → in_any (rest_of width height w) x y ≡ true
  rest_has w i xw yh e = (rest_is width height w i).exact x y xw yh ∙ ap not e

without_by : (e : Bool) (rs : List Rect) (r : Rect) → e ≡ true → (if e then rs else rs ++ r ∷ []) ≡ rs
without_by true rs r h = refl
without_by false rs r h = absurd (cc)

-- a part without places is left out
without : (rs : List Rect) (r : Rect) → is_empty r ≡ true → with_part rs r ≡ rs
without rs r h = without_by (is_empty r) rs r h

-- nothing is left where the rectangle has all places of the image
pub rest_none : (width height : ℕ) (w : Rect) → IsIn w width height → (is_empty (whole width height) || covers w (whole width height)) ≡ true → rest_of width height w ≡ []
rest_none width height w i h =
    let r1 : Rect = record { x = 0; y = 0; width = width; height = w.y } in
    let r2 : Rect = record { x = 0; y = w.y + w.height; width = width; height = height - (w.y + w.height) } in
    let r3 : Rect = record { x = 0; y = w.y; width = w.x; height = w.height } in
    let r4 : Rect = record { x = w.x + w.width; y = w.y; width = width - (w.x + w.width); height = w.height } in
    let p1 = with_part [] r1 in
    let p2 = with_part p1 r2 in
    let p3 = with_part p2 r3 in
    without p3 r4 (grind (arith, nat_tests)) ∙ without p2 r3 (grind (arith, nat_tests)) ∙ without p1 r2 (grind (arith, nat_tests)) ∙ without [] r1 (grind (arith, nat_tests))

whole_covered : (width height : ℕ) → (is_empty (whole width height) || covers (whole width height) (whole width height)) ≡ true
whole_covered width height = grind (arith, nat_tests)

-- as of the whole
pub rest_whole : (width height : ℕ) → rest_of width height (whole width height) ≡ []
rest_whole width height = rest_none width height (whole width height) (omega arith, omega arith) (whole_covered width height)
