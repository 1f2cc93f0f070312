-- Rectangles by their sides, and as sets of places.
use Rattle.std.proofs.Common.{◌≡◌, ◌≤◌, ◌<◌, ℕ, ◌+◌, true, false, arith}
use Rattle.std.proofs.lemmas.Bool.Decides.{nat_tests}
use Rattle.gl_base.specs.declared.rect.Rect.{Rect}
use Rattle.gl_base.specs.Rects.{has, is_empty, covers, stacked, abreast, IsIn, whole}

-- the tests as facts
abbrev pub Has : Rect → ℕ → ℕ → Type 0
Has r x y = (r.x ≤ x) × (x < r.x + r.width) × (r.y ≤ y) × (y < r.y + r.height)

abbrev pub Covers : Rect → Rect → Type 0
Covers a b = (a.x ≤ b.x) × (b.x + b.width ≤ a.x + a.width) × (a.y ≤ b.y) × (b.y + b.height ≤ a.y + a.height)

abbrev pub Stacked : Rect → Rect → Type 0
Stacked a b = (a.x ≡ b.x) × (a.width ≡ b.width) × (a.y ≤ b.y + b.height) × (b.y ≤ a.y + a.height)

abbrev pub Abreast : Rect → Rect → Type 0
Abreast a b = (a.y ≡ b.y) × (a.height ≡ b.height) × (a.x ≤ b.x + b.width) × (b.x ≤ a.x + a.width)

pub is_there : (r : Rect) (x y : ℕ) → has r x y ≡ true → Has r x y
is_there r x y h = (grind (arith, nat_tests), grind (arith, nat_tests), grind (arith, nat_tests), grind (arith, nat_tests))

pub has_it : (r : Rect) (x y : ℕ) → Has r x y → has r x y ≡ true
has_it r x y h = grind (arith, nat_tests)

pub covers_it : (a b : Rect) → covers a b ≡ false → Covers a b → ⊥
covers_it a b is_not h = grind (arith, nat_tests)

pub stacked_it : (a b : Rect) → stacked a b ≡ false → Stacked a b → ⊥
stacked_it a b is_not h = grind (arith, nat_tests)

pub abreast_it : (a b : Rect) → abreast a b ≡ false → Abreast a b → ⊥
abreast_it a b is_not h = grind (arith, nat_tests)

pub positive : (r : Rect) → is_empty r ≡ false → (0 < r.width) × (0 < r.height)
positive r h = (grind (arith, nat_tests), grind (arith, nat_tests))

-- a rectangle without columns or rows has no place
pub empty_has : (r : Rect) (x y : ℕ) → is_empty r ≡ true → has r x y ≡ false
empty_has r x y h = grind (arith, nat_tests)

-- the whole of an image has each of its places
pub whole_has : (w h x y : ℕ) → x < w → y < h → has (whole w h) x y ≡ true
whole_has w h x y xw yh = grind (arith, nat_tests)

-- the whole of an image covers each rectangle inside it
pub covers_in : (w h : ℕ) (r : Rect) → IsIn r w h → covers (whole w h) r ≡ true
covers_in w h r i = grind (arith, nat_tests)
