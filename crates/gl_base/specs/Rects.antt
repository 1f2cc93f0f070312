-- Rectangles as sets of places: columns and rows from 0.
use Rattle.std.specs.Prelude.{◌≡◌, ◌≤◌, ◌<◌, ℕ, ◌+◌, ◌-◌, ◌==◌, min, max, Bool, false, not, ◌&&◌, ◌||◌, nat_lt, nat_le, if◌then◌else◌, List, [], ◌∷◌, ◌++◌, length, Option, None, Some}
use Rattle.gl_base.specs.declared.rect.Rect.{Rect}

-- the place is in the rectangle
abbrev pub has : Rect → ℕ → ℕ → Bool
has r x y = nat_le r.x x && nat_lt x (r.x + r.width) && nat_le r.y y && nat_lt y (r.y + r.height)

-- it has no place
abbrev pub is_empty : Rect → Bool
is_empty r = (r.width == 0) || (r.height == 0)

-- it lies in an image of these sides
abbrev pub IsIn : Rect → ℕ → ℕ → Type 0
IsIn r width height = (r.x + r.width ≤ width) × (r.y + r.height ≤ height)

-- the first has every place of the second
abbrev pub covers : Rect → Rect → Bool
covers a b = nat_le a.x b.x && nat_le (b.x + b.width) (a.x + a.width) && nat_le a.y b.y && nat_le (b.y + b.height) (a.y + a.height)

-- they have the same columns, and rows that meet
abbrev pub stacked : Rect → Rect → Bool
stacked a b = (a.x == b.x) && (a.width == b.width) && nat_le a.y (b.y + b.height) && nat_le b.y (a.y + a.height)

-- they have the same rows, and columns that meet
abbrev pub abreast : Rect → Rect → Bool
abreast a b = (a.y == b.y) && (a.height == b.height) && nat_le a.x (b.x + b.width) && nat_le b.x (a.x + a.width)

-- the least rectangle that has both
abbrev pub around : Rect → Rect → Rect
around a b = record { x = min a.x b.x; y = min a.y b.y; width = max (a.x + a.width) (b.x + b.width) - min a.x b.x; height = max (a.y + a.height) (b.y + b.height) - min a.y b.y }

-- the rectangle of the places of both, where they make one, or where the second is empty
abbrev pub union_of : Rect → Rect → Option Rect
union_of a b =
    if is_empty b || covers a b then Some a
    else if is_empty a || covers b a then Some b
    else if stacked a b then Some (around a b)
    else if abreast a b then Some (around a b)
    else None

-- the rectangle has the places of the two others, and no more
abbrev pub IsUnion : Rect → Rect → Rect → Type 0
IsUnion r a b = (x y : ℕ) → has r x y ≡ (has a x y || has b x y)

-- all places of an image of these sides
abbrev pub whole : ℕ → ℕ → Rect
whole width height = record { x = 0; y = 0; width = width; height = height }

-- with one more, unless it is empty
abbrev pub with_part : List Rect → Rect → List Rect
with_part rs r = if is_empty r then rs else rs ++ r ∷ []

-- an image without a rectangle, as at most four: the rows before, the rows after, the columns left, the columns right
abbrev pub rest_of : ℕ → ℕ → Rect → List Rect
rest_of width height r =
    with_part (with_part (with_part (with_part []
    (record { x = 0; y = 0; width = width; height = r.y }))
    (record { x = 0; y = r.y + r.height; width = width; height = height - (r.y + r.height) }))
    (record { x = 0; y = r.y; width = r.x; height = r.height }))
    (record { x = r.x + r.width; y = r.y; width = width - (r.x + r.width); height = r.height })

-- the place is in one of the rectangles
abbrev pub in_any : List Rect → ℕ → ℕ → Bool
in_any [] x y = false
in_any (r ∷ rs) x y = has r x y || in_any rs x y

-- no place is in two of the rectangles
abbrev pub Disjoint : List Rect → Type 0
Disjoint [] = Unit {0}
Disjoint (r ∷ rs) = ((x y : ℕ) → (has r x y && in_any rs x y) ≡ false) × Disjoint rs

-- each of the rectangles is inside the level, with positive sides
abbrev pub AllInside : ℕ → ℕ → List Rect → Type 0
AllInside width height [] = Unit {0}
AllInside width height (r ∷ rs) = IsIn r width height × (0 < r.width) × (0 < r.height) × AllInside width height rs

-- the rectangles are the level without the written one
pub record IsRest (width height : ℕ) (written : Rect) (rs : List Rect) : Type 0 where
  pub exact : (x y : ℕ) → x < width → y < height → in_any rs x y ≡ not (has written x y)
  pub disjoint : Disjoint rs
  pub inside : AllInside width height rs
  pub few : length rs ≤ 4
