-- When two rectangles make one, and which one.
use Rattle.std.proofs.Common.{◌≡◌, ◌≤◌, ◌<◌, ◌⊎◌, inl, inr, ℕ, ◌+◌, ◌-◌, Bool, true, false, ◌||◌, if◌then◌else◌, Option, None, Some, refl, sym, subst, ◌∙◌, arith}
use Rattle.std.proofs.lemmas.Bool.Decides.{nat_tests}
use Rattle.gl_base.specs.declared.rect.Rect.{Rect}
use Rattle.gl_base.specs.Rects.{has, is_empty, covers, stacked, abreast, around, IsIn, IsUnion, whole, union_of}
use Rattle.gl_base.proofs.Rects.{Has, Covers, Stacked, Abreast, is_there, has_it, covers_it, stacked_it, abreast_it, positive, covers_in}

one_of : (p q : Bool) → (p || q) ≡ true → (p ≡ true) ⊎ (q ≡ true)
one_of true q h = inl refl
one_of false q h = inr h

or_left : (p q : Bool) → p ≡ true → (p || q) ≡ true
or_left true q h = refl
or_left false q h = absurd (cc)

or_right : (p q : Bool) → q ≡ true → (p || q) ≡ true
or_right true q h = refl
or_right false q h = h

or_none : (p q : Bool) → (p || q) ≡ false → (p ≡ false) × (q ≡ false)
or_none true q h = absurd (cc)
or_none false q h = (refl, h)

module _ (a b r : Rect) (u : IsUnion r a b) where
  from_a : (x y : ℕ) → Has a x y → Has r x y
  from_a x y h = is_there r x y (u x y ∙ or_left (has a x y) (has b x y) (has_it a x y h))

  from_b : (x y : ℕ) → Has b x y → Has r x y
  from_b x y h = is_there r x y (u x y ∙ or_right (has a x y) (has b x y) (has_it b x y h))

  into : (x y : ℕ) → (has a x y ≡ true) ⊎ (has b x y ≡ true) → Has a x y ⊎ Has b x y
  into x y (inl h) = inl (is_there a x y h)
  into x y (inr h) = inr (is_there b x y h)

  from_r : (x y : ℕ) → Has r x y → Has a x y ⊎ Has b x y
  from_r x y h = into x y (one_of (has a x y) (has b x y) (sym (u x y) ∙ has_it r x y h))

-- each bound of a part is within the whole
record Within (a r : Rect) : Type 0 where
  pub left : r.x ≤ a.x
  pub right : a.x + a.width ≤ r.x + r.width
  pub top : r.y ≤ a.y
  pub bottom : a.y + a.height ≤ r.y + r.height

within : (a r : Rect) → 0 < a.width → 0 < a.height → ((x y : ℕ) → Has a x y → Has r x y) → Within a r
within a r w h from =
    let first = from a.x a.y (omega arith, omega arith, omega arith, omega arith) in
    let last = from (a.x + a.width - 1) (a.y + a.height - 1) (omega arith, omega arith, omega arith, omega arith) in
    record { left = first.0; right = omega arith; top = first.2; bottom = omega arith }

at_most : (m n : ℕ) → (n < m → ⊥) → m ≤ n
at_most m n h = omega arith

neither : (a b : Rect) (x y : ℕ) → (Has a x y → ⊥) → (Has b x y → ⊥) → Has a x y ⊎ Has b x y → ⊥
neither a b x y p q (inl h) = p h
neither a b x y p q (inr h) = q h

-- each corner of a rectangle that has just the places of both is in one of them: whichever has which, the two are one in the other, or side by
-- side
module _ (a b r : Rect) (u : IsUnion r a b) (aw : 0 < a.width) (ah : 0 < a.height) (bw : 0 < b.width) (bh : 0 < b.height) (ab : Covers a b → ⊥) (ba : Covers b a → ⊥) (st : Stacked a b → ⊥) (ab2 : Abreast a b → ⊥) (ia : Within a r) (ib : Within b r) where
  corners : Has a r.x r.y ⊎ Has b r.x r.y → Has a (r.x + r.width - 1) r.y ⊎ Has b (r.x + r.width - 1) r.y → Has a r.x (r.y + r.height - 1) ⊎ Has b r.x (r.y + r.height - 1) → Has a (r.x + r.width - 1) (r.y + r.height - 1) ⊎ Has b (r.x + r.width - 1) (r.y + r.height - 1) → ⊥
  corners (inl p) _ _ (inl q) = ab (omega arith, omega arith, omega arith, omega arith)
  corners (inr p) _ _ (inr q) = ba (omega arith, omega arith, omega arith, omega arith)
  corners _ (inl p) (inl q) _ = ab (omega arith, omega arith, omega arith, omega arith)
  corners _ (inr p) (inr q) _ = ba (omega arith, omega arith, omega arith, omega arith)
  corners (inl p) (inl q) (inr s) (inr t) = st (omega arith, omega arith, omega arith, at_most (b.y) (a.y + a.height) (λ g. neither a b (r.x) (a.y + a.height) (λ h. omega arith) (λ h. omega arith) (from_r a b r u (r.x) (a.y + a.height) (omega arith, omega arith, omega arith, omega arith))))
  corners (inr p) (inr q) (inl s) (inl t) = st (omega arith, omega arith, at_most (a.y) (b.y + b.height) (λ g. neither a b (r.x) (b.y + b.height) (λ h. omega arith) (λ h. omega arith) (from_r a b r u (r.x) (b.y + b.height) (omega arith, omega arith, omega arith, omega arith))), omega arith)
  corners (inl p) (inr q) (inl s) (inr t) = ab2 (omega arith, omega arith, omega arith, at_most (b.x) (a.x + a.width) (λ g. neither a b (a.x + a.width) (r.y) (λ h. omega arith) (λ h. omega arith) (from_r a b r u (a.x + a.width) (r.y) (omega arith, omega arith, omega arith, omega arith))))
  corners (inr p) (inl q) (inr s) (inl t) = ab2 (omega arith, omega arith, at_most (a.x) (b.x + b.width) (λ g. neither a b (b.x + b.width) (r.y) (λ h. omega arith) (λ h. omega arith) (from_r a b r u (b.x + b.width) (r.y) (omega arith, omega arith, omega arith, omega arith))), omega arith)

-- two that are neither one in the other nor side by side make no rectangle
no_union : (a b : Rect) → is_empty a ≡ false → is_empty b ≡ false → covers a b ≡ false → covers b a ≡ false → stacked a b ≡ false → abreast a b ≡ false → (r : Rect) → IsUnion r a b → ⊥
no_union a b ea eb cab cba st ab r u =
    let pa = positive a ea in
    let pb = positive b eb in
    let ia = within a r pa.0 pa.1 (from_a a b r u) in
    let ib = within b r pb.0 pb.1 (from_b a b r u) in
    corners a b r u pa.0 pa.1 pb.0 pb.1 (covers_it a b cab) (covers_it b a cba) (stacked_it a b st) (abreast_it a b ab) ia ib
    (from_r a b r u r.x r.y (omega arith, omega arith, omega arith, omega arith))
    (from_r a b r u (r.x + r.width - 1) r.y (omega arith, omega arith, omega arith, omega arith))
    (from_r a b r u r.x (r.y + r.height - 1) (omega arith, omega arith, omega arith, omega arith))
    (from_r a b r u (r.x + r.width - 1) (r.y + r.height - 1) (omega arith, omega arith, omega arith, omega arith))

some_is : (a b : Rect) → Some a ≡ Some b → a ≡ b
some_is a b e = cc

-- the form of a union, by its four tests
abbrev picked : Bool → Bool → Bool → Bool → Rect → Rect → Rect → Option Rect
picked p q s t a b m = if p then Some a else if q then Some b else if s then Some m else if t then Some m else None

-- what holds of each rectangle that may be picked holds of the one that is
of_picked : (P : Rect → Type 0) (p q s t : Bool) (a b m u : Rect) → (p ≡ true → P a) → (q ≡ true → P b) → (s ≡ true → P m) → (t ≡ true → P m) → picked p q s t a b m ≡ Some u → P u
of_picked P true q s t a b m u ha hb hs ht e = subst P (some_is a u e) (ha refl)
of_picked P false true s t a b m u ha hb hs ht e = subst P (some_is b u e) (hb refl)
of_picked P false false true t a b m u ha hb hs ht e = subst P (some_is m u e) (hs refl)
of_picked P false false false true a b m u ha hb hs ht e = subst P (some_is m u e) (ht refl)
of_picked P false false false false a b m u ha hb hs ht e = absurd (cc)

record NonePicked (p q s t : Bool) : Type 0 where
  pub p_is : p ≡ false
  pub q_is : q ≡ false
  pub s_is : s ≡ false
  pub t_is : t ≡ false

none_picked : (p q s t : Bool) (a b m : Rect) → picked p q s t a b m ≡ None → NonePicked p q s t
none_picked true q s t a b m e = absurd (cc)
none_picked false true s t a b m e = absurd (cc)
none_picked false false true t a b m e = absurd (cc)
none_picked false false false true a b m e = absurd (cc)
none_picked false false false false a b m e = record { p_is = refl; q_is = refl; s_is = refl; t_is = refl }

has_first : (a b : Rect) → (is_empty b || covers a b) ≡ true → IsUnion a a b
has_first a b h x y = grind (arith, nat_tests)

has_second : (a b : Rect) → (is_empty a || covers b a) ≡ true → IsUnion b a b
has_second a b h x y = grind (arith, nat_tests)

has_stacked : (a b : Rect) → stacked a b ≡ true → IsUnion (around a b) a b
has_stacked a b h x y = grind (arith, nat_tests)

has_abreast : (a b : Rect) → abreast a b ≡ true → IsUnion (around a b) a b
has_abreast a b h x y = grind (arith, nat_tests)

-- where there is a union it has just the places of both
pub union_is : (a b u : Rect) → union_of a b ≡ Some u → IsUnion u a b
union_is a b u e = of_picked (λ r. IsUnion r a b) (is_empty b || covers a b) (is_empty a || covers b a) (stacked a b) (abreast a b) a b (around a b) u (has_first a b) (has_second a b) (has_stacked a b) (has_abreast a b) e

around_in : (a b : Rect) (w h : ℕ) → IsIn a w h → IsIn b w h → IsIn (around a b) w h
around_in a b w h ia ib = (omega arith, omega arith)

-- the union of two rectangles inside an image is inside it
pub union_in : (a b u : Rect) (w h : ℕ) → IsIn a w h → IsIn b w h → union_of a b ≡ Some u → IsIn u w h
union_in a b u w h ia ib e = of_picked (λ r. IsIn r w h) (is_empty b || covers a b) (is_empty a || covers b a) (stacked a b) (abreast a b) a b (around a b) u (λ i. ia) (λ i. ib) (λ i. around_in a b w h ia ib) (λ i. around_in a b w h ia ib) e

-- where there is none, no rectangle has just the places of both
pub union_none : (a b : Rect) → union_of a b ≡ None → (r : Rect) → IsUnion r a b → ⊥
union_none a b e r u =
    let n = none_picked (is_empty b || covers a b) (is_empty a || covers b a) (stacked a b) (abreast a b) a b (around a b) e in
    let p = or_none (is_empty b) (covers a b) n.p_is in
    let q = or_none (is_empty a) (covers b a) n.q_is in
    no_union a b q.0 p.0 p.1 q.1 n.s_is n.t_is r u

-- what is whole stays whole
pub union_whole : (w h : ℕ) (r : Rect) → IsIn r w h → union_of (whole w h) r ≡ Some (whole w h)
union_whole w h r i = rw (or_right (is_empty r) (covers (whole w h) r) (covers_in w h r i)) refl
