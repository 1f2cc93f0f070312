-- The table of the elements of uniforms, as it is made, and what it has.
use Prim.Native.Nat.{zero, suc}
use Rattle.std.proofs.Common.{◌≡◌, ◌≤◌, ◌<◌, ℕ, ℤ, pos, negsuc, ◌+◌, ◌-◌, ◌*◌, List, [], ◌∷◌, ◌++◌, length, drop, get_or, Bool, true, false, if◌then◌else◌, nat_lt, inl, inr, subst, refl, sym, ◌∙◌, ap, arith, add-one, add-zero, zero-add, append_assoc, Option, Some}
use Rattle.std.specs.List.{slice_get}
use Rattle.std.proofs.Math.Nat.{one-le-mul, one-mul, suc-mul, zero-mul, add-mul, mul-le-mul_right, mul-le-mul_left}
use Rattle.std.proofs.lemmas.Nat.{mul-le}
use Rattle.std.proofs.lemmas.Bool.{cases_lt, lt-ltb, le-ltb}
use Rattle.std.proofs.lemmas.Option.{same_Some}
use Rattle.std.proofs.lemmas.List.{drop_more}
use Rattle.std.proofs.lemmas.List.Sums.{sum_by-cons}
use Rattle.gl_plain.specs.declared.programs.Uniform.{Uniform}
use Rattle.gl_base.specs.declared.gl_enum.GlEnum.{GlEnum}
use Rattle.gl_plain.specs.subjects.Links.{columns, rows, words_of, words_in, elements_in}
use Rattle.gl_plain.specs.subjects.Uniforms.{ElementPlace, place_from, place_of}
use Rattle.program_mgr.specs.declared.places.Place.{Place}
use Rattle.program_mgr.specs.Places.{element_places, table_from, kept_place, place_in, IsTable}

-- An element more

elements_step : (u step e w n m : ℕ) → n ≡ suc m → element_places u step e w n ≡ record { uniform = u; element = e; word = w } ∷ element_places u step (e + 1) (w + step) m
elements_step u step e w n m e' = rw e' refl

pub elements_more : (front more whole : List Place) (u step e w size : ℕ) → e < size → more ≡ front ++ record { uniform = u; element = e; word = w } ∷ []
    → front ++ element_places u step e w (size - e) ≡ whole → more ++ element_places u step (e + 1) (w + step) (size - (e + 1)) ≡ whole
elements_more front more whole u step e w size lt pushed is =
    rw pushed (append_assoc front (record { uniform = u; element = e; word = w } ∷ []) (element_places u step (e + 1) (w + step) (size - (e + 1)))
    ∙ ap (λ (ps : List Place). front ++ ps) (sym (elements_step u step e w (size - e) (size - (e + 1)) (omega arith))) ∙ is)

pub next_is : (word step e next : ℕ) → next ≡ word + e * step → next + step ≡ word + (e + 1) * step
next_is word step e next is = rw (add-one e) (omega (arith, suc-mul e step, is))

pub next_fits : (word step e size next limit : ℕ) → e < size → next ≡ word + e * step → word + size * step ≤ limit → next + step ≤ limit
next_fits word step e size next limit lt is fits = omega (arith, next_is word step e next is, mul-le-mul_right {m = e + 1} {n = size} step (omega arith))

-- The words of uniforms

columns_cases : (a b c : Bool) → (if a then 2 else if b then 3 else if c then 4 else 1) ≤ 4
columns_cases true b c = omega arith
columns_cases false true c = omega arith
columns_cases false false true = omega arith
columns_cases false false false = omega arith

columns_few : (kind : GlEnum) → columns kind ≤ 4
columns_few kind = columns_cases _ _ _

rows_few : (kind : GlEnum) → rows kind ≤ 4
rows_few kind = columns_cases _ _ _

pub words_few : (kind : GlEnum) → words_of kind ≤ 16
words_few kind = mul-le (columns kind) (rows kind) 4 4 (columns_few kind) (rows_few kind)

pub words_bound : (us : List Uniform) → words_in us ≤ 16 * elements_in us
words_bound [] = omega arith
words_bound (u ∷ us) = omega (arith, words_bound us, sum_by-cons (λ (v : Uniform). v.size) u us, mul-le-mul_left {m = words_of u.kind} {n = 16} u.size (words_few u.kind))

-- A uniform more

pub uniform_more : (front more whole : List Place) (us : List Uniform) (u d : Uniform) (i word : ℕ) → i < length us → u ≡ get_or us i d
    → more ≡ front ++ element_places i (words_of u.kind) 0 word u.size → front ++ table_from (drop i us) i word ≡ whole
    → more ++ table_from (drop (i + 1) us) (i + 1) (word + u.size * words_of u.kind) ≡ whole
uniform_more front more whole us u d i word lt is pushed rest =
    let step : drop i us ≡ u ∷ drop (i + 1) us = drop_more us i d lt ∙ ap (λ (v : Uniform). v ∷ drop (i + 1) us) (sym is) in
    rw pushed (append_assoc front (element_places i (words_of u.kind) 0 word u.size) (table_from (drop (i + 1) us) (i + 1) (word + u.size * words_of u.kind))
    ∙ ap (λ (vs : List Uniform). front ++ table_from vs i word) (sym step) ∙ rest)

pub words_more : (us : List Uniform) (u d : Uniform) (i word all : ℕ) → i < length us → u ≡ get_or us i d → word + words_in (drop i us) ≡ all
    → word + u.size * words_of u.kind + words_in (drop (i + 1) us) ≡ all
words_more us u d i word all lt is rest =
    let step : drop i us ≡ u ∷ drop (i + 1) us = drop_more us i d lt ∙ ap (λ (v : Uniform). v ∷ drop (i + 1) us) (sym is) in
    let more : words_in (drop i us) ≡ u.size * words_of u.kind + words_in (drop (i + 1) us) = ap words_in step in
    omega (arith, more, rest)

-- What the table has

module _ (all : List Uniform) where
  at_element : (u : Uniform) (i step e w n l : ℕ) → slice_get all i ≡ Some u → l < n
      → kept_place all (slice_get (element_places i step e w n) l) ≡ Some (record { uniform = u; element = e + l; word = w + l * step })
  at_element u i step e w zero l has lt = absurd (omega arith)
  at_element u i step e w (suc n) zero has lt =
      ap (place_in (record { uniform = i; element = e; word = w })) has
      ∙ (λ j. Some (record { uniform = u; element = sym (add-zero e) j; word = (sym (add-zero w) ∙ ap (λ k. w + k) (sym (zero-mul step))) j }))
  at_element u i step e w (suc n) (suc l) has lt =
      let e_is : e + 1 + l ≡ e + suc l = omega arith in
      let w_is : w + step + l * step ≡ w + suc l * step = omega (arith, suc-mul l step) in
      at_element u i step (e + 1) (w + step) n l has (omega arith) ∙ (λ j. Some (record { uniform = u; element = e_is j; word = w_is j }))

length-elements : (i step e w n : ℕ) → length (element_places i step e w n) ≡ n
length-elements i step e w zero = refl
length-elements i step e w (suc n) = ap suc (length-elements i step (e + 1) (w + step) n)

-- an element of the first list, or of the second
got_first : (xs ys : List Place) (l : ℕ) → l < length xs → slice_get (xs ++ ys) l ≡ slice_get xs l
got_first [] ys l lt = absurd (omega arith)
got_first (x ∷ xs) ys zero lt = refl
got_first (x ∷ xs) ys (suc l) lt = got_first xs ys l (omega arith)

got_second : (xs ys : List Place) (l : ℕ) → length xs ≤ l → slice_get (xs ++ ys) l ≡ slice_get ys (l - length xs)
got_second [] ys l le = ap (slice_get ys) (sub-is l) where
  sub-is : (n : ℕ) → n ≡ n - 0
  sub-is n = omega arith
got_second (x ∷ xs) ys zero le = absurd (omega arith)
got_second (x ∷ xs) ys (suc l) le = got_second xs ys l (omega arith) ∙ ap (slice_get ys) (sub-is l (length xs)) where
  sub-is : (n m : ℕ) → n - m ≡ suc n - suc m
  sub-is n m = omega arith

-- the uniforms from an index on are those that are left
abbrev Left : List Uniform → ℕ → List Uniform → Type 0
Left all i us = (k : ℕ) → slice_get all (i + k) ≡ slice_get us k

table_at : (all us : List Uniform) (i w l : ℕ) → Left all i us → kept_place all (slice_get (table_from us i w) l) ≡ place_from us l w
table_at all [] i w l left = refl
table_at all (u ∷ us) i w l left = elim (cases_lt l u.size) [
  | inl lt ↦ got (nat_lt l u.size) true (lt-ltb l u.size lt) (first lt)
  | inr ge ↦ got (nat_lt l u.size) false (le-ltb l u.size ge) (second ge (table_at all us (i + 1) (w + u.size * words_of u.kind) (l - u.size) (λ k. ap (slice_get all) (further i k) ∙ left (suc k))))
] where
  got : (b v : Bool) → b ≡ v → kept_place all (slice_get (table_from (u ∷ us) i w) l) ≡ (if v then Some (record { uniform = u; element = l; word = w + l * words_of u.kind }) else place_from us (l - u.size) (w + u.size * words_of u.kind))
      → kept_place all (slice_get (table_from (u ∷ us) i w) l) ≡ (if b then Some (record { uniform = u; element = l; word = w + l * words_of u.kind }) else place_from us (l - u.size) (w + u.size * words_of u.kind))
  got b v is t = rw is t

  here : slice_get all i ≡ Some u
  here = ap (slice_get all) (sym (add-zero i)) ∙ left 0

  further : (i k : ℕ) → i + 1 + k ≡ i + suc k
  further i k = omega arith

  front : List Place
  front = element_places i (words_of u.kind) 0 w u.size

  rest : List Place
  rest = table_from us (i + 1) (w + u.size * words_of u.kind)

  len : length front ≡ u.size
  len = length-elements i (words_of u.kind) 0 w u.size

  first : l < u.size → kept_place all (slice_get (front ++ rest) l) ≡ Some (record { uniform = u; element = l; word = w + l * words_of u.kind })
  first lt = ap (kept_place all) (got_first front rest l (omega (arith, len))) ∙ at_element all u i (words_of u.kind) 0 w u.size l here lt ∙ (λ j. Some (record { uniform = u; element = zero-add l j; word = w + l * words_of u.kind }))

  second : u.size ≤ l → kept_place all (slice_get rest (l - u.size)) ≡ place_from us (l - u.size) (w + u.size * words_of u.kind) → kept_place all (slice_get (front ++ rest) l) ≡ place_from us (l - u.size) (w + u.size * words_of u.kind)
  second ge after = ap (kept_place all) (got_second front rest l (omega (arith, len)) ∙ ap (λ n. slice_get rest (l - n)) len) ∙ after

pub is_table : (us : List Uniform) (places : List Place) → places ≡ table_from us 0 0 → IsTable us places
is_table us places is location = ap (λ (ps : List Place). kept_place us (slice_get ps location)) is ∙ table_at us us 0 0 location (λ k. ap (slice_get us) (zero-add k))

-- the words of what is left of a uniform from an element on lie among those of all
found_here : (l size w step words : ℕ) → l < size → w + l * step + (size - l) * step ≤ w + (size * step + words)
found_here l size w step words lt =
    let e : l + (size - l) ≡ size = omega arith in
    let h : size * step ≡ l * step + (size - l) * step = ap (λ n. n * step) (sym e) ∙ add-mul l (size - l) step in
    omega (arith, h)

pub place_bound : (us : List Uniform) (l w : ℕ) (p : ElementPlace) → place_from us l w ≡ Some p → p.word + (p.uniform.size - p.element) * words_of p.uniform.kind ≤ w + words_in us
place_bound [] l w p is = absurd (cc)
place_bound (u ∷ us) l w p is = elim (cases_lt l u.size) [
  | inl lt ↦ here lt (same_Some _ _ (sym (ap (λ b. chosen b) (lt-ltb l u.size lt)) ∙ is))
  | inr ge ↦ omega (arith, place_bound us (l - u.size) (w + u.size * words_of u.kind) p (sym (ap (λ b. chosen b) (le-ltb l u.size ge)) ∙ is))
] where
  chosen : Bool → Option ElementPlace
  chosen b = if b then Some (record { uniform = u; element = l; word = w + l * words_of u.kind }) else place_from us (l - u.size) (w + u.size * words_of u.kind)

  here : l < u.size → record { uniform = u; element = l; word = w + l * words_of u.kind } ≡ p → p.word + (p.uniform.size - p.element) * words_of p.uniform.kind ≤ w + (u.size * words_of u.kind + words_in us)
  here lt e = subst (λ (q : ElementPlace). q.word + (q.uniform.size - q.element) * words_of q.uniform.kind ≤ w + (u.size * words_of u.kind + words_in us)) e (found_here l u.size w (words_of u.kind) (words_in us) lt)

element_here : (l size w step words : ℕ) → l < size → w + l * step + step ≤ w + (size * step + words)
element_here l size w step words lt =
    let more : (l + 1) * step ≤ size * step = mul-le-mul_right {m = l + 1} {n = size} step (omega arith) in
    let one : (l + 1) * step ≡ l * step + step = add-mul l 1 step ∙ ap (λ n. l * step + n) (one-mul step) in
    omega (arith, more, one)

-- the words of an element are among those of the uniforms
pub element_bound : (us : List Uniform) (l w : ℕ) (p : ElementPlace) → place_from us l w ≡ Some p → p.word + words_of p.uniform.kind ≤ w + words_in us
element_bound [] l w p is = absurd (cc)
element_bound (u ∷ us) l w p is = elim (cases_lt l u.size) [
  | inl lt ↦ here lt (same_Some _ _ (sym (ap (λ b. chosen b) (lt-ltb l u.size lt)) ∙ is))
  | inr ge ↦ omega (arith, element_bound us (l - u.size) (w + u.size * words_of u.kind) p (sym (ap (λ b. chosen b) (le-ltb l u.size ge)) ∙ is))
] where
  chosen : Bool → Option ElementPlace
  chosen b = if b then Some (record { uniform = u; element = l; word = w + l * words_of u.kind }) else place_from us (l - u.size) (w + u.size * words_of u.kind)

  here : l < u.size → record { uniform = u; element = l; word = w + l * words_of u.kind } ≡ p → p.word + words_of p.uniform.kind ≤ w + (u.size * words_of u.kind + words_in us)
  here lt e = subst (λ (q : ElementPlace). q.word + words_of q.uniform.kind ≤ w + (u.size * words_of u.kind + words_in us)) e (element_here l u.size w (words_of u.kind) (words_in us) lt)

-- so they lie inside the values
pub element_inside : (us : List Uniform) (location : ℤ) (p : ElementPlace) → place_of us location ≡ Some p → p.word + words_of p.uniform.kind ≤ words_in us
element_inside us (pos l) p is = omega (arith, element_bound us l 0 p is)
element_inside us (negsuc l) p is = absurd (cc)

rows_some : (a b c : Bool) → 1 ≤ (if a then 2 else if b then 3 else if c then 4 else 1)
rows_some true b c = omega arith
rows_some false true c = omega arith
rows_some false false true = omega arith
rows_some false false false = omega arith

pub words_some : (kind : GlEnum) → 1 ≤ words_of kind
words_some kind = one-le-mul {a = columns kind} {b = rows kind} (rows_some _ _ _) (rows_some _ _ _)
