-- Layouts of commands, and what the tests of a header leave.
use Rattle.std.proofs.Common.{◌≡◌, ◌∙◌, sym, ℕ, Bool, ◌+◌, ◌==◌, ◌<◌, ◌≤◌, ◌⊎◌, inl, inr, true, false, cond, nat_lt, nat_le, [], refl, ap, Option, None, Some, IfSome, arith, subst}
use Rattle.std.proofs.lemmas.Bool.Decides.{nat_tests}
use Rattle.gl_plain.specs.declared.commands.Malformed.{Malformed}
use Rattle.gl_plain.specs.declared.commands.Malformed.TheVariants.{OutOfBounds, InvalidSize, InvalidArguments}
use Rattle.cb_format.specs.declared.layouts.Layout.{Layout}
use Rattle.cb_format.specs.declared.layouts.Plan.TheVariants as plan
use Rattle.cb_format.specs.Layouts.{IsFitting, layout_of}
use Rattle.cb_format.specs.Plans.{bucket_plan, plan_in, plan_by, plan_of}
use Rattle.cb_format.specs.Ring.{first_fault, layout_fault, number_in, size_in, ready}
use Rattle.cb_format.proofs.Fitting.{layout_of_fits}
use Rattle.cb_fetch.specs.Begun.{word_count, words_in}
use Rattle.cb_fetch.specs.Steps.{HasLayout}

fits : (number : ℕ) (l : Layout) → layout_of number ≡ Some l → IsFitting l
fits number l e = subst (λ (o : Option Layout). IfSome o IsFitting) e (layout_of_fits number)

pub words_of : (header : ℕ) (l : Layout) → layout_of (number_in header) ≡ Some l → word_count header ≡ l.words
words_of header l e = ap words_in e

-- all tests before the last one of a header hold
none_of : (a b c : Bool) (last : Option Malformed) → cond a (Some OutOfBounds) (cond b (Some InvalidSize) (cond c (Some OutOfBounds) last)) ≡ None
    → (a ≡ false) × (b ≡ false) × (c ≡ false) × (last ≡ None)
none_of true b c last e = cc
none_of false true c last e = cc
none_of false false true last e = cc
none_of false false false last e = (refl, refl, refl, e)

module _ (entries put get header : ℕ) (fair : first_fault entries put get header ≡ None) where
  tests : (nat_le entries put ≡ false) × ((size_in header == 0) ≡ false) × (nat_lt (ready entries put get) (size_in header) ≡ false) × (layout_fault (size_in header) (layout_of (number_in header)) ≡ None)
  unfolding first_fault
  tests = none_of (nat_le entries put) (size_in header == 0) (nat_lt (ready entries put get) (size_in header)) (layout_fault (size_in header) (layout_of (number_in header))) fair

  -- the size of a command that passed the tests of its header is at most what is ready
  pub put_below : put < entries
  put_below = grind (arith, nat_tests, tests.0)

  pub size_some : 0 < size_in header
  size_some = grind (arith, nat_tests, tests.1)

  pub size_ready : size_in header ≤ ready entries put get
  size_ready = fit (ready entries put get) tests.2 where
    fit : (r : ℕ) → nat_lt r (size_in header) ≡ false → size_in header ≤ r
    fit r c = grind (arith, nat_tests)

  within : get < entries → get + size_in header ≤ entries
  within lt =
      let below = put_below in
      let t = tests.2 in
      grind (arith, nat_tests)

has_size : (any same : Bool) → cond any None (cond same None (Some InvalidArguments)) ≡ None → (any ≡ true) ⊎ (same ≡ true)
has_size true same e = inl refl
has_size false true e = inr refl
has_size false false e = cc

sized : (size : ℕ) (l : Layout) → IsFitting l → layout_fault size (Some l) ≡ None → 0 < l.words → size ≡ l.words + 1
sized size l fitting e lt = by_size (has_size l.any_size (size == l.words + 1) e) where
  by_size : (l.any_size ≡ true) ⊎ ((size == l.words + 1) ≡ true) → size ≡ l.words + 1
  by_size (inl free) = absurd (omega (arith, fitting.free_has_none free))
  by_size (inr same) = grind (arith, nat_tests)

-- what the five tests of a header leave
pub has_layout : (entries put get header : ℕ) (l : Layout) → get < entries → layout_of (number_in header) ≡ Some l → first_fault entries put get header ≡ None → HasLayout entries get header l
has_layout entries put get header l lt known fair =
    let fitting = fits (number_in header) l known in
    record {
      known = known;
      fitting = fitting;
      sized = sized (size_in header) l fitting (subst (λ (o : Option Layout). layout_fault (size_in header) o ≡ None) known (tests entries put get header fair).3);
      some = size_some entries put get header fair;
      inside = within entries put get header fair lt;
    }

-- a put that is not below the entries is the first fault
pub put_fault : (entries put get header : ℕ) → entries ≤ put → first_fault entries put get header ≡ Some OutOfBounds
unfolding first_fault
put_fault entries put get header le =
    let t : nat_le entries put ≡ true = grind (arith, nat_tests) in
    rw t refl

-- a command without words names no range
bare_by : (payload reply : Option ℕ) (most words : ℕ) → words ≡ 0 → IfSome payload (λ at. at + 4 ≡ words) → IfSome reply (λ at. at + 2 ≡ words) → plan_by payload reply most [] ≡ plan.Nothing
bare_by None None most words e p r = refl
bare_by (Some at) reply most words e p r = absurd (omega (arith, p))
bare_by None (Some at) most words e p r = absurd (omega (arith, r))

bare_in : (number : ℕ) (l : Layout) → layout_of number ≡ Some l → l.words ≡ 0 → plan_in (layout_of number) [] ≡ plan.Nothing
bare_in number l e none = rw e (bare_by l.payload_at l.result_at l.result_words l.words none (fits number l e).payload_ends (fits number l e).result_ends)

words_in_layout : Option Layout → ℕ
words_in_layout None = 0
words_in_layout (Some l) = l.words

-- GetBucketData has five words
five_words : words_in_layout (layout_of 5) ≡ 5
unfolding layout_of words_in_layout
five_words = refl

not_five : (number : ℕ) (l : Layout) → layout_of number ≡ Some l → l.words ≡ 0 → (number == 5) ≡ true → ⊥
unfolding words_in_layout
not_five number l e none five =
    let is : number ≡ 5 = grind (arith, nat_tests) in
    let there : layout_of 5 ≡ Some l = subst (λ n. layout_of n ≡ Some l) is e in
    let words : 5 ≡ l.words = sym five_words ∙ ap words_in_layout there in
    absurd (omega arith)

pub bare_plan : (number : ℕ) (l : Layout) → layout_of number ≡ Some l → l.words ≡ 0 → plan_of number [] ≡ plan.Nothing
bare_plan number l e none = chosen (number == 5) (not_five number l e none) where
  chosen : (b : Bool) → (b ≡ true → ⊥) → cond b (bucket_plan []) (plan_in (layout_of number) []) ≡ plan.Nothing
  chosen true apart = absurd (apart refl)
  chosen false apart = bare_in number l e none
