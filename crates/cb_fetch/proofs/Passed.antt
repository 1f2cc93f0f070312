-- What was copied of a command that passed its tests so far, and what is left of it.
use Rattle.std.proofs.Common.{◌≡◌, ◌<◌, ◌≤◌, ℕ, ◌-◌, ◌==◌, Bool, true, false, cond, min, nat_lt, List, length, None, Some, IsSome, refl, sym, ◌∙◌, arith}
use Rattle.std.proofs.lemmas.Bool.Decides.{nat_tests}
use Rattle.gl_base.specs.declared.limits.TheConstants.{COPY_LIMIT}
use Rattle.gl_plain.specs.declared.commands.Fetched.{Fetched}
use Rattle.cb_format.specs.declared.layouts.Layout.{Layout}
use Rattle.cb_format.specs.declared.layouts.Plan.{Plan}
use Rattle.cb_format.specs.declared.layouts.Plan.TheVariants as plan
use Rattle.cb_format.specs.Plans.{plan_of, data_count}
use Rattle.cb_format.specs.Ring.{number_in}
use Rattle.cb_fetch.specs.Begun.{Begun, Nothing, Header, Body, Range, next_range, next_piece, piece_range, word_count, fetched_in}
use Rattle.cb_fetch.specs.Readable.{IsReadable}
use Rattle.cb_fetch.specs.Steps.{HasLayout, IsFront}
use Rattle.cb_fetch.proofs.Layouts.{words_of, bare_plan}

-- a header and words that passed their tests, and so many bytes of data
pub record HasWords (entries get header : ℕ) (words : List ℕ) (done : ℕ) : Type 0 where
  pub layout : Layout
  pub passed : HasLayout entries get header layout
  pub some : 0 < layout.words
  pub counted : length words ≡ layout.words
  pub front : IsFront (plan_of (number_in header) words) done

-- what was copied passed its tests so far; it may be all of the command
abbrev pub HasPassed : ℕ → ℕ → Begun → Type 0
HasPassed entries get Nothing = ⊥
HasPassed entries get (Header header) = (layout : Layout) × HasLayout entries get header layout
HasPassed entries get (Body header words payload) = HasWords entries get header words (length payload)

pub no_count : (w : ℕ) (r : Range) → cond (w == 0) None (Some r) ≡ None → w ≡ 0
no_count w r s = by_test (w == 0) refl s where
  by_test : (b : Bool) → (w == 0) ≡ b → cond b None (Some r) ≡ None → w ≡ 0
  by_test true e s = grind (arith, nat_tests)
  by_test false e s = cc

pub some_left : (done count : ℕ) (r : Range) → IsSome (cond (nat_lt done count) (Some r) None) → done < count
some_left done count r s = by_test (nat_lt done count) refl s where
  by_test : (b : Bool) → nat_lt done count ≡ b → IsSome (cond b (Some r) None) → done < count
  by_test true e s = grind (arith, nat_tests)
  by_test false e s = cc

pub none_left : (done count : ℕ) (r : Range) → cond (nat_lt done count) (Some r) None ≡ None → count ≤ done
none_left done count r s = by_test (nat_lt done count) refl s where
  by_test : (b : Bool) → nat_lt done count ≡ b → cond b (Some r) None ≡ None → count ≤ done
  by_test true e s = cc
  by_test false e s = grind (arith, nat_tests)

-- the bytes of the next piece
pub piece_some : (p : Plan) (done : ℕ) (r : Range) → next_piece p done ≡ Some r → (0 < r.count) × (r.count ≤ data_count p - done) × (done < data_count p)
piece_some plan.Nothing done r e = cc
piece_some (plan.Write region offset count) done r e = cc
piece_some (plan.Read region offset count) done r e = by_test (nat_lt done count) refl e where
  by_test : (b : Bool) → nat_lt done count ≡ b → cond b (Some (piece_range (record { region = region; offset = offset; count = count }) done)) None ≡ Some r → (0 < r.count) × (r.count ≤ count - done) × (done < count)
  by_test false t e = cc
  by_test true t e =
      let lt : done < count = grind (arith, nat_tests) in
      let n : min COPY_LIMIT (count - done) ≡ r.count = cc in
      (omega (arith, n), omega (arith, n), lt)

-- all of the data was copied
all_data : (p : Plan) (done : ℕ) → IsFront p done → next_piece p done ≡ None → done ≡ data_count p
all_data plan.Nothing done front whole = front
all_data (plan.Write region offset count) done front whole = front
all_data (plan.Read region offset count) done front whole =
    let le = none_left done count _ whole in
    omega (arith, front.0)

-- a command that was copied whole is readable
pub readable : (entries get : ℕ) (now : Begun) (command : Fetched) → HasPassed entries get now → next_range get now ≡ None → command ≡ fetched_in get now → IsReadable command
readable entries get Nothing command passed whole is = absurd passed
readable entries get (Header header) command (layout, p) whole is =
    let none : layout.words ≡ 0 = sym (words_of header layout p.known) ∙ no_count (word_count header) _ whole in
    rw is (record { layout = layout; known = p.known; words = sym none; payload = rw (bare_plan (number_in header) layout p.known none) refl })
readable entries get (Body header words payload) command p whole is =
    rw is (record { layout = p.layout; known = p.passed.known; words = p.counted; payload = all_data (plan_of (number_in header) words) (length payload) p.front whole })
