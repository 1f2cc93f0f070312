-- Worked rows, as the definitions answer them.
use Rattle.std.proofs.Common.{◌≡◌, ℕ, [], ◌∷◌, ◌==◌, if◌then◌else◌, Option, None, Some, refl}
use Rattle.gl_plain.specs.declared.calls.Reply.TheVariants.{Error}
use Rattle.gl_plain.specs.declared.commands.Malformed.TheVariants.{InvalidSize, OutOfBounds, UnknownCommand, InvalidArguments}
use Rattle.cb_format.specs.Layouts.{layout_of}
use Rattle.cb_format.specs.Plans.{plan_of}
use Rattle.cb_format.specs.Ring.{first_fault, range_fault}
use Rattle.cb_format.specs.Replied.{reply_bytes}

-- the tests of a header, in their order: put at the number of entries, a size of 0, more than is ready, also at the ring's end, a number
-- that no command has, a size that is not the layout's
headers : (first_fault 4 4 0 0 ≡ Some OutOfBounds) × (first_fault 4 1 0 0 ≡ Some InvalidSize) × (first_fault 4 1 0 0x00200002 ≡ Some OutOfBounds)
    × (first_fault 4 0 3 0x00200002 ≡ Some OutOfBounds) × (first_fault 8 4 3 0xFFE00001 ≡ Some UnknownCommand) × (first_fault 8 4 0 0x00200003 ≡ Some InvalidArguments)
    × (first_fault 8 4 0 0x20200003 ≡ Some InvalidArguments) × (first_fault 8 4 0 0x20200002 ≡ None) × (first_fault 8 0 6 0x00200002 ≡ None) × (first_fault 8 4 0 4 ≡ None)
unfolding first_fault layout_of
headers = (refl, refl, refl, refl, refl, refl, refl, refl, refl, refl)

abbrev one_region : ℕ → Option ℕ
one_region region = if region == 1 then Some 8 else None

-- the words of GetError name a range of 8 bytes
ranges : (range_fault one_region (plan_of 327 (1 ∷ 0 ∷ [])) ≡ None) × (range_fault one_region (plan_of 327 (1 ∷ 1 ∷ [])) ≡ Some OutOfBounds) × (range_fault one_region (plan_of 327 (2 ∷ 0 ∷ [])) ≡ Some OutOfBounds)
unfolding layout_of
ranges = (refl, refl, refl)

-- a reply of one word is eight bytes
reply_in_bytes : reply_bytes (Error 0x0500) ≡ 1 ∷ 0 ∷ 0 ∷ 0 ∷ 0 ∷ 5 ∷ 0 ∷ 0 ∷ []
reply_in_bytes = refl
