-- Floats by their patterns of bits (IEEE 754, binary32). The patterns above that of infinity are those that are not numbers, and those of
-- negative floats.
use Prim.Native.Nat.{zero, suc}
use Rattle.std.specs.Prelude.{ℕ, ℤ, pos, int_lt, unsigned_abs, Bool, ◌+◌, ◌*◌, ◌/◌, ◌%◌, ◌^◌, ◌==◌, ◌||◌, nat_lt, if◌then◌else◌}
use Rattle.gl_base.specs.declared.enums.TheConstants.{INFINITY, NEGATIVE_ZERO, ONE}
use Rattle.gl_base.specs.declared.float_bits.FloatBits.{FloatBits}

-- the nearest pattern from that of 0 to that of 1: 0 for a negative float and for what is not a number
abbrev pub clamped_pattern : ℕ → ℕ
clamped_pattern pattern = if nat_lt INFINITY pattern then 0 else if nat_lt ONE pattern then ONE else pattern

abbrev pub clamped : FloatBits → FloatBits
clamped x = record { 0 = clamped_pattern x.0 }

-- the float is 0, negative, or not a number
abbrev pub is_negative_or_zero : FloatBits → Bool
is_negative_or_zero x = (x.0 == 0) || nat_lt INFINITY x.0

-- Whole numbers as floats

-- the first exponent from this one on, of so many, whose next power of two is above the number
unfoldable pub exponent_from : (left exponent : ℕ) → ℕ → ℕ
exponent_from zero exponent n = exponent
exponent_from (suc left) exponent n = if nat_lt n (2 ^ (exponent + 1)) then exponent else exponent_from left (exponent + 1) n

-- the exponent of a number of at most 32 bits: its greatest power of two
unfoldable pub exponent_of : ℕ → ℕ
exponent_of n = exponent_from 31 0 n

-- the nearest whole number to a quotient, and of two that are as near the even one
abbrev pub nearest : ℕ → ℕ → ℕ
nearest a b =
    if nat_lt (2 * (a % b)) b then a / b
    else if nat_lt b (2 * (a % b)) then a / b + 1
    else a / b + (a / b) % 2

-- A float of 24 bits, of which the first is 1, has its exponent, more 127, above 23 bits, which are the others. A number that is rounded up to the
-- next power of two comes to that of the next exponent, and 0 has the pattern 0.
abbrev pub natural_pattern : ℕ → ℕ
natural_pattern n = if n == 0 then 0 else (exponent_of n + 126) * 2 ^ 23 + nearest (n * 2 ^ 23) (2 ^ exponent_of n)

-- the sign stands above all other bits
abbrev pub int_pattern : ℤ → ℕ
int_pattern n = if int_lt n (pos 0) then NEGATIVE_ZERO + natural_pattern (unsigned_abs n) else natural_pattern (unsigned_abs n)

-- the float that is nearest to a whole number, and of two that are as near the one whose last bit is 0
abbrev pub from_int : ℤ → FloatBits
from_int n = record { 0 = int_pattern n }

-- the float is 0, with either sign
abbrev pub is_zero_pattern : ℕ → Bool
is_zero_pattern pattern = (pattern == 0) || (pattern == NEGATIVE_ZERO)
