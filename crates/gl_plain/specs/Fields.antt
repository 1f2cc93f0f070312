-- The fields of a line: what separates them, numbers, and bytes in hexadecimal.
use Rattle.std.specs.Prelude.{ℕ, ◌+◌, ◌*◌, ◌^◌, List, [], ◌∷◌, length, take, drop, ◌==◌, ◌&&◌, nat_lt, nat_le, if◌then◌else◌, Option, Some, None, position}
use Rattle.std.specs.Result.{result_ok}
use Rattle.hex.specs.Hex.{decode_of, hex_digit_value}

-- the byte of a line feed
abbrev pub line_feed : ℕ
line_feed = 10

-- the byte of a space
abbrev pub space : ℕ
space = 32

-- the byte of `#`
abbrev pub number_sign : ℕ
number_sign = 35

-- the byte of `-`
abbrev pub hyphen : ℕ
hyphen = 45

-- the byte of the digit `0`
abbrev pub digit_zero : ℕ
digit_zero = 48

-- the byte of `x`
abbrev pub letter_x : ℕ
letter_x = 120

infixl 10 ◌>>=◌
-- the next step, if the first gave a value
abbrev pub ◌>>=◌ : {A B : Type 0} → Option A → (A → Option B) → Option B
Some x >>= f = f x
None >>= f = None

-- what stands before the first such byte, and what stands after it
unfoldable pub cut_at : ℕ → List ℕ → Option (List ℕ × List ℕ)
cut_at byte text = position (λ c. c == byte) text >>= (λ i. Some (take i text, drop (i + 1) text))

-- the value of a digit in a base of at most 16, with letters in either case
abbrev pub digit_in : ℕ → ℕ → Option ℕ
digit_in base c = hex_digit_value c >>= (λ d. if nat_lt d base then Some d else None)

-- the number that digits spell behind a front that is worth n
abbrev pub value_on : ℕ → ℕ → List ℕ → Option ℕ
value_on base n [] = Some n
value_on base n (c ∷ cs) = digit_in base c >>= (λ d. value_on base (n * base + d) cs)

-- a number of 32 bits
abbrev pub fitting : ℕ → Option ℕ
fitting n = if nat_lt n (2 ^ 32) then Some n else None

-- the number of 32 bits that digits of a base spell
unfoldable pub digits_in : ℕ → List ℕ → Option ℕ
digits_in base digits = value_on base 0 digits >>= fitting

-- a number is decimal without leading zeros, or `0x` and 1 to 8 hexadecimal digits, and has 32 bits
unfoldable pub number_in : List ℕ → Option ℕ
number_in [] = None
number_in (c ∷ []) = digits_in 10 (c ∷ [])
number_in (c ∷ d ∷ ds) =
    if (c == digit_zero) && (d == letter_x) then (if nat_lt 0 (length ds) && nat_le (length ds) 8 then digits_in 16 ds else None)
    else if c == digit_zero then None else digits_in 10 (c ∷ d ∷ ds)

-- bytes are a positive even number of hexadecimal digits, or `-` for none
unfoldable pub bytes_in : List ℕ → Option (List ℕ)
bytes_in [] = None
bytes_in (c ∷ []) = if c == hyphen then Some [] else None
bytes_in (c ∷ d ∷ ds) = result_ok (decode_of (c ∷ d ∷ ds))
