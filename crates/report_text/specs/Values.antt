-- The arguments of a call as they are printed.
use Rattle.std.specs.Prelude.{ℕ, ◌-◌, List, [], ◌∷◌, ◌++◌, length, map, take, replicate, Bool, true, ◌==◌, nat_le, if◌then◌else◌, Option, None, Some, codes}
use Rattle.std.specs.Borrow.{Bor}
use Rattle.std.specs.Fmt.{decimal, signed_decimal, digits}
use Rattle.hex.specs.Hex.{encode_lower}
use Rattle.gl_plain.specs.Fields.{digit_zero}
use Rattle.report_text.specs.declared.arguments.Argument.{Argument}
use Rattle.report_text.specs.declared.arguments.Argument.TheVariants.{Number, Signed, Enum, Flag, Patterns, Data, Given}
use Rattle.gl_plain.specs.declared.calls.Payload.{Payload}
use Rattle.gl_plain.specs.declared.calls.Payload.TheVariants.{Absent, Here}
use Rattle.report_text.specs.declared.values.TheConstants.{SHOWN}

-- a number is `0x` and its upper-case digits, with zeros before them where they are fewer than the width
abbrev pub upper_hex : ℕ → ℕ → List ℕ
upper_hex width value =
    let numeral = digits 16 true value in
    codes "0x" ++ (replicate (width - length numeral) digit_zero ++ numeral)

-- an enum has at least four digits
unfoldable pub enum_text : ℕ → List ℕ
enum_text value = upper_hex 4 value

-- the pattern of a float, and a word of the fixed state, has eight digits
unfoldable pub pattern_text : ℕ → List ℕ
pattern_text value = upper_hex 8 value

-- what is so or not is 1 or 0
abbrev pub flag_text : Bool → List ℕ
flag_text flag = if flag then codes "1" else codes "0"

-- of bytes the first 32 are shown in lower case, with `+` where there are more, and `-` where there are none
unfoldable pub shown_bytes : List ℕ → List ℕ
shown_bytes bytes =
    if length bytes == 0 then codes "-"
    else if nat_le (length bytes) SHOWN then encode_lower bytes
    else encode_lower (take SHOWN bytes) ++ codes "+"

-- bytes are their number, a colon and what is shown of them
unfoldable pub bytes_text : List ℕ → List ℕ
bytes_text bytes = decimal (length bytes) ++ (codes ":" ++ shown_bytes bytes)

-- data is the word `none` where it is absent
unfoldable pub payload_text : Payload → List ℕ
payload_text Absent = codes "none"
payload_text (Here bytes) = bytes_text bytes

-- the same of bytes that are given, or not
unfoldable pub given_text : Option (Bor (List ℕ)) → List ℕ
given_text None = codes "none"
given_text (Some bytes) = bytes_text bytes.now

-- the words of arguments
abbrev pub words : List Argument → List (List ℕ)
words [] = []
words (Number number ∷ rest) = decimal number ∷ words rest
words (Signed number ∷ rest) = signed_decimal number ∷ words rest
words (Enum value ∷ rest) = enum_text value.0 ∷ words rest
words (Flag flag ∷ rest) = flag_text flag ∷ words rest
words (Patterns patterns ∷ rest) = map pattern_text patterns.now ++ words rest
words (Data bytes ∷ rest) = bytes_text bytes.now ∷ words rest
words (Given bytes ∷ rest) = given_text bytes ∷ words rest
