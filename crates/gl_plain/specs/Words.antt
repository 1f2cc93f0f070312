-- Words of commands as arguments, and signed numbers.
use Rattle.std.specs.Prelude.{ℕ, ℤ, pos, negsuc, Bool, true, false, not, ◌+◌, ◌%◌, ◌^◌, ◌==◌, List, slice_index}
use Rattle.std.specs.Int.{cast_signed, w32}
use Rattle.gl_base.specs.declared.gl_enum.GlEnum.{GlEnum}
use Rattle.gl_base.specs.declared.float_bits.FloatBits.{FloatBits}
use Rattle.gl_plain.specs.declared.commands.DataWords.{DataWords}
use Rattle.gl_plain.specs.declared.commands.ArrayWords.{ArrayWords}
use Rattle.gl_plain.specs.declared.image_words.ImageWords.{ImageWords}
use Rattle.gl_plain.specs.declared.image_words.PartWords.{PartWords}
use Rattle.gl_plain.specs.declared.image_words.CopyWords.{CopyWords}
use Rattle.gl_plain.specs.declared.image_words.CopyPartWords.{CopyPartWords}
use Rattle.gl_plain.specs.declared.image_words.ReadWords.{ReadWords}

-- the number is below 0
abbrev pub is_negative : ℤ → Bool
is_negative (pos n) = false
is_negative (negsuc n) = true

-- the number, or 0 for a negative one
abbrev pub natural : ℤ → ℕ
natural (pos n) = n
natural (negsuc n) = 0

-- a count as a word of 32 bits
abbrev pub as_word : ℕ → ℕ
as_word n = n % 2 ^ 32

-- a word as an enum
abbrev pub enum_at : List ℕ → ℕ → GlEnum
enum_at words i = record { 0 = slice_index words i }

-- a word as a signed number, in two's complement
abbrev pub signed_at : List ℕ → ℕ → ℤ
signed_at words i = cast_signed w32 (slice_index words i)

-- a word as a float, which is given by its pattern
abbrev pub float_at : List ℕ → ℕ → FloatBits
float_at words i = record { 0 = slice_index words i }

-- a word as a boolean: true where it is not 0
abbrev pub bool_at : List ℕ → ℕ → Bool
bool_at words i = not (slice_index words i == 0)

-- the four words of a command's data, from a place on
abbrev pub data_at : List ℕ → ℕ → DataWords
data_at words i = record { source = slice_index words i; count = slice_index words (i + 1); a = slice_index words (i + 2); b = slice_index words (i + 3) }

-- the words of VertexAttribPointer behind its index
abbrev pub array_at : List ℕ → ArrayWords
array_at words = record { size = signed_at words 1; kind = enum_at words 2; normalized = bool_at words 3; stride = signed_at words 4; offset = slice_index words 5 }

-- the words of TexImage2D before its data
abbrev pub image_at : List ℕ → ImageWords
image_at words = record { target = enum_at words 0; level = signed_at words 1; internal = enum_at words 2; width = signed_at words 3; height = signed_at words 4; border = signed_at words 5; format = enum_at words 6; kind = enum_at words 7 }

-- the words of TexSubImage2D before its data
abbrev pub part_at : List ℕ → PartWords
part_at words = record { target = enum_at words 0; level = signed_at words 1; x = signed_at words 2; y = signed_at words 3; width = signed_at words 4; height = signed_at words 5; format = enum_at words 6; kind = enum_at words 7 }

-- the words of CopyTexImage2D
abbrev pub copy_at : List ℕ → CopyWords
copy_at words = record { target = enum_at words 0; level = signed_at words 1; internal = enum_at words 2; x = signed_at words 3; y = signed_at words 4; width = signed_at words 5; height = signed_at words 6; border = signed_at words 7 }

-- the words of CopyTexSubImage2D
abbrev pub copy_part_at : List ℕ → CopyPartWords
copy_part_at words = record { target = enum_at words 0; level = signed_at words 1; xoffset = signed_at words 2; yoffset = signed_at words 3; x = signed_at words 4; y = signed_at words 5; width = signed_at words 6; height = signed_at words 7 }

-- the words of ReadPixels before its bucket
abbrev pub read_at : List ℕ → ReadWords
read_at words = record { x = signed_at words 0; y = signed_at words 1; width = signed_at words 2; height = signed_at words 3; format = enum_at words 4; kind = enum_at words 5 }
