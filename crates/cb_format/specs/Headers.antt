-- Headers: the first word of each command.
use Rattle.std.specs.Prelude.{ℕ, ◌+◌, ◌*◌, ◌^◌}
use Rattle.cb_format.specs.Ring.{size_in, number_in}
use Rattle.cb_format.specs.declared.headers.Header.{Header}

-- a header's low 21 bits are its size, and its high 11 bits its number
abbrev pub header_of : ℕ → Header
header_of word = record { size = size_in word; number = number_in word }

-- the word whose low 21 bits are a size below 2 ^ 21, and whose high bits are the number
abbrev pub header_word : Header → ℕ
header_word h = h.number * 2 ^ 21 + h.size
