-- Lists of bytes: parts of them, bytes written over others, and words as bytes.
use Rattle.std.specs.Prelude.{ℕ, ◌+◌, ◌*◌, List, [], ◌∷◌, ◌++◌, length, take, drop}
use Prim.Native.Nat.{zero, suc}
use Rattle.std.specs.List.{flat_map}
use Rattle.std.specs.Int.{from_le_bytes, to_le_bytes, w32}

-- so many bytes from an offset on
abbrev pub part : List ℕ → ℕ → ℕ → List ℕ
part bytes offset count = take count (drop offset bytes)

-- bytes, with others from an offset on
abbrev pub overwritten : List ℕ → ℕ → List ℕ → List ℕ
overwritten old offset bytes = take offset old ++ bytes ++ drop (offset + length bytes) old

-- words as bytes: each word is four bytes, the lowest first
abbrev pub bytes_of_words : List ℕ → List ℕ
bytes_of_words words = flat_map (to_le_bytes w32) words

-- the word at a place: four bytes, the lowest first
abbrev pub word_at : List ℕ → ℕ → ℕ
word_at bytes place = from_le_bytes w32 (take 4 (drop (4 * place) bytes))

-- so many words from a place on
abbrev pub words_from : List ℕ → ℕ → ℕ → List ℕ
words_from bytes place zero = []
words_from bytes place (suc n) = word_at bytes place ∷ words_from bytes (place + 1) n
