-- A reply as it is written into shared memory.
use Rattle.std.specs.Prelude.{ℕ, List, [], ◌∷◌, length}
use Rattle.gl_plain.specs.declared.calls.Reply.{Reply}
use Rattle.gl_plain.specs.declared.calls.Reply.TheVariants.{None, Word, Words, Names, Bytes, Error}
use Rattle.gl_plain.specs.Bytes.{bytes_of_words}
use Rattle.gl_plain.specs.Words.{as_word}

-- the words of a reply; a refused command replies with none, names are written by no command, and bytes are no words
abbrev pub reply_words : Reply → List ℕ
reply_words None = []
reply_words (Word word) = word ∷ []
reply_words (Words words) = words
reply_words (Names names) = []
reply_words (Bytes bytes) = []
reply_words (Error code) = code ∷ []

-- how many words there are, and then the words
abbrev pub counted : List ℕ → List ℕ
counted words = bytes_of_words (as_word (length words) ∷ words)

-- bytes are written as they are, and any other reply as its words
abbrev pub reply_bytes : Reply → List ℕ
reply_bytes None = counted (reply_words None)
reply_bytes (Word word) = counted (reply_words (Word word))
reply_bytes (Words words) = counted (reply_words (Words words))
reply_bytes (Names names) = counted (reply_words (Names names))
reply_bytes (Bytes bytes) = bytes
reply_bytes (Error code) = counted (reply_words (Error code))
