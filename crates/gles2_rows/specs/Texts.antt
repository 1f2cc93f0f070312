-- What a line of a file of rows adds to a script or to an output.
use Rattle.std.specs.Prelude.{ℕ, ◌*◌, List, [], ◌∷◌, ◌++◌, codes, decimal}
use Prim.Native.Nat.{zero, suc}
use Rattle.hex.specs.Hex.{encode_lower}
use Rattle.percent_encoding.specs.Percent.{percent_decode}

-- the byte of a line feed
abbrev pub line_feed : ℕ
line_feed = 10

-- a text, in which `%` and two digits stand for a byte, and a line feed
abbrev pub line_text : List ℕ → List ℕ
line_text text = percent_decode text ++ line_feed ∷ []

-- a list so many times
abbrev pub copies : ℕ → List ℕ → List ℕ
copies zero xs = []
copies (suc n) xs = copies n xs ++ xs

-- the line of a script that puts bytes into the ring from an entry on
abbrev pub entries_line : ℕ → List ℕ → List ℕ
entries_line place bytes = codes "bytes 0 " ++ decimal (4 * place) ++ codes " " ++ encode_lower bytes ++ line_feed ∷ []

-- the line of a script that publishes put
abbrev pub put_line : ℕ → List ℕ
put_line put = codes "put " ++ decimal put ++ line_feed ∷ []
