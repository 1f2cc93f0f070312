-- Words of a line, and lines that are numbered by the places of what they print.
use Rattle.std.specs.Prelude.{ℕ, ◌+◌, List, [], ◌∷◌, ◌++◌, codes}

-- words in their order, each with a space before it
abbrev pub spaced : List (List ℕ) → List ℕ
spaced [] = []
spaced (word ∷ words) = codes " " ++ (word ++ spaced words)

-- the lines of some items one after another, the first of them with the number k
abbrev pub lines : {T : Type 0} → (ℕ → T → List ℕ) → ℕ → List T → List ℕ
lines line k [] = []
lines line k (item ∷ items) = line k item ++ lines line (k + 1) items
