-- Words one after another.
use Rattle.std.proofs.Common.{◌≡◌, ℕ, ◌+◌, ◌<◌, List, [], ◌∷◌, ◌++◌, length, drop, get_or, refl, sym, ◌∙◌, ap, append_assoc, append-nil, map}
use Rattle.std.proofs.lemmas.List.{drop_more}
use Rattle.report_text.specs.Lines.{spaced}
use Rattle.report_text.specs.Values.{words, pattern_text}
use Rattle.report_text.specs.declared.arguments.Argument.{Argument}
use Rattle.report_text.specs.declared.arguments.Argument.TheVariants.{Number, Signed, Enum, Flag, Patterns, Data, Given}

-- a word, and others behind it
spaced-cons : (word : List ℕ) (rest : List (List ℕ)) → spaced (word ∷ rest) ≡ spaced (word ∷ []) ++ spaced rest
spaced-cons word rest = simp append-nil

-- more words behind others
spaced-append : (front rest : List (List ℕ)) → spaced (front ++ rest) ≡ spaced front ++ spaced rest
spaced-append [] rest = refl
spaced-append (word ∷ front) rest = simp (spaced-append front rest, append_assoc)

-- the words of an argument, and of those behind it
pub words-cons : (argument : Argument) (rest : List Argument) → spaced (words (argument ∷ rest)) ≡ spaced (words (argument ∷ [])) ++ spaced (words rest)
words-cons (Number n) rest = spaced-cons _ (words rest)
words-cons (Signed n) rest = spaced-cons _ (words rest)
words-cons (Enum e) rest = spaced-cons _ (words rest)
words-cons (Flag f) rest = spaced-cons _ (words rest)
words-cons (Patterns ps) rest = spaced-append (map pattern_text ps.now) (words rest) ∙ ap (λ (ws : List (List ℕ)). spaced ws ++ spaced (words rest)) (sym (append-nil (map pattern_text ps.now)))
words-cons (Data d) rest = spaced-cons _ (words rest)
words-cons (Given p) rest = spaced-cons _ (words rest)

-- the words of the arguments from a place on
pub words-drop : (arguments : List Argument) (i : ℕ) (d : Argument) → i < length arguments
    → spaced (words (drop i arguments)) ≡ spaced (words (get_or arguments i d ∷ [])) ++ spaced (words (drop (i + 1) arguments))
words-drop arguments i d inside =
    ap (λ (rest : List Argument). spaced (words rest)) (drop_more arguments i d inside) ∙ words-cons (get_or arguments i d) (drop (i + 1) arguments)
