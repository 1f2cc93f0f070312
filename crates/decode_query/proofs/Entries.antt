-- The bytes of a program's table, one entry after the other.
use Rattle.std.proofs.Common.{◌≡◌, ◌<◌, ◌≤◌, ℕ, ◌+◌, List, [], ◌∷◌, ◌++◌, length, drop, get_or, append_assoc, sym, ap, ◌∙◌, arith}
use Rattle.std.proofs.lemmas.List.{drop_more}
use Rattle.std.proofs.lemmas.List.Sums.{sum_by-cons}
use Rattle.gl_base.specs.declared.limits.TheConstants.{UNIFORM_LIMIT}
use Rattle.gl_plain.specs.declared.programs.Attribute.{Attribute}
use Rattle.gl_plain.specs.declared.programs.Uniform.{Uniform}
use Rattle.gl_plain.specs.Bytes.{bytes_of_words}
use Rattle.gl_plain.specs.Words.{as_word}
use Rattle.gl_plain.specs.subjects.Links.{elements_in}
use Rattle.gl_plain.specs.subjects.ProgramQueries.{attribute_entries, attribute_entry, uniform_entries, uniform_entry}

-- what stands behind an addition stands behind what it was added to
behind_added : (b c added rest : List ℕ) → c ≡ b ++ added → c ++ rest ≡ b ++ (added ++ rest)
behind_added b c added rest is = ap (λ (bs : List ℕ). bs ++ rest) is ∙ append_assoc b added rest

pub attribute_added : (b0 b1 b2 b3 b4 : List ℕ) (a : Attribute) (size : ℕ) → b1 ≡ b0 ++ bytes_of_words (a.kind.0 ∷ []) → b2 ≡ b1 ++ bytes_of_words (a.location ∷ []) → b3 ≡ b2 ++ bytes_of_words (size ∷ [])
    → size ≡ as_word (length a.name) → b4 ≡ b3 ++ a.name → b4 ≡ b0 ++ attribute_entry a
attribute_added b0 b1 b2 b3 b4 a size one two three size_is four =
    four ∙ behind_added b2 b3 _ a.name three ∙ behind_added b1 b2 _ (bytes_of_words (size ∷ []) ++ a.name) two ∙ behind_added b0 b1 _ (bytes_of_words (a.location ∷ []) ++ (bytes_of_words (size ∷ []) ++ a.name)) one
    ∙ ap (λ (n : ℕ). b0 ++ (bytes_of_words (a.kind.0 ∷ a.location ∷ n ∷ []) ++ a.name)) size_is

pub uniform_added : (b0 b1 b2 b3 b4 b5 : List ℕ) (location : ℕ) (u : Uniform) (size : ℕ) → b1 ≡ b0 ++ bytes_of_words (u.kind.0 ∷ []) → b2 ≡ b1 ++ bytes_of_words (u.size ∷ []) → b3 ≡ b2 ++ bytes_of_words (location ∷ [])
    → b4 ≡ b3 ++ bytes_of_words (size ∷ []) → size ≡ as_word (length u.name) → b5 ≡ b4 ++ u.name → b5 ≡ b0 ++ uniform_entry location u
uniform_added b0 b1 b2 b3 b4 b5 location u size one two three four size_is five =
    five ∙ behind_added b3 b4 _ u.name four ∙ behind_added b2 b3 _ (bytes_of_words (size ∷ []) ++ u.name) three
    ∙ behind_added b1 b2 _ (bytes_of_words (location ∷ []) ++ (bytes_of_words (size ∷ []) ++ u.name)) two
    ∙ behind_added b0 b1 _ (bytes_of_words (u.size ∷ []) ++ (bytes_of_words (location ∷ []) ++ (bytes_of_words (size ∷ []) ++ u.name))) one
    ∙ ap (λ (n : ℕ). b0 ++ (bytes_of_words (u.kind.0 ∷ u.size ∷ location ∷ n ∷ []) ++ u.name)) size_is

-- one attribute more
pub attributes_more : (b c all : List ℕ) (xs : List Attribute) (i : ℕ) (x d : Attribute) → i < length xs → x ≡ get_or xs i d → c ≡ b ++ attribute_entry x → b ++ attribute_entries (drop i xs) ≡ all → c ++ attribute_entries (drop (i + 1) xs) ≡ all
attributes_more b c all xs i x d h item added is =
    behind_added b c (attribute_entry x) (attribute_entries (drop (i + 1) xs)) added
    ∙ ap (λ (rest : List Attribute). b ++ attribute_entries rest) (ap (λ (y : Attribute). y ∷ drop (i + 1) xs) item ∙ sym (drop_more xs i d h)) ∙ is

-- one uniform more
pub uniforms_more : (b c all : List ℕ) (location : ℕ) (xs : List Uniform) (i : ℕ) (x d : Uniform) → i < length xs → x ≡ get_or xs i d → c ≡ b ++ uniform_entry location x → b ++ uniform_entries location (drop i xs) ≡ all
    → c ++ uniform_entries (location + x.size) (drop (i + 1) xs) ≡ all
uniforms_more b c all location xs i x d h item added is =
    behind_added b c (uniform_entry location x) (uniform_entries (location + x.size) (drop (i + 1) xs)) added
    ∙ ap (λ (rest : List Uniform). b ++ uniform_entries location rest) (ap (λ (y : Uniform). y ∷ drop (i + 1) xs) item ∙ sym (drop_more xs i d h)) ∙ is

pub elements_more : (location : ℕ) (xs : List Uniform) (i : ℕ) (x d : Uniform) → i < length xs → x ≡ get_or xs i d → location + elements_in (drop i xs) ≤ UNIFORM_LIMIT → location + x.size + elements_in (drop (i + 1) xs) ≤ UNIFORM_LIMIT
elements_more location xs i x d h item few =
    let split : elements_in (drop i xs) ≡ x.size + elements_in (drop (i + 1) xs) =
    ap elements_in (drop_more xs i d h ∙ ap (λ (y : Uniform). y ∷ drop (i + 1) xs) (sym item)) ∙ sum_by-cons (λ (u : Uniform). u.size) x (drop (i + 1) xs) in
    omega (arith, few, split)
