-- The longest of names, one after the other.
use Rattle.std.proofs.Common.{◌≡◌, ◌<◌, ◌^◌, ℕ, ◌+◌, List, ◌∷◌, length, max, drop, get_or, sym, ap, ◌∙◌, arith}
use Rattle.std.proofs.lemmas.List.{drop_more}
use Rattle.gl_plain.specs.declared.programs.Attribute.{Attribute}
use Rattle.gl_plain.specs.declared.programs.Uniform.{Uniform}
use Rattle.gl_plain.specs.subjects.ProgramQueries.{longest_attribute, longest_uniform}

greater : (longest n rest all r : ℕ) → r ≡ max n longest → max longest (max n rest) ≡ all → max r rest ≡ all
greater longest n rest all r is so_far = omega (arith, is, so_far)

pub attribute_longer : (xs : List Attribute) (i : ℕ) (x d : Attribute) (longest all r : ℕ) → i < length xs → x ≡ get_or xs i d → r ≡ max (length x.name) longest → max longest (longest_attribute (drop i xs)) ≡ all → max r (longest_attribute (drop (i + 1) xs)) ≡ all
attribute_longer xs i x d longest all r h item is so_far =
    greater longest (length x.name) (longest_attribute (drop (i + 1) xs)) all r is
    (ap (λ (rest : List Attribute). max longest (longest_attribute rest)) (ap (λ (y : Attribute). y ∷ drop (i + 1) xs) item ∙ sym (drop_more xs i d h)) ∙ so_far)

pub uniform_longer : (xs : List Uniform) (i : ℕ) (x d : Uniform) (longest all r : ℕ) → i < length xs → x ≡ get_or xs i d → r ≡ max (length x.name) longest → max longest (longest_uniform (drop i xs)) ≡ all → max r (longest_uniform (drop (i + 1) xs)) ≡ all
uniform_longer xs i x d longest all r h item is so_far =
    greater longest (length x.name) (longest_uniform (drop (i + 1) xs)) all r is
    (ap (λ (rest : List Uniform). max longest (longest_uniform rest)) (ap (λ (y : Uniform). y ∷ drop (i + 1) xs) item ∙ sym (drop_more xs i d h)) ∙ so_far)
