-- The places of the elements of uniforms, as an executable keeps them by location.
use Rattle.std.specs.Prelude.{◌≡◌, ℕ, ◌+◌, ◌*◌, List, [], ◌∷◌, ◌++◌, slice_get, Option, None, Some}
use Prim.Native.Nat.{zero, suc}
use Rattle.gl_plain.specs.declared.programs.Uniform.{Uniform}
use Rattle.gl_plain.specs.subjects.Links.{words_of}
use Rattle.gl_plain.specs.subjects.Uniforms.{ElementPlace, place_from}
use Rattle.program_mgr.specs.declared.places.Place.{Place}

-- the element that is kept, if the uniform that it names is there
abbrev pub place_in : Place → Option Uniform → Option ElementPlace
place_in p None = None
place_in p (Some u) = Some (record { uniform = u; element = p.element; word = p.word })

abbrev pub kept_place : List Uniform → Option Place → Option ElementPlace
kept_place uniforms None = None
kept_place uniforms (Some p) = place_in p (slice_get uniforms p.uniform)

-- at each location the table has the element there, and behind the last it has none
abbrev pub IsTable : List Uniform → List Place → Type 0
IsTable uniforms places = (location : ℕ) → kept_place uniforms (slice_get places location) ≡ place_from uniforms location 0

-- so many elements of a uniform of this index, from one on, whose words begin here
abbrev pub element_places : ℕ → ℕ → ℕ → ℕ → ℕ → List Place
element_places index step element word zero = []
element_places index step element word (suc n) =
    record { uniform = index; element = element; word = word } ∷ element_places index step (element + 1) (word + step) n

-- the elements of these uniforms, of which the first has this index, and whose words begin here
abbrev pub table_from : List Uniform → ℕ → ℕ → List Place
table_from [] index word = []
table_from (u ∷ us) index word = element_places index (words_of u.kind) 0 word u.size ++ table_from us (index + 1) (word + u.size * words_of u.kind)
