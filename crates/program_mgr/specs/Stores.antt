-- When what Uniform gives may be stored.
use Rattle.std.specs.Prelude.{◌≡◌, ◌⊎◌, ℕ, ℤ, true, List, Option, None, Some}
use Rattle.gl_plain.specs.declared.programs.Executable.{Executable}
use Rattle.gl_plain.specs.subjects.Uniforms.{is_nowhere, place_of, place_refusal}

-- nowhere, where it is ignored, or where the element takes it
abbrev pub IsStored : Executable → ℤ → ℕ → ℤ → List ℕ → Type 0
IsStored e location kind count bytes = (is_nowhere location ≡ true) ⊎ (place_refusal (place_of e.answer.uniforms location) kind count bytes ≡ None)

-- so it is where there is an executable
abbrev pub CanStore : Option Executable → ℤ → ℕ → ℤ → List ℕ → Type 0
CanStore None location kind count bytes = Unit {0}
CanStore (Some e) location kind count bytes = IsStored e location kind count bytes
