-- The units whose images are made whole, one behind the other.
use Rattle.std.proofs.Common.{◌≡◌, ◌<◌, ◌∙◌, ℕ, ◌+◌, Bool, false, if◌then◌else◌, List, [], ◌++◌, length, get_or, drop, sym, ap}
use Rattle.std.proofs.lemmas.List.{drop_more}
use Rattle.gl_plain.specs.declared.draws.UnitView.{UnitView}
use Rattle.gl_plain.specs.subjects.Draws.{sampled_number, sampled_texture, places_of, unit_places, places_from}
use Rattle.gl_plain.specs.subjects.Textures.{TextureObjects, TextureTables}

-- a unit that no sampler names
abbrev pub no_unit : UnitView
no_unit = record { flat = false; cube = false; complete = false; attached = false }

-- of the units that are left
pub next_unit : (t t1 : TextureTables) → t1 ≡ t → (us : List UnitView) (i : ℕ) (d : UnitView) → i < length us
    → places_from t.objects i (drop i us) ≡ unit_places t1.objects i (get_or us i d) ++ places_from t.objects (i + 1) (drop (i + 1) us)
next_unit t t1 same us i d h =
    ap (places_from t.objects i) (drop_more us i d h) ∙ ap (λ (now : TextureTables). unit_places now.objects i (get_or us i d) ++ places_from t.objects (i + 1) (drop (i + 1) us)) (sym same)

-- a unit that samples none that is complete
pub no_places : (t : TextureObjects) (unit : ℕ) (u : UnitView) → u.complete ≡ false → unit_places t unit u ≡ []
no_places t unit u none = ap (λ (b : Bool). if b then places_of (sampled_number t unit u) (sampled_texture t unit u) else []) none
