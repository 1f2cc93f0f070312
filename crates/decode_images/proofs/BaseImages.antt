-- Level 0 of each face of the texture that a target binds.
use Rattle.std.proofs.Common.{◌≡◌, ℕ, Bool, true, false, Option, None, Some, refl, sym, ap}
use Rattle.gl_base.specs.declared.gl_enum.GlEnum.{GlEnum}
use Rattle.gl_plain.specs.declared.textures.Texture.{Texture}
use Rattle.gl_plain.specs.subjects.Completeness.{face_places, first_face}
use Rattle.gl_plain.specs.subjects.Levels.{face_count, is_cube_face}
use Rattle.gl_plain.specs.subjects.Mipmaps.{base_places_by}
use Rattle.gl_plain.specs.subjects.Textures.{IsOfKind}

-- the first face is one of its kind
pub first_kind : (cube : Bool) → is_cube_face (first_face cube) ≡ cube
first_kind true = refl
first_kind false = refl

-- they are those of a texture of this kind
pub bases_are : (cube : Bool) (number : ℕ) (o : Option Texture) → IsOfKind cube o → face_places number 1 (first_face cube).0 (face_count cube) ≡ base_places_by number o
bases_are cube number None kind = absurd kind
bases_are cube number (Some x) kind = ap (λ (b : Bool). face_places number 1 (first_face b).0 (face_count b)) (sym kind)
