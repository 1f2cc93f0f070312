-- What the tables take of a call on images.
use Rattle.std.specs.Prelude.{◌≡◌, ℤ, true, false, None}
use Rattle.gl_base.specs.declared.gl_enum.GlEnum.{GlEnum}
use Rattle.gl_base.specs.declared.target_enums.TheConstants.{RENDERBUFFER}
use Rattle.gl_plain.specs.declared.driver_calls.ImageDriver.{ImageDriver}
use Rattle.gl_plain.specs.declared.driver_calls.ImageDriver.TheVariants.{TexImage, TexSubImage, ZeroLevel, TexParameter, CopyTexImage, CopyTexSubImage, GenerateMipmap, RenderbufferStorage, ZeroRenderbuffer, ReadPixels}
use Rattle.gl_plain.specs.Words.{is_negative}
use Rattle.gl_plain.specs.subjects.Images.{is_level}
use Rattle.gl_plain.specs.subjects.Levels.{is_image_target}
use Rattle.gl_plain.specs.subjects.Targets.{RenderbufferTables, renderbuffer_storage_refusal}

-- an image goes to a level that is there, and its sides are not negative
pub record IsFitImage (target : GlEnum) (level width height : ℤ) : Type 0 where
  pub face : is_image_target target ≡ true
  pub level_is : is_level level ≡ true
  pub columns : is_negative width ≡ false
  pub rows : is_negative height ≡ false

-- what a call on images puts into the tables fits them
abbrev pub IsFit : RenderbufferTables → ImageDriver → Type 0
IsFit t (TexImage target level format kind width height payload) = IsFitImage target level width height
IsFit t (TexSubImage part bytes) = Unit {0}
IsFit t (ZeroLevel place rect) = Unit {0}
IsFit t (TexParameter target pname value) = Unit {0}
IsFit t (CopyTexImage target level format x y width height) = IsFitImage target level width height
IsFit t (CopyTexSubImage copy) = Unit {0}
IsFit t (GenerateMipmap target) = Unit {0}
IsFit t (RenderbufferStorage format width height) = renderbuffer_storage_refusal t RENDERBUFFER format width height ≡ None
IsFit t (ZeroRenderbuffer name) = Unit {0}
IsFit t (ReadPixels x y width height) = Unit {0}
