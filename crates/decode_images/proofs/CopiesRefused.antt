-- The refusals of copies, by their tests.
use Rattle.std.proofs.Common.{Bool, not, if◌then◌else◌, ◌||◌, Option, None, Some}
use Rattle.gl_plain.specs.declared.errors.GlError.{GlError}
use Rattle.gl_plain.specs.declared.errors.GlError.TheVariants.{InvalidEnum, InvalidValue, InvalidOperation, InvalidFramebufferOperation}
use Rattle.gl_plain.specs.declared.image_words.CopyPartWords.{CopyPartWords}
use Rattle.gl_plain.specs.declared.textures.LevelView.{LevelView}
use Rattle.gl_plain.specs.Words.{is_negative}
use Rattle.gl_plain.specs.subjects.Copies.{copy_rect}
use Rattle.gl_plain.specs.subjects.Images.{is_level, leaves_level}

-- of CopyTexImage2D: it names no image, its sides are bad, the framebuffer is not complete, its source does not suit it
abbrev pub by_tests : Bool → Bool → Bool → Bool → Option GlError
by_tests nothing bad incomplete wrong =
    if nothing then Some InvalidEnum
    else if bad then Some InvalidValue
    else if incomplete then Some InvalidFramebufferOperation
    else if wrong then Some InvalidOperation else None

-- of CopyTexSubImage2D: what is bad about it is seen at its image
abbrev pub bad_by : CopyPartWords → Option LevelView → Bool
bad_by c o = not (is_level c.level) || is_negative c.xoffset || is_negative c.yoffset || is_negative c.width || is_negative c.height || leaves_level o (copy_rect c)
