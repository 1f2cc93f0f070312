-- The driver calls of the commands on images, where they are not refused: rows of pixels reach the driver without padding.
use Rattle.std.specs.Prelude.{ℕ, if◌then◌else◌, List, [], ◌∷◌}
use Rattle.gl_plain.specs.declared.commands.ImageCommand.{ImageCommand}
use Rattle.gl_plain.specs.declared.commands.ImageCommand.TheVariants.{TexImage2D, TexSubImage2D, CopyTexImage2D, CopyTexSubImage2D, TexParameteri, GenerateMipmap, RenderbufferStorage}
use Rattle.gl_plain.specs.declared.driver_calls.DriverCall.{DriverCall}
use Rattle.gl_plain.specs.declared.driver_calls.DriverCall.TheVariants.{Image}
use Rattle.gl_plain.specs.declared.driver_calls.ImageDriver.TheVariants as calls
use Rattle.gl_plain.specs.subjects.Data.{payload_of}
use Rattle.gl_plain.specs.subjects.Images.{unpadded_payload, unpadded_part}
use Rattle.gl_base.specs.Rects.{is_empty}
use Rattle.gl_plain.specs.subjects.Copies.{copy_rect}
use Rattle.gl_plain.specs.State.{EsState}

-- the driver calls of a command's name; a copy of no pixel into an image makes none
abbrev pub own_image_calls : EsState → ImageCommand → List ℕ → List DriverCall
own_image_calls s (TexImage2D image words) payload =
    Image (calls.TexImage image.target image.level image.format image.kind image.width image.height (unpadded_payload image s.alignments.unpack (payload_of words payload))) ∷ []
own_image_calls s (TexSubImage2D part words) payload = Image (calls.TexSubImage part (unpadded_part part s.alignments.unpack payload)) ∷ []
own_image_calls s (CopyTexImage2D copy) payload =
    Image (calls.CopyTexImage copy.target copy.level copy.internal copy.x copy.y copy.width copy.height) ∷ []
own_image_calls s (CopyTexSubImage2D copy) payload = if is_empty (copy_rect copy) then [] else Image (calls.CopyTexSubImage copy) ∷ []
own_image_calls s (TexParameteri target pname value) payload = Image (calls.TexParameter target pname value) ∷ []
own_image_calls s (GenerateMipmap target) payload = Image (calls.GenerateMipmap target) ∷ []
own_image_calls s (RenderbufferStorage target format width height) payload = Image (calls.RenderbufferStorage format width height) ∷ []
