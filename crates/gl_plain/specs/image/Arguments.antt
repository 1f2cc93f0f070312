-- The argument rules of the commands on images.
use Rattle.std.specs.Prelude.{ℕ, Bool, false, List}
use Rattle.gl_plain.specs.declared.commands.ImageCommand.{ImageCommand}
use Rattle.gl_plain.specs.declared.commands.ImageCommand.TheVariants.{TexImage2D, TexSubImage2D, CopyTexImage2D, CopyTexSubImage2D, TexParameteri, GenerateMipmap, RenderbufferStorage}
use Rattle.gl_plain.specs.subjects.Images.{tex_image_is_bad, tex_sub_image_is_bad}
use Rattle.gl_plain.specs.State.{EsState}
use Rattle.gl_plain.specs.object.Arguments.{IsDataOf}
use Rattle.gl_plain.specs.image.Commands.{image_data_words}

-- an argument rule of a command on images is broken, other than those on buckets
abbrev pub image_is_bad : EsState → ImageCommand → Bool
image_is_bad s (TexImage2D image words) = tex_image_is_bad s.alignments.unpack image words
image_is_bad s (TexSubImage2D part words) = tex_sub_image_is_bad s.alignments.unpack part words
image_is_bad s (TexParameteri target pname value) = false
image_is_bad s (CopyTexImage2D copy) = false
image_is_bad s (CopyTexSubImage2D copy) = false
image_is_bad s (GenerateMipmap target) = false
image_is_bad s (RenderbufferStorage target format width height) = false

-- the bytes that a command has as its data are those that its words name
abbrev pub IsImageData : ImageCommand → List ℕ → Type 0
IsImageData c payload = IsDataOf (image_data_words c) payload
