-- The commands on images, and the calls that they spell.
use Rattle.std.specs.Prelude.{ℕ, ◌==◌, if◌then◌else◌, List, Option, None, Some}
use Rattle.gl_plain.specs.declared.numbers.TheConstants.{TEX_IMAGE_2D, TEX_SUB_IMAGE_2D, COPY_TEX_IMAGE_2D, COPY_TEX_SUB_IMAGE_2D, TEX_PARAMETERI, GENERATE_MIPMAP, RENDERBUFFER_STORAGE}
use Rattle.gl_plain.specs.declared.commands.DataWords.{DataWords}
use Rattle.gl_plain.specs.declared.commands.ImageCommand.{ImageCommand}
use Rattle.gl_plain.specs.declared.commands.ImageCommand.TheVariants.{TexImage2D, TexSubImage2D, CopyTexImage2D, CopyTexSubImage2D, TexParameteri, GenerateMipmap, RenderbufferStorage}
use Rattle.gl_plain.specs.declared.calls.Payload.TheVariants.{Here}
use Rattle.gl_plain.specs.declared.calls.ImageCall.{ImageCall}
use Rattle.gl_plain.specs.declared.calls.ImageCall.TheVariants as calls
use Rattle.gl_plain.specs.Words.{enum_at, signed_at, data_at, image_at, part_at, copy_at, copy_part_at}
use Rattle.gl_plain.specs.subjects.Data.{payload_of}

-- the command that a number and words spell, or none
abbrev pub image_command_in : ℕ → List ℕ → Option ImageCommand
image_command_in number words =
    if number == TEX_IMAGE_2D then Some (TexImage2D (image_at words) (data_at words 8))
    else if number == TEX_SUB_IMAGE_2D then Some (TexSubImage2D (part_at words) (data_at words 8))
    else if number == COPY_TEX_IMAGE_2D then Some (CopyTexImage2D (copy_at words))
    else if number == COPY_TEX_SUB_IMAGE_2D then Some (CopyTexSubImage2D (copy_part_at words))
    else if number == TEX_PARAMETERI then Some (TexParameteri (enum_at words 0) (enum_at words 1) (enum_at words 2))
    else if number == GENERATE_MIPMAP then Some (GenerateMipmap (enum_at words 0))
    else if number == RENDERBUFFER_STORAGE then Some (RenderbufferStorage (enum_at words 0) (enum_at words 1) (signed_at words 2) (signed_at words 3))
    else None

-- the call that a command means, with the bytes that come beside it
abbrev pub image_call : ImageCommand → List ℕ → ImageCall
image_call (TexImage2D image words) payload = calls.TexImage2D image (payload_of words payload)
image_call (TexSubImage2D part words) payload = calls.TexSubImage2D part (Here payload)
image_call (TexParameteri target pname value) payload = calls.TexParameteri target pname value
image_call (CopyTexImage2D copy) payload = calls.CopyTexImage2D copy
image_call (CopyTexSubImage2D copy) payload = calls.CopyTexSubImage2D copy
image_call (GenerateMipmap target) payload = calls.GenerateMipmap target
image_call (RenderbufferStorage target format width height) payload = calls.RenderbufferStorage target format width height

-- the words of a command's data, if it has any
abbrev pub image_data_words : ImageCommand → Option DataWords
image_data_words (TexImage2D image words) = Some words
image_data_words (TexSubImage2D part words) = Some words
image_data_words (TexParameteri target pname value) = None
image_data_words (CopyTexImage2D copy) = None
image_data_words (CopyTexSubImage2D copy) = None
image_data_words (GenerateMipmap target) = None
image_data_words (RenderbufferStorage target format width height) = None
