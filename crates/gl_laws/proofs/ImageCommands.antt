-- The own laws of the commands on images, a line for each command.
use Rattle.std.proofs.Common.{◌≡◌, false, ℕ, List, None}
use Rattle.gl_plain.specs.declared.commands.ImageCommand.{ImageCommand}
use Rattle.gl_plain.specs.declared.commands.ImageCommand.TheVariants.{TexImage2D, TexSubImage2D, CopyTexImage2D, CopyTexSubImage2D, TexParameteri, GenerateMipmap, RenderbufferStorage}
use Rattle.gl_base.specs.declared.gl_enum.GlEnum.{GlEnum}
use Rattle.gl_plain.specs.declared.image_words.CopyWords.{CopyWords}
use Rattle.gl_plain.specs.declared.image_words.CopyPartWords.{CopyPartWords}
use Rattle.gl_plain.specs.declared.raster.WordRule.TheVariants.{Alignment}
use Rattle.gl_plain.specs.subjects.Raster.{is_wrong_value}
use Rattle.gl_plain.specs.subjects.Images.{AreWritten, Covers, IsScreenWritten, Marks}
use Rattle.gl_plain.specs.State.{EsState, DriverState}
use Rattle.gl_plain.specs.Covers.{all_filled, all_marked}
use Rattle.gl_plain.specs.Agreement.{TablesAgree, ImagesAgree}
use Rattle.gl_plain.specs.image.Arguments.{image_is_bad, IsImageData}
use Rattle.gl_plain.specs.image.Covers.{image_whole_first}
use Rattle.gl_plain.specs.image.Refusal.{image_command_refusal}
use Rattle.gl_laws.proofs.Images.{ImageLeaves, ImageMayGoOn, parameter_leaves, parameter_may, sub_image_ready, tex_image_leaves, tex_image_may, tex_sub_image_leaves, tex_sub_image_may}
use Rattle.gl_laws.proofs.Storage.{storage_leaves, storage_may}

-- the laws of a command behind its zeroings, where the service had written these rectangles before them
pub record ImageLaws (s : EsState) (d : DriverState) (f : Covers) (m : Marks) (c : ImageCommand) : Type 0 where
  pub may : (payload : List ℕ) → image_command_refusal s c ≡ None → IsScreenWritten d.contents.screen → AreWritten s.textures.objects s.renderbuffers.objects d.contents (image_whole_first s f c) → ImageMayGoOn s d c payload
  pub leaves : (payload : List ℕ) → image_command_refusal s c ≡ None → AreWritten s.textures.objects s.renderbuffers.objects d.contents (image_whole_first s f c)
      → ImagesAgree s.textures.objects s.renderbuffers.objects (all_filled s.textures.objects f (image_whole_first s f c)) (all_marked m (image_whole_first s f c)) d.contents
      → ImageLeaves s d (all_filled s.textures.objects f (image_whole_first s f c)) (all_marked m (image_whole_first s f c)) c payload

-- those of copies and of mipmaps stand in files of their own
module _ (s : EsState) (d : DriverState) (a : TablesAgree s d.tables) (f : Covers) (m : Marks)
    (copies : (copy : CopyWords) → ImageLaws s d f m (CopyTexImage2D copy)) (parts : (copy : CopyPartWords) → ImageLaws s d f m (CopyTexSubImage2D copy)) (mipmaps : (target : GlEnum) → ImageLaws s d f m (GenerateMipmap target)) where
  abbrev IsWrittenFirst : ImageCommand → Type 0
  IsWrittenFirst c = AreWritten s.textures.objects s.renderbuffers.objects d.contents (image_whole_first s f c)

  -- what is written behind the zeroings of the command
  abbrev covers_first : ImageCommand → Covers
  covers_first c = all_filled s.textures.objects f (image_whole_first s f c)

  abbrev marks_first : ImageCommand → Marks
  marks_first c = all_marked m (image_whole_first s f c)

  pub image_may : IsScreenWritten d.contents.screen → is_wrong_value Alignment s.alignments.unpack ≡ false → (c : ImageCommand) (payload : List ℕ) → IsWrittenFirst c → image_is_bad s c ≡ false → image_command_refusal s c ≡ None → IsImageData c payload → ImageMayGoOn s d c payload
  image_may screen aligned (TexImage2D i words) payload written fair allowed given = tex_image_may s d a i allowed words payload aligned fair given
  image_may screen aligned (TexSubImage2D p words) payload written fair allowed given = tex_sub_image_may s d a p words payload allowed aligned fair given
  image_may screen aligned (CopyTexImage2D copy) payload written fair allowed given = (copies copy).may payload allowed screen written
  image_may screen aligned (CopyTexSubImage2D copy) payload written fair allowed given = (parts copy).may payload allowed screen written
  image_may screen aligned (TexParameteri target pname value) payload written fair allowed given = parameter_may s d a target pname value payload allowed
  image_may screen aligned (GenerateMipmap target) payload written fair allowed given = (mipmaps target).may payload allowed screen written
  image_may screen aligned (RenderbufferStorage target format width height) payload written fair allowed given = storage_may s d a target format width height payload allowed

  pub image_leaves : (c : ImageCommand) (payload : List ℕ) → IsWrittenFirst c → image_command_refusal s c ≡ None → ImagesAgree s.textures.objects s.renderbuffers.objects (covers_first c) (marks_first c) d.contents
      → ImageLeaves s d (covers_first c) (marks_first c) c payload
  image_leaves (TexImage2D i words) payload written allowed agree = tex_image_leaves s d a i allowed words payload f m agree
  image_leaves (TexSubImage2D p words) payload written allowed agree =
      tex_sub_image_leaves s d a p words payload allowed (covers_first (TexSubImage2D p words)) (marks_first (TexSubImage2D p words)) agree (sub_image_ready s f p words allowed)
  image_leaves (CopyTexImage2D copy) payload written allowed agree = (copies copy).leaves payload allowed written agree
  image_leaves (CopyTexSubImage2D copy) payload written allowed agree = (parts copy).leaves payload allowed written agree
  image_leaves (TexParameteri target pname value) payload written allowed agree = parameter_leaves s d a target pname value payload f m agree
  image_leaves (GenerateMipmap target) payload written allowed agree = (mipmaps target).leaves payload allowed written agree
  image_leaves (RenderbufferStorage target format width height) payload written allowed agree = storage_leaves s d a target format width height payload allowed f m agree
