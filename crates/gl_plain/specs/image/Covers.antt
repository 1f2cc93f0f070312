-- What the commands on images need written before, and what is written after them.
use Rattle.std.specs.Prelude.{ℕ, false, if◌then◌else◌, List, [], ◌∷◌, ◌++◌, map, is_none}
use Rattle.gl_base.specs.declared.rect.Rect.{Rect}
use Rattle.gl_plain.specs.declared.image_words.CopyPartWords.{CopyPartWords}
use Rattle.gl_plain.specs.declared.targets.AnyImage.{AnyImage}
use Rattle.gl_plain.specs.declared.targets.AnyImage.TheVariants as any
use Rattle.gl_plain.specs.declared.commands.ImageCommand.{ImageCommand}
use Rattle.gl_plain.specs.declared.commands.ImageCommand.TheVariants.{TexImage2D, TexSubImage2D, CopyTexImage2D, CopyTexSubImage2D, TexParameteri, GenerateMipmap, RenderbufferStorage}
use Rattle.gl_plain.specs.declared.image_words.PartWords.{PartWords}
use Rattle.gl_plain.specs.declared.driver_calls.Stored.{Stored}
use Rattle.gl_plain.specs.declared.driver_calls.Stored.TheVariants as room
use Rattle.gl_plain.specs.declared.textures.ImagePlace.{ImagePlace}
use Rattle.gl_base.specs.Rects.{is_empty, whole, union_of}
use Rattle.gl_plain.specs.Words.{natural}
use Rattle.gl_plain.specs.subjects.Data.{payload_of}
use Rattle.gl_plain.specs.subjects.Textures.{TextureObjects, place_bound}
use Rattle.gl_plain.specs.subjects.Targets.{colour_images, target_of}
use Rattle.gl_plain.specs.subjects.Images.{Covers, part_rect, view_of, with_cover, new_cover, extended, Marks, with_mark}
use Rattle.gl_plain.specs.subjects.Mipmaps.{generate_mipmap_effect, base_places, half_images}
use Rattle.gl_plain.specs.subjects.Copies.{copy_rect, copy_place, copy_part_place}
use Rattle.gl_plain.specs.Covers.{all_filled}
use Rattle.gl_plain.specs.Oracle.{Oracle, first}
use Rattle.gl_plain.specs.State.{EsState}

-- the place of the image that a part lies in
abbrev pub part_place : TextureObjects → PartWords → ImagePlace
part_place t p = place_bound t p.target (natural p.level)

-- the image that a rectangle is written into, where the written places and the rectangle are no rectangle together
abbrev pub part_first : Covers → ImagePlace → Rect → List AnyImage
part_first f place r = if is_none (union_of (f place) r) then any.Level place ∷ [] else []

-- the images that a copy of a part needs written whole: that of the colours that are read, and then perhaps its own. A copy of no pixel needs none
abbrev pub copy_first : EsState → Covers → CopyPartWords → List AnyImage
copy_first s f copy =
    if is_empty (copy_rect copy) then []
    else colour_images (target_of s.framebuffers) ++ part_first f (copy_part_place s.textures.objects copy) (copy_rect copy)

-- the images that a command needs written whole before its own driver call, in order
abbrev pub image_whole_first : EsState → Covers → ImageCommand → List AnyImage
image_whole_first s f (TexImage2D image words) = []
image_whole_first s f (TexSubImage2D part words) = part_first f (part_place s.textures.objects part) (part_rect part)
image_whole_first s f (CopyTexImage2D copy) = colour_images (target_of s.framebuffers)
image_whole_first s f (CopyTexSubImage2D copy) = copy_first s f copy
image_whole_first s f (TexParameteri target pname value) = []
image_whole_first s f (GenerateMipmap target) = map any.Level (base_places s.textures.objects target)
image_whole_first s f (RenderbufferStorage target format width height) = []

-- where there was no room, nothing is written
abbrev pub covers_stored : Covers → Covers → Stored → Covers
covers_stored f new room.Done = new
covers_stored f new room.Oom = f

-- what is written behind a command
abbrev pub image_covers : EsState → ImageCommand → List ℕ → Oracle → Covers → Covers
image_covers s (TexImage2D image words) payload o f =
    covers_stored f (with_cover f (place_bound s.textures.objects image.target (natural image.level)) (new_cover (payload_of words payload) (view_of image))) (first o.stored)
image_covers s (TexSubImage2D part words) payload o f = with_cover f (part_place s.textures.objects part) (extended (f (part_place s.textures.objects part)) (part_rect part))
image_covers s (CopyTexImage2D copy) payload o f =
    covers_stored f (with_cover f (copy_place s.textures.objects copy) (whole (natural copy.width) (natural copy.height))) (first o.stored)
image_covers s (CopyTexSubImage2D copy) payload o f =
    if is_empty (copy_rect copy) then f
    else with_cover f (copy_part_place s.textures.objects copy) (extended (f (copy_part_place s.textures.objects copy)) (copy_rect copy))
image_covers s (TexParameteri target pname value) payload o f = f
image_covers s (GenerateMipmap target) payload o f = all_filled (generate_mipmap_effect s.textures.objects target) f (half_images s.textures.objects target)
image_covers s (RenderbufferStorage target format width height) payload o f = f

-- where there was no room, nothing is stored
abbrev pub marks_stored : Marks → Marks → Stored → Marks
marks_stored m new room.Done = new
marks_stored m new room.Oom = m

-- which renderbuffers are written behind a command: one that is given storage is not
abbrev pub image_marks : EsState → ImageCommand → Oracle → Marks → Marks
image_marks s (TexImage2D image words) o m = m
image_marks s (TexSubImage2D part words) o m = m
image_marks s (CopyTexImage2D copy) o m = m
image_marks s (CopyTexSubImage2D copy) o m = m
image_marks s (TexParameteri target pname value) o m = m
image_marks s (GenerateMipmap target) o m = m
image_marks s (RenderbufferStorage target format width height) o m = marks_stored m (with_mark m s.renderbuffers.bound false) (first o.stored)
