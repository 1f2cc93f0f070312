-- What commands draw, clear, copy, reduce and read, by contents and not by names; and what they leave of the contents of images.
use Rattle.std.specs.Prelude.{ℕ, ℤ, ◌==◌, ◌||◌, if◌then◌else◌, List, [], ◌∷◌, ◌++◌, map, Option, None, Some, Result, Ok, Err}
use Rattle.gl_plain.specs.declared.errors.GlError.{GlError}
use Rattle.gl_plain.specs.declared.commands.Command.{Command}
use Rattle.gl_plain.specs.declared.commands.Command.TheVariants.{Noop, SetToken, Bucket, Object, Image, Draw, Query}
use Rattle.gl_plain.specs.declared.commands.Fetched.{Fetched}
use Rattle.gl_plain.specs.declared.driver_calls.Answer.{Answer}
use Rattle.gl_plain.specs.declared.driver_calls.DriverCall.{DriverCall}
use Rattle.gl_plain.specs.declared.driver_calls.DriverCall.TheVariants as driver
use Rattle.gl_base.specs.declared.gl_enum.GlEnum.{GlEnum}
use Rattle.gl_plain.specs.declared.commands.DrawCommand.{DrawCommand}
use Rattle.gl_plain.specs.declared.commands.DrawCommand.TheVariants.{ActiveTexture, Raster, Clear, DrawArrays, DrawElements, Flush, Finish}
use Rattle.gl_plain.specs.declared.draws.DrawPlan.{DrawPlan}
use Rattle.gl_plain.specs.declared.driver_calls.DrawDriver.{DrawDriver}
use Rattle.gl_plain.specs.declared.driver_calls.DrawDriver.TheVariants as calls
use Rattle.gl_plain.specs.declared.programs.Executable.{Executable}
use Rattle.gl_plain.specs.declared.raster.RasterWords.{RasterWords}
use Rattle.gl_base.specs.PixelSizes.{pixel_size}
use Rattle.gl_plain.specs.declared.commands.ImageCommand.{ImageCommand}
use Rattle.gl_plain.specs.declared.commands.ImageCommand.TheVariants.{TexImage2D, TexSubImage2D, CopyTexImage2D, CopyTexSubImage2D, TexParameteri, GenerateMipmap, RenderbufferStorage}
use Rattle.gl_plain.specs.declared.driver_calls.Stored.{Stored}
use Rattle.gl_plain.specs.declared.driver_calls.Stored.TheVariants as room
use Rattle.gl_plain.specs.subjects.Data.{payload_of}
use Rattle.gl_plain.specs.subjects.Textures.{place_bound}
use Rattle.gl_plain.specs.subjects.Images.{Contents, ImageContents, TargetContents, target_contents, colour_contents, level_contents, Zero, view_of, with_image, with_pixels, with_storage, counted, new_pixels, pixels_of, unpadded_payload, unpadded_part, part_rect}
use Rattle.gl_plain.specs.subjects.Draws.{Sources, VertexValue, Sample, vertex_of, elements_from, element_bytes, indices, samples_of, check_arrays, check_indexed}
use Rattle.gl_plain.specs.subjects.Clears.{cleared, drawn}
use Rattle.gl_plain.specs.Words.{natural}
use Rattle.gl_plain.specs.Oracle.{Oracle, first}
use Rattle.gl_base.specs.declared.target_enums.TheConstants.{NONE}
use Rattle.gl_base.specs.Rects.{is_empty}
use Rattle.gl_plain.specs.declared.commands.QueryCommand.{QueryCommand}
use Rattle.gl_plain.specs.declared.commands.QueryCommand.TheVariants.{ReadPixels, GetError, Words, Bytes}
use Rattle.gl_plain.specs.declared.driver_calls.Answer.TheVariants as answers
use Rattle.gl_plain.specs.declared.driver_calls.ImageDriver.{ImageDriver}
use Rattle.gl_plain.specs.declared.driver_calls.ImageDriver.TheVariants as images
use Rattle.gl_plain.specs.declared.image_words.CopyWords.{CopyWords}
use Rattle.gl_plain.specs.declared.image_words.CopyPartWords.{CopyPartWords}
use Rattle.gl_plain.specs.declared.textures.LevelView.{LevelView}
use Rattle.gl_plain.specs.subjects.Targets.{Drawable, target_of}
use Rattle.gl_plain.specs.subjects.Mipmaps.{base_places, halved_contents}
use Rattle.gl_plain.specs.subjects.Copies.{copy_words, copy_rect, copy_part_level, copy_tex_image_contents, copy_tex_sub_image_contents, reads_nothing}
use Rattle.gl_plain.specs.State.{EsState, WireState, DriverState, sources_of, sources_in, drawable_of, drawable_in}
use Rattle.gl_plain.specs.Commands.{command_of}
use Rattle.gl_plain.specs.Wire.{command_refusal, given_to}
use Rattle.gl_plain.specs.Meaning.{meaning_of}

-- a draw: its mode; for each vertex in order the values at the used locations, rising; the executable; what the used units sample, rising; the
-- fixed state; and what is drawn to, before: the default framebuffer, or the attached images
pub record Drawn : Type 0 where
  pub mode : GlEnum
  pub vertices : List (List VertexValue)
  pub executable : Option Executable
  pub samples : List Sample
  pub raster : RasterWords
  pub before : TargetContents

-- a Clear: its mask, the fixed state, and what is cleared, before: the default framebuffer, or the attached images
pub record Cleared : Type 0 where
  pub mask : ℕ
  pub raster : RasterWords
  pub before : TargetContents

-- a copy: the colours that are read from, the rectangle, and the format of the copy
pub record Copied : Type 0 where
  pub colour : Option ImageContents
  pub x : ℤ
  pub y : ℤ
  pub width : ℤ
  pub height : ℤ
  pub format : GlEnum

-- a read: the colours that are read from, and the rectangle
pub record PixelsRead : Type 0 where
  pub colour : Option ImageContents
  pub x : ℤ
  pub y : ℤ
  pub width : ℤ
  pub height : ℤ

-- a record
pub data Record : Type 0 where
  DrawRecord : (draw : Drawn) → Record
  ClearRecord : (clear : Cleared) → Record
  CopyRecord : (copy : Copied) → Record
  ReadRecord : (read : PixelsRead) → Record
  -- level 0 of each face, of which halves are made
  ReduceRecord : (images : List ImageContents) → Record

-- a draw of these elements
abbrev pub draw_record : Sources → RasterWords → Contents → GlEnum → List ℕ → Record
draw_record s raster k mode elements = DrawRecord (record {
  mode = mode;
  vertices = map (vertex_of s) elements;
  executable = s.executable;
  samples = samples_of s k;
  raster = raster;
  before = target_contents s.drawable k s.drawable.target;
})

abbrev pub arrays_record : Sources → RasterWords → Contents → GlEnum → ℤ → ℤ → Record
arrays_record s raster k mode first count = draw_record s raster k mode (elements_from (natural first) (natural count))

abbrev pub elements_record : Sources → RasterWords → Contents → GlEnum → ℤ → GlEnum → ℕ → Record
elements_record s raster k mode count kind offset = draw_record s raster k mode (indices (element_bytes s) kind offset (natural count))

abbrev pub clear_record : Drawable → RasterWords → Contents → ℕ → Record
clear_record b raster k mask = ClearRecord (record { mask = mask; raster = raster; before = target_contents b k b.target })

abbrev pub copy_record : Drawable → Contents → ℤ → ℤ → ℤ → ℤ → GlEnum → Record
copy_record b k x y width height format =
    CopyRecord (record { colour = colour_contents b k b.target; x = x; y = y; width = width; height = height; format = format })

-- a copy of no pixel is not recorded
abbrev pub copy_image_records : Drawable → Contents → CopyWords → List Record
copy_image_records b k c =
    if (natural c.width == 0) || (natural c.height == 0) then [] else copy_record b k c.x c.y c.width c.height c.internal ∷ []

-- the format of an image, if it is there
abbrev pub format_of : Option LevelView → GlEnum
format_of None = NONE
format_of (Some v) = v.format

-- a copy into an image has the image's format
abbrev pub copy_part_records : Drawable → Contents → CopyPartWords → List Record
copy_part_records b k c = copy_record b k c.x c.y c.width c.height (format_of (copy_part_level b.textures c)) ∷ []

abbrev pub reduce_record : Drawable → Contents → GlEnum → Record
reduce_record b k to = ReduceRecord (map (level_contents b.textures k) (base_places b.textures to))

abbrev pub read_record : Drawable → Contents → ℤ → ℤ → ℤ → ℤ → Record
read_record b k x y width height = ReadRecord (record { colour = colour_contents b k b.target; x = x; y = y; width = width; height = height })

-- what a call on the fixed state, or one that clears or draws, records
abbrev pub drawing_records : Sources → RasterWords → Contents → DrawDriver → List Record
drawing_records s raster k (calls.ActiveTexture unit) = []
drawing_records s raster k (calls.SetRaster number words) = []
drawing_records s raster k (calls.Clear mask) = clear_record s.drawable raster k mask ∷ []
drawing_records s raster k (calls.DrawArrays mode first count black) = arrays_record s raster k mode first count ∷ []
drawing_records s raster k (calls.DrawElements mode count kind offset black) = elements_record s raster k mode count kind offset ∷ []

-- where there was room, these
abbrev pub recorded : List Record → Answer → List Record
recorded records answers.Done = records
recorded records answers.Oom = []
recorded records (answers.Name n) = []
recorded records (answers.Compile ok log) = []
recorded records (answers.Link a) = []
recorded records (answers.Validate ok log) = []
recorded records (answers.Pixels bytes) = []

-- what a call on images records
abbrev pub image_call_records : Drawable → Contents → ImageDriver → Answer → List Record
image_call_records b k (images.TexImage target level format kind width height payload) answer = []
image_call_records b k (images.TexSubImage part bytes) answer = []
image_call_records b k (images.ZeroLevel place rect) answer = []
image_call_records b k (images.TexParameter target pname value) answer = []
image_call_records b k (images.CopyTexImage target level format x y width height) answer =
    recorded (copy_image_records b k (copy_words target level format x y width height)) answer
image_call_records b k (images.CopyTexSubImage copy) answer = copy_part_records b k copy
image_call_records b k (images.GenerateMipmap target) answer = reduce_record b k target ∷ []
image_call_records b k (images.RenderbufferStorage format width height) answer = []
image_call_records b k (images.ZeroRenderbuffer name) answer = []
image_call_records b k (images.ReadPixels x y width height) answer = read_record b k x y width height ∷ []

-- what a driver call records; a call on objects, shaders and programs records nothing
abbrev pub call_records : DriverState → DriverCall → Answer → List Record
call_records d (driver.Object call) answer = []
call_records d (driver.Image call) answer = image_call_records (drawable_in d.tables) d.contents call answer
call_records d (driver.Program call) answer = []
call_records d (driver.Draw call) answer = drawing_records (sources_in d.tables) d.tables.raster d.contents call

-- where something is drawn, this; else that
abbrev pub if_drawn : {T : Type 0} → Result DrawPlan GlError → T → T → T
if_drawn (Err e) x y = y
if_drawn (Ok plan) x y = if plan.draw then x else y

-- what a command on the fixed state, or one that clears or draws, leaves of the contents
abbrev pub draw_contents : EsState → DrawCommand → Contents → Contents
draw_contents s (ActiveTexture unit) k = k
draw_contents s (Raster number words) k = k
draw_contents s (Clear mask) k = if mask == 0 then k else cleared mask (target_of s.framebuffers) k
draw_contents s (DrawArrays mode first count) k = if_drawn (check_arrays (sources_of s) mode first count) (drawn (target_of s.framebuffers) k) k
draw_contents s (DrawElements mode count kind offset) k = if_drawn (check_indexed (sources_of s) mode count kind offset) (drawn (target_of s.framebuffers) k) k
draw_contents s Flush k = k
draw_contents s Finish k = k

-- what it records
abbrev pub draw_records : EsState → DrawCommand → Contents → List Record
draw_records s (ActiveTexture unit) k = []
draw_records s (Raster number words) k = []
draw_records s (Clear mask) k = if mask == 0 then [] else clear_record (drawable_of s) s.raster k mask ∷ []
draw_records s (DrawArrays mode first count) k = if_drawn (check_arrays (sources_of s) mode first count) (arrays_record (sources_of s) s.raster k mode first count ∷ []) []
draw_records s (DrawElements mode count kind offset) k = if_drawn (check_indexed (sources_of s) mode count kind offset) (elements_record (sources_of s) s.raster k mode count kind offset ∷ []) []
draw_records s Flush k = []
draw_records s Finish k = []

-- where there was no room, the contents are as they were
abbrev pub contents_stored : Contents → Contents → Stored → Contents
contents_stored k new room.Done = new
contents_stored k new room.Oom = k

-- what a command on images leaves of the contents: an image without data is zero
abbrev pub image_contents : EsState → ImageCommand → List ℕ → Oracle → Contents → Contents
image_contents s (TexImage2D image words) payload o k =
    contents_stored k (with_image k (place_bound s.textures.objects image.target (natural image.level)) (new_pixels Zero (unpadded_payload image s.alignments.unpack (payload_of words payload)) (view_of image))) (first o.stored)
image_contents s (TexSubImage2D part words) payload o k =
    with_pixels k (place_bound s.textures.objects part.target (natural part.level)) (part_rect part) (pixels_of (unpadded_part part s.alignments.unpack payload) (pixel_size part.format part.kind) (part_rect part))
image_contents s (CopyTexImage2D copy) payload o k = contents_stored k (copy_tex_image_contents (drawable_of s) copy k) (first o.stored)
image_contents s (CopyTexSubImage2D copy) payload o k = if is_empty (copy_rect copy) then k else copy_tex_sub_image_contents (drawable_of s) copy k
image_contents s (TexParameteri target pname value) payload o k = k
image_contents s (GenerateMipmap target) payload o k = halved_contents s.textures.objects target k
image_contents s (RenderbufferStorage target format width height) payload o k = contents_stored k (with_storage k s.renderbuffers.bound (λ x y. Zero)) (first o.stored)

-- where there was room, these
abbrev pub records_stored : List Record → Stored → List Record
records_stored records room.Done = records
records_stored records room.Oom = []

-- what a command on images records
abbrev pub image_records : EsState → ImageCommand → Oracle → Contents → List Record
image_records s (TexImage2D image words) o k = []
image_records s (TexSubImage2D part words) o k = []
image_records s (CopyTexImage2D copy) o k = records_stored (copy_image_records (drawable_of s) k copy) (first o.stored)
image_records s (CopyTexSubImage2D copy) o k = if is_empty (copy_rect copy) then [] else copy_part_records (drawable_of s) k copy
image_records s (TexParameteri target pname value) o k = []
image_records s (GenerateMipmap target) o k = reduce_record (drawable_of s) k target ∷ []
image_records s (RenderbufferStorage target format width height) o k = []

-- what a query leaves of the contents: a read is counted
abbrev pub query_contents : QueryCommand → Contents → Contents
query_contents (ReadPixels words bucket) k = if reads_nothing words then k else counted k
query_contents GetError k = k
query_contents (Words query) k = k
query_contents (Bytes query bucket) k = k

-- what a query records
abbrev pub query_records : EsState → QueryCommand → Contents → List Record
query_records s (ReadPixels words bucket) k = if reads_nothing words then [] else read_record (drawable_of s) k words.x words.y words.width words.height ∷ []
query_records s GetError k = []
query_records s (Words query) k = []
query_records s (Bytes query bucket) k = []

-- what a command that is not refused leaves of the contents
abbrev pub own_contents : EsState → Command → List ℕ → Oracle → Contents → Contents
own_contents s Noop payload o k = k
own_contents s (SetToken token) payload o k = k
own_contents s (Bucket c) payload o k = k
own_contents s (Object c) payload o k = k
own_contents s (Image c) payload o k = image_contents s c payload o k
own_contents s (Draw c) payload o k = draw_contents s c k
own_contents s (Query c) payload o k = query_contents c k

-- what a command that is not refused records
abbrev pub own_records : EsState → Command → List ℕ → Oracle → Contents → List Record
own_records s Noop payload o k = []
own_records s (SetToken token) payload o k = []
own_records s (Bucket c) payload o k = []
own_records s (Object c) payload o k = []
own_records s (Image c) payload o k = image_records s c o k
own_records s (Draw c) payload o k = draw_records s c k
own_records s (Query c) payload o k = query_records s c k

-- a refused command leaves the contents as they are
abbrev pub contents_by : Option GlError → EsState → Command → List ℕ → Oracle → Contents → Contents
contents_by (Some e) s c payload o k = k
contents_by None s c payload o k = own_contents s c payload o k

-- the contents after a command with its data
abbrev pub contents_after : EsState → Command → List ℕ → Oracle → Contents → Contents
contents_after s c payload o k = contents_by (command_refusal s c payload) s c payload o k

-- a refused command records nothing
abbrev pub records_by : Option GlError → EsState → Command → List ℕ → Oracle → Contents → List Record
records_by (Some e) s c payload o k = []
records_by None s c payload o k = own_records s c payload o k

-- what a command with its data records
abbrev pub step_records : EsState → Command → List ℕ → Oracle → Contents → List Record
step_records s c payload o k = records_by (command_refusal s c payload) s c payload o k

-- the contents after the command that is spelled, if one is, with the bytes that come beside it
abbrev pub contents_behind : WireState → Option Command → List ℕ → Oracle → Contents → Contents
contents_behind w None payload o k = k
contents_behind w (Some c) payload o k = contents_after w.es c (given_to w c payload) o k

-- what the command that is spelled records, if one is
abbrev pub records_made : WireState → Option Command → List ℕ → Oracle → Contents → List Record
records_made w None payload o k = []
records_made w (Some c) payload o k = step_records w.es c (given_to w c payload) o k

-- the records of a run of commands: contents go along beside the tables
abbrev pub run_records : WireState → Contents → List Fetched → Oracle → List Record
run_records w k [] o = []
run_records w k (f ∷ fs) o = if (meaning_of w f).bad then []
    else records_made w (command_of f) f.payload o k
    ++ run_records ((meaning_of w f).step o).state (contents_behind w (command_of f) f.payload o k) fs ((meaning_of w f).step o).oracle
