-- What the zeroings of a command are for: each turns a place that was never written to zero, in an image that the command uses, and stands only
-- before the command's own driver call.
use Rattle.std.specs.Prelude.{◌≡◌, ◌≤◌, ◌<◌, ◌+◌, ◌⊎◌, ℕ, Bool, true, false, ◌||◌, ◌==◌, if◌then◌else◌, List, [], ◌∷◌, ◌++◌, map, Option, None, Some}
use Rattle.gl_base.specs.declared.rect.Rect.{Rect}
use Rattle.gl_base.specs.Rects.{has, IsIn, whole}
use Rattle.gl_plain.specs.declared.textures.LevelView.{LevelView}
use Rattle.gl_plain.specs.declared.textures.ImagePlace.{ImagePlace}
use Rattle.gl_plain.specs.declared.targets.AnyImage.{AnyImage}
use Rattle.gl_plain.specs.declared.targets.AnyImage.TheVariants as any
use Rattle.gl_plain.specs.declared.commands.Command.{Command}
use Rattle.gl_plain.specs.declared.commands.Command.TheVariants.{Noop, SetToken, Bucket, Object, Image, Draw, Query}
use Rattle.gl_plain.specs.declared.commands.ImageCommand.{ImageCommand}
use Rattle.gl_plain.specs.declared.commands.ImageCommand.TheVariants.{TexImage2D, TexSubImage2D, CopyTexImage2D, CopyTexSubImage2D, TexParameteri, GenerateMipmap, RenderbufferStorage}
use Rattle.gl_plain.specs.declared.driver_calls.DriverCall.{DriverCall}
use Rattle.gl_plain.specs.declared.driver_calls.DriverCall.TheVariants as driver
use Rattle.gl_plain.specs.declared.driver_calls.ImageDriver.{ImageDriver}
use Rattle.gl_plain.specs.declared.driver_calls.ImageDriver.TheVariants.{TexImage, TexSubImage, ZeroLevel, TexParameter, CopyTexImage, CopyTexSubImage, GenerateMipmap, RenderbufferStorage, ZeroRenderbuffer, ReadPixels}
use Rattle.gl_plain.specs.declared.driver_calls.DriverEntry.{DriverEntry}
use Rattle.gl_plain.specs.subjects.Textures.{TextureObjects, level_at}
use Rattle.gl_plain.specs.subjects.Targets.{renderbuffer_at, colour_images, target_of}
use Rattle.gl_plain.specs.subjects.Images.{Pixel, Undefined, is_defined, is_place, part_rect}
use Rattle.gl_plain.specs.subjects.Mipmaps.{base_places}
use Rattle.gl_plain.specs.subjects.Copies.{copy_rect, copy_part_place}
use Rattle.gl_plain.specs.image.Covers.{part_place}
use Rattle.gl_plain.specs.query.Calls.{query_whole_first}
use Rattle.gl_plain.specs.draw.Calls.{draw_whole_first}
use Rattle.gl_plain.specs.State.{EsState, DriverState, sources_of}
use Rattle.gl_plain.specs.Journal.{entry_after}
use Rattle.gl_plain.specs.Parts.{calls_in}

-- the written places of an image that is there, together with a rectangle, are no rectangle
abbrev pub IsNoRectangle : Option LevelView → (ℕ → ℕ → Pixel) → Rect → Type 0
IsNoRectangle None px r = ⊥
IsNoRectangle (Some v) px r = (u : Rect) → IsIn u v.width v.height → ((x y : ℕ) → x < v.width → y < v.height → has u x y ≡ (is_defined (px x y) || has r x y)) → ⊥

-- the image is one of these
abbrev pub IsAmong : List AnyImage → AnyImage → Type 0
IsAmong [] x = ⊥
IsAmong (other ∷ xs) x = (x ≡ other) ⊎ IsAmong xs x

-- a rectangle that is written into an image makes none with what was written of it
pub record IsSplit (t : TextureObjects) (d : DriverState) (place : ImagePlace) (r : Rect) (x : AnyImage) : Type 0 where
  pub here : x ≡ any.Level place
  pub apart : IsNoRectangle (level_at t place) (d.contents.images place) r

-- a command on images uses the image that it changes in part, that of the colours that it copies, and those that it halves
abbrev pub UsesImage : EsState → DriverState → ImageCommand → AnyImage → Type 0
UsesImage s d (TexImage2D image words) x = ⊥
UsesImage s d (TexSubImage2D part words) x = IsSplit s.textures.objects d (part_place s.textures.objects part) (part_rect part) x
UsesImage s d (CopyTexImage2D copy) x = IsAmong (colour_images (target_of s.framebuffers)) x
UsesImage s d (CopyTexSubImage2D copy) x =
    IsAmong (colour_images (target_of s.framebuffers)) x ⊎ IsSplit s.textures.objects d (copy_part_place s.textures.objects copy) (copy_rect copy) x
UsesImage s d (TexParameteri target pname value) x = ⊥
UsesImage s d (GenerateMipmap target) x = IsAmong (map any.Level (base_places s.textures.objects target)) x
UsesImage s d (RenderbufferStorage target format width height) x = ⊥

-- the command uses the image, and it has to be whole: a draw uses those that it samples and those that it draws to, a Clear those that are
-- attached, and a read that of the colours
abbrev pub Uses : EsState → DriverState → Command → AnyImage → Type 0
Uses s d Noop x = ⊥
Uses s d (SetToken token) x = ⊥
Uses s d (Bucket c) x = ⊥
Uses s d (Object c) x = ⊥
Uses s d (Image c) x = UsesImage s d c x
Uses s d (Draw c) x = IsAmong (draw_whole_first (sources_of s) c) x
Uses s d (Query c) x = IsAmong (query_whole_first s c) x

-- a place of the rectangle that was never written
pub record HasUndefined (px : ℕ → ℕ → Pixel) (r : Rect) : Type 0 where
  pub x : ℕ
  pub y : ℕ
  pub inside : has r x y ≡ true
  pub undefined : px x y ≡ Undefined

-- a place of the image of a renderbuffer
abbrev pub HasUndefinedStorage : (ℕ → ℕ → Pixel) → Option LevelView → Type 0
HasUndefinedStorage px None = ⊥
HasUndefinedStorage px (Some v) = HasUndefined px (whole v.width v.height)

-- the call on images zeroes a rectangle of which a place was never written, in an image that is used
abbrev pub IsZeroingOf : (AnyImage → Type 0) → DriverState → ImageDriver → Type 0
IsZeroingOf Used d (TexImage target level format kind width height payload) = ⊥
IsZeroingOf Used d (TexSubImage part bytes) = ⊥
IsZeroingOf Used d (ZeroLevel place rect) = Used (any.Level place) × HasUndefined (d.contents.images place) rect
IsZeroingOf Used d (TexParameter target pname value) = ⊥
IsZeroingOf Used d (CopyTexImage target level format x y width height) = ⊥
IsZeroingOf Used d (CopyTexSubImage copy) = ⊥
IsZeroingOf Used d (GenerateMipmap target) = ⊥
IsZeroingOf Used d (RenderbufferStorage format width height) = ⊥
IsZeroingOf Used d (ZeroRenderbuffer name) =
    Used (any.Renderbuffer name) × HasUndefinedStorage (d.contents.renderbuffers name) (renderbuffer_at d.tables.renderbuffers.objects name)
IsZeroingOf Used d (ReadPixels x y width height) = ⊥

abbrev pub IsZeroing : (AnyImage → Type 0) → DriverState → DriverCall → Type 0
IsZeroing Used d (driver.Object call) = ⊥
IsZeroing Used d (driver.Image call) = IsZeroingOf Used d call
IsZeroing Used d (driver.Program call) = ⊥
IsZeroing Used d (driver.Draw call) = ⊥

-- each of the entries does, in the state that those before it leave
abbrev pub AreZeroings : (AnyImage → Type 0) → DriverState → List DriverEntry → Type 0
AreZeroings Used d [] = Unit {0}
AreZeroings Used d (e ∷ es) = IsZeroing Used d e.call × AreZeroings Used (entry_after d e) es

-- the images are the same
abbrev pub is_image : AnyImage → AnyImage → Bool
is_image (any.Level place) (any.Level other) = is_place place other
is_image (any.Level place) (any.Renderbuffer number) = false
is_image (any.Renderbuffer number) (any.Level other) = false
is_image (any.Renderbuffer number) (any.Renderbuffer other) = other == number

-- how many of the calls zero a part of this image
abbrev pub zeroes_image : AnyImage → ImageDriver → ℕ
zeroes_image x (TexImage target level format kind width height payload) = 0
zeroes_image x (TexSubImage part bytes) = 0
zeroes_image x (ZeroLevel other rect) = if is_image x (any.Level other) then 1 else 0
zeroes_image x (TexParameter target pname value) = 0
zeroes_image x (CopyTexImage target level format column row width height) = 0
zeroes_image x (CopyTexSubImage copy) = 0
zeroes_image x (GenerateMipmap target) = 0
zeroes_image x (RenderbufferStorage format width height) = 0
zeroes_image x (ZeroRenderbuffer name) = if is_image x (any.Renderbuffer name) then 1 else 0
zeroes_image x (ReadPixels column row width height) = 0

abbrev pub zeroes : AnyImage → DriverCall → ℕ
zeroes x (driver.Object call) = 0
zeroes x (driver.Image call) = zeroes_image x call
zeroes x (driver.Program call) = 0
zeroes x (driver.Draw call) = 0

abbrev pub count_zeroes : AnyImage → List DriverCall → ℕ
count_zeroes x [] = 0
count_zeroes x (call ∷ calls) = zeroes x call + count_zeroes x calls

-- how many zeroings an image may have: four of a level, and one of a renderbuffer
abbrev pub most_zeroings : AnyImage → ℕ
most_zeroings (any.Level place) = 4
most_zeroings (any.Renderbuffer number) = 1

-- the entries of a command: its zeroings, of which an image has no more than it may, and then its own, which zero nothing and are there if there
-- are zeroings
pub record IsPromised (s : EsState) (d : DriverState) (c : Command) (entries : List DriverEntry) : Type 0 where
  pub zeros : List DriverEntry
  pub own : List DriverEntry
  pub split : entries ≡ zeros ++ own
  pub zeroings : AreZeroings (Uses s d c) d zeros
  pub few : (x : AnyImage) → count_zeroes x (calls_in zeros) ≤ most_zeroings x
  pub others : (x : AnyImage) → count_zeroes x (calls_in own) ≡ 0
  pub ended : (zeros ≡ []) ⊎ ((last : DriverEntry) × (own ≡ last ∷ []))
