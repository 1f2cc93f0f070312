-- The zeroings that are called for by what was written.
use Rattle.std.specs.Prelude.{ℕ, Bool, true, false, List, [], ◌∷◌, ◌++◌, Option, None, Some}
use Rattle.gl_base.specs.declared.rect.Rect.{Rect}
use Rattle.gl_base.specs.Rects.{whole}
use Rattle.gl_plain.specs.declared.driver_calls.DriverCall.{DriverCall}
use Rattle.gl_plain.specs.declared.driver_calls.DriverCall.TheVariants.{Image}
use Rattle.gl_plain.specs.declared.driver_calls.ImageDriver.TheVariants as calls
use Rattle.gl_plain.specs.declared.textures.LevelView.{LevelView}
use Rattle.gl_plain.specs.declared.textures.ImagePlace.{ImagePlace}
use Rattle.gl_plain.specs.subjects.Textures.{TextureObjects, level_at}
use Rattle.gl_plain.specs.declared.targets.AnyImage.{AnyImage}
use Rattle.gl_plain.specs.declared.targets.AnyImage.TheVariants as any
use Rattle.gl_plain.specs.subjects.Images.{Covers, with_cover, rest_at, Marks, with_mark}

-- what was not written of an image
abbrev pub unwritten : TextureObjects → Covers → ImagePlace → List Rect
unwritten t f place = rest_at (level_at t place) (f place)

abbrev pub filled_by : Covers → ImagePlace → Option LevelView → Covers
filled_by f place None = f
filled_by f place (Some v) = with_cover f place (whole v.width v.height)

-- an image that is there is written whole
abbrev pub filled : TextureObjects → Covers → ImagePlace → Covers
filled t f place = filled_by f place (level_at t place)

-- the call that zeroes a rectangle of an image
abbrev pub zero_call : ImagePlace → Rect → DriverCall
zero_call place r = Image (calls.ZeroLevel place r)

-- the calls that zero these rectangles of an image
abbrev pub zero_calls : ImagePlace → List Rect → List DriverCall
zero_calls place [] = []
zero_calls place (r ∷ rs) = zero_call place r ∷ zero_calls place rs

-- the call that zeroes a renderbuffer, where it is not written
abbrev pub zero_storage : ℕ → (is_written : Bool) → List DriverCall
zero_storage number true = []
zero_storage number false = Image (calls.ZeroRenderbuffer number) ∷ []

-- the calls that zero what was not written of these images, in order
abbrev pub zeroings : TextureObjects → Covers → Marks → List AnyImage → List DriverCall
zeroings t f m [] = []
zeroings t f m (any.Level place ∷ xs) = zero_calls place (unwritten t f place) ++ zeroings t (filled t f place) m xs
zeroings t f m (any.Renderbuffer number ∷ xs) = zero_storage number (m number) ++ zeroings t f (with_mark m number true) xs

-- what is written of textures after them
abbrev pub all_filled : TextureObjects → Covers → List AnyImage → Covers
all_filled t f [] = f
all_filled t f (any.Level place ∷ xs) = all_filled t (filled t f place) xs
all_filled t f (any.Renderbuffer number ∷ xs) = all_filled t f xs

-- which renderbuffers are written after them
abbrev pub all_marked : Marks → List AnyImage → Marks
all_marked m [] = m
all_marked m (any.Level place ∷ xs) = all_marked m xs
all_marked m (any.Renderbuffer number ∷ xs) = all_marked (with_mark m number true) xs
