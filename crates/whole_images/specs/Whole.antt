-- Images that are made whole: what was never written of them is turned to zero.
use Rattle.std.specs.Prelude.{◌≡◌, List, map, Option, None, Some, IsSome, Result, OnOk}
use Rattle.std.specs.FinMap as table
use Rattle.gl_plain.specs.declared.driver_calls.DriverCall.{DriverCall}
use Rattle.gl_plain.specs.declared.targets.AnyImage.{AnyImage}
use Rattle.gl_plain.specs.declared.targets.AnyImage.TheVariants as image
use Rattle.gl_plain.specs.declared.targets.Target.{Target}
use Rattle.gl_plain.specs.declared.targets.Target.TheVariants as target
use Rattle.gl_plain.specs.declared.textures.ImagePlace.{ImagePlace}
use Rattle.gl_plain.specs.subjects.Targets.{Renderbuffers}
use Rattle.gl_plain.specs.subjects.Images.{no_marks}
use Rattle.gl_plain.specs.Covers.{zeroings, all_filled, all_marked}
use Rattle.gl_driver.specs.History.{History}
use Rattle.gl_driver.specs.Performed.{MakesAll}
use Rattle.gl_driver.specs.declared.stop.DriverStop.{DriverStop}
use Rattle.texture_mgr.specs.declared.textures.Textures.{Textures}
use Rattle.texture_mgr.specs.Tables.{tables, covers}
use Rattle.target_mgr.specs.declared.targets.Targets.{Targets}
use Rattle.target_mgr.specs.Tables.{renderbuffers, framebuffers, marks}

-- the driver calls that make these images of textures whole, in order
abbrev pub zeroings_of : Textures → List ImagePlace → List DriverCall
zeroings_of x places = zeroings (tables x).objects (covers x) no_marks (map image.Level places)

-- those that make these images whole, in order
abbrev pub image_zeroings : Textures → Targets → List AnyImage → List DriverCall
image_zeroings x g images = zeroings (tables x).objects (covers x) (marks g) images

-- they were made, and where the driver did not stop, the images are whole, and nothing else changed
pub record MakesWhole {D : Type 0} (history : D → History) (grown : D → D → Type 0) (d d2 : D) (x x2 : Textures) (places : List ImagePlace) (result : Result (Unit {0}) DriverStop) : Type 0 where
  pub calls : MakesAll history grown d d2 (zeroings_of x places) result
  pub tables_are : OnOk result (tables x2 ≡ tables x)
  pub covers_are : OnOk result (covers x2 ≡ all_filled (tables x).objects (covers x) (map image.Level places))

-- the same of any images
pub record MakesImagesWhole {D : Type 0} (history : D → History) (grown : D → D → Type 0) (d d2 : D) (x x2 : Textures) (g g2 : Targets) (images : List AnyImage) (result : Result (Unit {0}) DriverStop) : Type 0 where
  pub calls : MakesAll history grown d d2 (image_zeroings x g images) result
  pub tables_are : OnOk result (tables x2 ≡ tables x)
  pub covers_are : OnOk result (covers x2 ≡ all_filled (tables x).objects (covers x) images)
  pub renderbuffers_are : OnOk result (renderbuffers g2 ≡ renderbuffers g)
  pub framebuffers_are : OnOk result (framebuffers g2 ≡ framebuffers g)
  pub marks_are : OnOk result (marks g2 ≡ all_marked (marks g) images)

-- a renderbuffer that is attached is there
abbrev pub IsThere : Renderbuffers → Option AnyImage → Type 0
IsThere r None = Unit {0}
IsThere r (Some (image.Level place)) = Unit {0}
IsThere r (Some (image.Renderbuffer number)) = IsSome (table.get r number)

-- so is each
abbrev pub AreThere : Renderbuffers → Target → Type 0
AreThere r target.Default = Unit {0}
AreThere r (target.Bound colour depth stencil) = IsThere r colour × IsThere r depth × IsThere r stencil

-- so is that which colours are read from
abbrev pub IsColourThere : Renderbuffers → Target → Type 0
IsColourThere r target.Default = Unit {0}
IsColourThere r (target.Bound colour depth stencil) = IsThere r colour
