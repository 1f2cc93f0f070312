-- Images of textures that are made whole: what was never written of them is turned to zero.
use Rattle.std.specs.Prelude.{List}
use Rattle.gl_plain.specs.declared.driver_calls.DriverCall.{DriverCall}
use Rattle.gl_plain.specs.declared.targets.AnyImage.{AnyImage}
use Rattle.gl_plain.specs.subjects.Images.{no_marks}
use Rattle.gl_plain.specs.Covers.{zeroings}
use Rattle.texture_mgr.specs.declared.textures.Textures.{Textures}
use Rattle.texture_mgr.specs.Tables.{tables, covers}

-- the driver calls that make these images whole, in order, where no renderbuffer is among them
abbrev pub level_zeroings : Textures → List AnyImage → List DriverCall
level_zeroings x images = zeroings (tables x).objects (covers x) no_marks images
