-- What the units so far sample is whole.
use Rattle.std.proofs.Common.{drop}
use Rattle.gl_plain.specs.subjects.Draws.{places_from}
use Rattle.texture_mgr.specs.Tables.{tables}
use Rattle.whole_images.proofs.MadeWhole.{WholeIn}
use Rattle.decode_draw.proofs.sampled.zero_units.Given as goal

abbrev pub invariant-loop-unit : goal.invariant-loop-unit
invariant-loop-unit g l = WholeIn g.D.Driver.history g.D.Driver.grown l.fn.driver l.driver l.fn.textures l.textures (places_from (tables l.fn.textures).objects 0 l.units) (places_from (tables l.fn.textures).objects l.unit (drop l.unit l.units))
