use Rattle.texture_mgr.specs.Tables.{tables}
use Rattle.decode_draw.proofs.Drawings.{turned_false}
use Rattle.whole_images.proofs.MadeWhole.{makes_none}
use Rattle.decode_draw.proofs.SampledUnits.{no_places}
use Rattle.decode_draw.proofs.sampled.zero_unit.Goals as goal

pub returns-then-not-view : goal.returns-then-not-view
returns-then-not-view g c = makes_none g.met.D.Driver.grown_itself (no_places (tables c.args.textures.now).objects c.args.unit c.args.view (turned_false c.args.view.complete c.if-not-view.true))
