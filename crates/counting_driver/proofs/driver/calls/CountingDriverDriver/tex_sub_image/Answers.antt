-- That the words of the part are those that were given.
use Rattle.std.proofs.Common.{rules}
use Rattle.std.proofs.lemmas.Int.{to_z-of_z}
use Rattle.counting_driver.proofs.driver.calls.CountingDriverDriver.tex_sub_image.Goals as goal

pub returns-clause-served : goal.returns-clause-served
returns-clause-served c = search (rules, to_z-of_z, c.make.ensures.served)
