-- What a run leaves.
use Rattle.std.specs.Prelude.{[]}
use Rattle.gl_plain.specs.declared.driver_calls.Answers.{Answers}
use Rattle.gl_plain.specs.State.{Surface}
use Rattle.strict_driver.specs.StrictView.{StrictView}
use Rattle.strict_driver.specs.StrictHistory.{new_driver}
use Rattle.gles2_run.specs.declared.desk.Desk.{Desk}

-- a desk on which nothing was done
abbrev pub new_desk : Desk
new_desk = record { driver = new_driver; answers = [] }

-- a driver that was given no call, with this surface and these answers
abbrev pub loaded_driver : Surface → Answers → StrictView
loaded_driver surface given = record new_driver { surface = surface; loaded = given }
