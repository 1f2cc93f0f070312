-- How a driver's stop ends a command.
use Rattle.gl_plain.specs.declared.stop.ExecStop.{ExecStop}
use Rattle.gl_plain.specs.declared.stop.ExecStop.TheVariants as exec
use Rattle.gl_driver.specs.declared.stop.DriverStop.{DriverStop}
use Rattle.gl_driver.specs.declared.stop.DriverStop.TheVariants as driver

-- a command ends as the driver stopped
abbrev pub stop_of_driver : DriverStop → ExecStop
stop_of_driver driver.Lost = exec.Lost
stop_of_driver driver.NoMemory = exec.NoMemory
