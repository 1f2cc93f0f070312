-- What is seen of a driver that counts.
use Rattle.std.specs.Prelude.{List, [], Option, None}
use Rattle.gl_plain.specs.declared.driver_calls.DriverEntry.{DriverEntry}
use Rattle.gl_plain.specs.State.{Surface}
use Rattle.gl_driver.specs.declared.stop.DriverStop.{DriverStop}
use Rattle.counting_driver.specs.declared.names.Names.{Names}

-- the sides of its default framebuffer, how many names it gave, why it stopped, if it did, and its journal
pub record CountingView : Type 0 where
  pub surface : Surface
  pub names : Names
  pub stop : Option DriverStop
  pub journal : List DriverEntry

-- no name was given
abbrev pub no_names : Names
no_names = record { buffers = 0; textures = 0; renderbuffers = 0; framebuffers = 0; programs = 0 }

-- a driver that was given no call
abbrev pub new_counting : Surface → CountingView
new_counting surface = record { surface = surface; names = no_names; stop = None; journal = [] }
