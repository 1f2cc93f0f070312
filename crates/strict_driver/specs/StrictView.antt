-- What is seen of a strict driver.
use Rattle.std.specs.Prelude.{ℕ, List, Option}
use Rattle.gl_plain.specs.declared.driver_calls.Answers.{Answers}
use Rattle.gl_plain.specs.declared.driver_calls.DriverEntry.{DriverEntry}
use Rattle.gl_driver.specs.declared.stop.DriverStop.{DriverStop}

-- the sides of its default framebuffer, its journal, the answers that it was loaded with, the stop that it answered first, if any, and how
-- often it answered Oom and Lost
pub record StrictView : Type 0 where
  pub surface : ℕ × ℕ
  pub journal : List DriverEntry
  pub loaded : Answers
  pub stop : Option DriverStop
  pub ooms : ℕ
  pub losses : ℕ
