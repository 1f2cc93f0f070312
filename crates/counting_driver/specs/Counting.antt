-- Names that are counted.
use Rattle.std.specs.Prelude.{◌≡◌, ◌<◌, ℕ, Bool, true, false}
use Rattle.std.specs.FinSet as set
use Rattle.gl_plain.specs.declared.driver_calls.Answer.{Answer}
use Rattle.gl_plain.specs.declared.driver_calls.Answer.TheVariants.{Done, Name, Oom, Compile, Link, Validate, Pixels}
use Rattle.gl_plain.specs.State.{NamesGiven}
use Rattle.counting_driver.specs.declared.names.Names.{Names}

-- no name above these counts was given
pub record AreAbove (given : NamesGiven) (names : Names) : Type 0 where
  pub buffers_new : (n : ℕ) → names.buffers < n → set.contains given.buffers n ≡ false
  pub textures_new : (n : ℕ) → names.textures < n → set.contains given.textures n ≡ false
  pub renderbuffers_new : (n : ℕ) → names.renderbuffers < n → set.contains given.renderbuffers n ≡ false
  pub framebuffers_new : (n : ℕ) → names.framebuffers < n → set.contains given.framebuffers n ≡ false
  pub programs_new : (n : ℕ) → names.programs < n → set.contains given.programs n ≡ false

-- the answer is a name
abbrev pub is_name : Answer → Bool
is_name (Name n) = true
is_name Done = false
is_name Oom = false
is_name (Compile ok log) = false
is_name (Link a) = false
is_name (Validate ok log) = false
is_name (Pixels bytes) = false
