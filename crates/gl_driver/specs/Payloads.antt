-- The data that a driver call is given.
use Rattle.std.specs.Prelude.{ℕ, List, Option, None, Some}
use Rattle.std.specs.Borrow.{Bor}
use Rattle.gl_plain.specs.declared.calls.Payload.{Payload}
use Rattle.gl_plain.specs.declared.calls.Payload.TheVariants.{Absent, Here}

-- these bytes, or none
abbrev pub payload_given : Option (Bor (List ℕ)) → Payload
payload_given None = Absent
payload_given (Some bytes) = Here bytes.now
