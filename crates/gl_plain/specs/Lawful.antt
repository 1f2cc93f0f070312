-- What the laws say of a command that was executed.
use Rattle.std.specs.Prelude.{◌≡◌, List}
use Rattle.gl_plain.specs.declared.driver_calls.DriverEntry.{DriverEntry}
use Rattle.gl_plain.specs.subjects.Images.{Contents, read_contents}
use Rattle.gl_plain.specs.Oracle.{Oracle}
use Rattle.gl_plain.specs.State.{WireState, DriverState}
use Rattle.gl_plain.specs.driver.Answers.{told}
use Rattle.gl_plain.specs.Records.{Record}
use Rattle.gl_plain.specs.Journal.{records_in}
use Rattle.gl_plain.specs.Agreement.{Agrees}

-- Where a command leaves these contents and makes these records: the service and the driver agree again, the driver's contents read as the
-- command leaves them, and the records of the driver calls are the command's.
pub record Keeps (contents : Oracle → Contents → Contents) (records : Oracle → Contents → List Record) (d : DriverState) (entries : List DriverEntry) (w2 : WireState) (d2 : DriverState) : Type 0 where
  pub agrees : Agrees w2 d2
  pub contents_are : (rest : Oracle) → read_contents d2.contents ≡ contents (told entries rest) (read_contents d.contents)
  pub records_are : (rest : Oracle) → records_in d entries ≡ records (told entries rest) (read_contents d.contents)
