-- How a run ends, what that says of its words, its input and its desk, and what is written.
use Prim.Native.Nat.{suc}
use Rattle.std.specs.Prelude.{◌≡◌, ◌⊎◌, ◌<◌, ◌≤◌, ℕ, Bool, ◌==◌, ◌||◌, List, [], ◌∷◌, length, take, codes, Option, Some, None, IfSome, Ok, Err, false, ◌++◌, true}
use Rattle.std.specs.Io.KnownBytes.{Consumes, Appends, IsAtEnd}
use Rattle.io_edge.specs.Causes.{Rose}
use Rattle.io_edge.specs.Pieces.{ConsumesFront, AppendsFront}
use Rattle.gl_plain.specs.declared.calls.Reply.{Reply}
use Rattle.gl_plain.specs.declared.commands.Stop.{Stop}
use Rattle.cb_shm.specs.declared.script.Script.{Script}
use Rattle.gl_plain.specs.subjects.Images.{read_contents}
use Rattle.gl_plain.specs.State.{opening_wire, opening_driver}
use Rattle.gl_plain.specs.Oracle.{Oracle}
use Rattle.gl_plain.specs.Oracle as given
use Rattle.gl_plain.specs.driver.Answers.{AreAnsweredBy}
use Rattle.cb_fetch.specs.Seen.{seen}
use Rattle.gl_plain.specs.Run.{Run, wire_run}
use Rattle.gl_plain.specs.Parts.{AreParts, AreCutParts}
use Rattle.gl_plain.specs.Journal.{state_after, records_in}
use Rattle.gl_plain.specs.Records.{Record, run_records}
use Rattle.gl_plain.specs.Agreement.{Agrees}
use Rattle.gl_driver.specs.declared.stop.DriverStop.TheVariants as driver
use Rattle.ring_script.specs.Script.{script_in}
use Rattle.report_text.specs.declared.end.End.{End}
use Rattle.report_text.specs.declared.end.End.TheVariants.{Done, Usage, BadLine, ReadFault, Stopped, Lost, NoMemory, TooLong}
use Rattle.report_text.specs.declared.statuses.TheConstants.{WRITE_FAULT, NO_MEMORY}
use Rattle.report_text.specs.Ends.{status_of}
use Rattle.report_text.specs.Report.{output_text, work_text}
use Rattle.gles2_run.specs.declared.desk.Desk.{Desk}
use Rattle.gles2_run.specs.Desks.{new_desk}
use Rattle.gles2_run.specs.Written.{AppendsFrontCut}

-- the words of the command line are the one word `ring`
abbrev pub IsRing : List (List ℕ) → Type 0
IsRing words = words ≡ codes "ring" ∷ []

-- the most bytes that an input may have
abbrev pub INPUT_LIMIT : ℕ
INPUT_LIMIT = 67108864

-- the source gave this input, and then a read of nothing
pub record IsInput (before now : Option (List ℕ)) (ended : Type 0) (input : List ℕ) : Type 0 where
  pub whole : Consumes before now input
  pub at_end : IsAtEnd now
  pub seen : ended
  pub short : length input ≤ INPUT_LIMIT

-- the source gave more than an input may have
abbrev pub IsTooLong : Option (List ℕ) → Option (List ℕ) → Type 0
IsTooLong before now = (input : List ℕ) × Consumes before now input × (INPUT_LIMIT < length input)

-- the answers that a script gives to what is asked of the driver
abbrev pub answers_of : Script → Oracle
answers_of script = given.answers_of script.answers

-- the run of a script's commands, as read, from the opening state
abbrev pub ring_run : Script → Run
ring_run script = wire_run (opening_wire script.surface) (seen script).commands (seen script).stop (answers_of script)

-- What is so of the journal of a script's run, also of one that was cut off: the driver opened with the script's surface, it gave the
-- answers of the script, in order, and there are no more calls than are answered before the driver is lost.
pub record KeepsToScript (script : Script) (desk : Desk) : Type 0 where
  pub surface : desk.driver.surface ≡ script.surface
  pub answers : AreAnsweredBy (answers_of script) desk.driver.journal
  pub within : IfSome script.answers.lost (λ n. length desk.driver.journal ≤ n)

-- The desk holds the run of a script: the replies, one part of the journal for each command, and a driver whose tables are those that
-- the calls of OpenGL ES left. What the driver calls drew and cleared are the records of the run.
pub record HoldsRun (script : Script) (desk : Desk) : Type 0 where
  pub replies : desk.answers ≡ (ring_run script).replies
  pub parts : AreParts (opening_wire script.surface) (seen script).commands (answers_of script) desk.driver.journal
  pub records : records_in (opening_driver script.surface) desk.driver.journal ≡ run_records (opening_wire script.surface) (read_contents (opening_driver script.surface).contents) (seen script).commands (answers_of script)
  pub agrees : Agrees (ring_run script).state (state_after (opening_driver script.surface) desk.driver.journal)
  pub keeps : KeepsToScript script desk

-- the input is a script, which was run to its end, or to the malformed command that the run stops at
pub record HoldsRunOf (input : List ℕ) (stop : Option Stop) (desk : Desk) : Type 0 where
  pub script : Script
  pub text : script_in input ≡ Ok script
  pub stopped : (ring_run script).stop ≡ stop
  pub run : HoldsRun script desk

-- The desk holds the front of a script's run that was cut off, by a lost driver or for want of memory: the first of its replies, and of
-- the driver calls one part for each command that was answered, in order, and a front of the part of the next one, if there is one. What they
-- drew and cleared are the first of the records of those commands.
pub record HoldsFront (lost : Bool) (script : Script) (desk : Desk) : Type 0 where
  pub replies : (more : List Reply) × ((ring_run script).replies ≡ desk.answers ++ more)
  pub parts : AreCutParts lost (opening_wire script.surface) (seen script).commands (length desk.answers) (answers_of script) desk.driver.journal
  pub records : (more : List Record) × (run_records (opening_wire script.surface) (read_contents (opening_driver script.surface).contents) (take (suc (length desk.answers)) (seen script).commands) (answers_of script)
      ≡ records_in (opening_driver script.surface) desk.driver.journal ++ more)
  pub keeps : KeepsToScript script desk

-- the input is a script, whose run was cut off for want of memory
pub record HoldsFrontOf (input : List ℕ) (desk : Desk) : Type 0 where
  pub script : Script
  pub text : script_in input ≡ Ok script
  pub front : HoldsFront false script desk

-- the input is a script, whose run was cut off where the driver was lost: it has a line that says at which call, and so many were made
-- before it answered that it is lost
pub record HoldsLostOf (input : List ℕ) (desk : Desk) : Type 0 where
  pub script : Script
  pub text : script_in input ≡ Ok script
  pub front : HoldsFront true script desk
  pub lost : script.answers.lost ≡ Some (length desk.driver.journal)
  pub answered : desk.driver.stop ≡ Some driver.Lost

-- the source gave an input whose run was cut off where the driver was lost
pub record RanLost (before now : Option (List ℕ)) (ended : Type 0) (desk : Desk) : Type 0 where
  pub input : List ℕ
  pub read : IsInput before now ended input
  pub held : HoldsLostOf input desk

-- the source gave an input whose run was cut off for want of memory
pub record RanShort (before now : Option (List ℕ)) (ended : Type 0) (desk : Desk) : Type 0 where
  pub input : List ℕ
  pub read : IsInput before now ended input
  pub front : HoldsFrontOf input desk

-- the source gave an input that was run to its end, or to a malformed command
pub record RanTo (before now : Option (List ℕ)) (ended : Type 0) (stop : Option Stop) (desk : Desk) : Type 0 where
  pub input : List ℕ
  pub read : IsInput before now ended input
  pub ran : HoldsRunOf input stop desk

-- the input has a line outside the grammar, of which the first is named
pub record HasBadLine (before now : Option (List ℕ)) (ended : Type 0) (number : ℕ) : Type 0 where
  pub input : List ℕ
  pub read : IsInput before now ended input
  pub text : script_in input ≡ Err number

-- what an end says of an input that was read whole
abbrev pub TextMeans : End → List ℕ → Desk → Type 0
TextMeans (BadLine number) input desk = (script_in input ≡ Err number) × (desk ≡ new_desk)
TextMeans Done input desk = HoldsRunOf input None desk
TextMeans (Stopped stop) input desk = HoldsRunOf input (Some stop) desk
TextMeans Lost input desk = HoldsLostOf input desk
TextMeans NoMemory input desk = (desk ≡ new_desk) ⊎ HoldsFrontOf input desk
TextMeans Usage input desk = ⊥
TextMeans ReadFault input desk = ⊥
TextMeans TooLong input desk = ⊥

-- what an end says of the words, of the source and its faults, and of the desk
abbrev pub Means : End → List (List ℕ) → Option (List ℕ) → Option (List ℕ) → Type 0 → ℕ → ℕ → Desk → Type 0
Means Usage words before now ended was is desk = ¬ IsRing words × (now ≡ before) × (is ≡ was) × (desk ≡ new_desk)
Means ReadFault words before now ended was is desk = IsRing words × Rose was is × ConsumesFront before now × (desk ≡ new_desk)
Means TooLong words before now ended was is desk = IsRing words × IsTooLong before now × (desk ≡ new_desk)
Means (BadLine number) words before now ended was is desk = IsRing words × HasBadLine before now ended number × (desk ≡ new_desk)
Means Done words before now ended was is desk = IsRing words × RanTo before now ended None desk
Means (Stopped stop) words before now ended was is desk = IsRing words × RanTo before now ended (Some stop) desk
Means Lost words before now ended was is desk = IsRing words × RanLost before now ended desk
Means NoMemory words before now ended was is desk = IsRing words × ((desk ≡ new_desk) ⊎ RanShort before now ended desk)

-- The status is the end's, and the sink gained its whole output; or a write failed, and it gained a front of the output; or there was no
-- memory for the output, and it gained a front of the output without its end, behind which a front of the line that says so may stand.
abbrev pub Closes : End → Desk → ℕ → Option (List ℕ) → Option (List ℕ) → ℕ → ℕ → Type 0
Closes end desk status before after was is =
    ((status ≡ status_of end) × Appends before after (output_text desk.answers desk.driver.journal end))
    ⊎ ((status ≡ WRITE_FAULT) × Rose was is × AppendsFront before after (output_text desk.answers desk.driver.journal end))
    ⊎ ((status ≡ NO_MEMORY) × AppendsFrontCut before after (work_text desk.answers desk.driver.journal))

-- the fact holds, unless a write failed or there was no memory
abbrev pub UnlessCut : Type 0 → ℕ → Type 0
UnlessCut fact status = fact ⊎ (status ≡ 5) ⊎ (status ≡ 7)

-- the same, unless the driver was lost
abbrev pub UnlessLost : Type 0 → ℕ → Type 0
UnlessLost fact status = fact ⊎ (status ≡ 5) ⊎ (status ≡ 7) ⊎ (status ≡ 8)

-- the words are `ring`, the source tells that it has this input, and no read failed
pub record IsToldRing (words : List (List ℕ)) (before : Option (List ℕ)) (was is : ℕ) (input : List ℕ) : Type 0 where
  pub ring : IsRing words
  pub told : before ≡ Some input
  pub no_fault : ¬ Rose was is

-- the statuses of ends at which the script was run, to its end or to a malformed command
abbrev pub is_run : ℕ → Bool
is_run status = (status == 0) || (status == 6)

-- the statuses of ends at which nothing was run
abbrev pub is_unrun : ℕ → Bool
is_unrun status = (status == 2) || (status == 3) || (status == 4) || (status == 9)
