-- What a strict driver keeps, and what holds of it.
use Rattle.std.specs.Prelude.{◌≡◌, ◌≤◌, ℕ, List, length, Option, None, Some, IfSome, IsTrue}
use Rattle.std.specs.List.Sorted.{IsNonDecreasing}
use Rattle.gl_plain.specs.declared.driver_calls.DriverEntry.{DriverEntry}
use Rattle.gl_plain.specs.declared.driver_calls.Answers.{Answers}
use Rattle.gl_plain.specs.CommonLines.{are_sound_answers}
use Rattle.gl_plain.specs.State.{opening_driver}
use Rattle.gl_plain.specs.Journal.{IsLegal}
use Rattle.gl_plain.specs.Oracle.{answers_of}
use Rattle.gl_plain.specs.driver.Answers.{AreAnsweredBy, behind_entries}
use Rattle.gl_driver.specs.declared.stop.DriverStop.{DriverStop}
use Rattle.gl_driver.specs.declared.stop.DriverStop.TheVariants.{Lost}
use Rattle.strict_driver.specs.declared.counts.Counts.{Counts}
use Rattle.strict_driver.specs.declared.tables.Tables.{Tables}
use Rattle.strict_driver.specs.declared.strict.StrictDriver.TheInside.{Inside}
use Rattle.strict_driver.specs.StrictView.{StrictView}
use Rattle.strict_driver.specs.TableState.{Follow, left_by}
use Rattle.strict_driver.specs.Given.{answers_from, given_by}

-- what is seen of the fields
abbrev pub view_of : Inside → StrictView
view_of a = record { surface = a.tables.surface; journal = a.journal; loaded = a.loaded; stop = a.stop; ooms = a.ooms; losses = a.losses }

-- each call met its condition, and each answer is the one that was loaded; the driver is lost once it has made as many calls as the loaded
-- answers say
pub record IsStrictJournal (surface : ℕ × ℕ) (journal : List DriverEntry) (loaded : Answers) (stop : Option DriverStop) : Type 0 where
  pub legal : IsLegal (opening_driver surface) journal
  pub answered : AreAnsweredBy (answers_of loaded) journal
  pub within : IfSome loaded.lost (λ n. length journal ≤ n)
  pub lost : stop ≡ Some Lost → loaded.lost ≡ Some (length journal)

-- the counts say which answers are left, each of which is of its form
pub record IsCounted (journal : List DriverEntry) (counts : Counts) (loaded : Answers) : Type 0 where
  pub left : behind_entries journal (answers_of loaded) ≡ answers_from loaded counts
  pub sorted : IsNonDecreasing loaded.oom
  pub sound : IsTrue (are_sound_answers loaded)

-- the tables are the state that the journal leaves, whatever comes behind it, and as many names were given as were counted
pub record IsInStep (tables : Tables) (journal : List DriverEntry) (counts : Counts) : Type 0 where
  pub state : Follow (left_by tables.surface journal).tables journal tables
  pub given : (left_by tables.surface journal).tables.given ≡ given_by counts

-- what holds of the fields at all times; after a stop the tables are used no more
pub record IsStrict (a : Inside) : Type 0 where
  pub journal : IsStrictJournal a.tables.surface a.journal a.loaded a.stop
  pub counted : IsCounted a.journal a.counts a.loaded
  pub in_step : a.stop ≡ None → IsInStep a.tables a.journal a.counts
