-- What the execution of a command does to the service's tables and to its driver.
use Rattle.std.specs.Prelude.{ℕ, List, [], Result, Ok, Err, IfSome}
use Rattle.gl_plain.specs.declared.calls.Reply.{Reply}
use Rattle.gl_plain.specs.declared.commands.Command.{Command}
use Rattle.gl_plain.specs.declared.commands.Fetched.{Fetched}
use Rattle.gl_plain.specs.declared.driver_calls.DriverEntry.{DriverEntry}
use Rattle.gl_plain.specs.declared.stop.ExecStop.{ExecStop}
use Rattle.gl_plain.specs.State.{WireState}
use Rattle.gl_plain.specs.Commands.{command_of}
use Rattle.gl_plain.specs.Meaning.{command_meaning, meaning_of}
use Rattle.gl_plain.specs.Records.{contents_behind, records_made}
use Rattle.gl_plain.specs.Lawful.{Keeps}
use Rattle.gl_plain.specs.Promises.{IsPromised}
use Rattle.gl_driver.specs.History.{History, Served}
use Rattle.gl_driver.specs.Performed as performed
use Rattle.buffer_mgr.specs.Tables.{tables}
use Rattle.program_mgr.specs.Tables as programs
use Rattle.texture_mgr.specs.Tables as textures
use Rattle.target_mgr.specs.Tables as targets
use Rattle.decoder_core.specs.declared.tables.Tables.{Tables}

-- the state that the service's tables are
abbrev pub state_of : Tables → WireState
state_of t = record {
  es = record { surface = t.surface; buffers = tables t.buffers; textures = textures.tables t.textures; renderbuffers = targets.renderbuffers t.targets; framebuffers = targets.framebuffers t.targets; attribs = t.attribs.attributes; programs = programs.tables t.programs; raster = t.raster.words; alignments = t.raster.alignments; errors = t.errors };
  covers = textures.covers t.textures;
  marks = targets.marks t.targets;
  buckets = t.buckets;
  token = t.token;
}

-- The command was one step, its entries are its part, and the driver's stop is as before. The tables agree with the driver's again, its
-- contents are those that the step leaves, and its records are the step's. Each zeroing among the entries turned a place that was never written
-- to zero, in an image that the command uses.
pub record Did (f : Fetched) (w : WireState) (h h2 : History) (entries : List DriverEntry) (w2 : WireState) (reply : Reply) : Type 0 where
  pub itself : performed.Did (meaning_of w f) h h2 entries w2 reply
  pub keeps : Keeps (contents_behind w (command_of f) f.payload) (records_made w (command_of f) f.payload) h.state entries w2 h2.state
  pub promised : IfSome (command_of f) (λ c. IsPromised w.es h.state c entries)

-- what a result says
abbrev pub IsOutcome : Fetched → WireState → History → List DriverEntry → WireState → History → Result Reply ExecStop → Type 0
IsOutcome f w h entries w2 h2 (Ok reply) = Did f w h h2 entries w2 reply
IsOutcome f w h entries w2 h2 (Err stop) = performed.IsOutcome (meaning_of w f) h h2 entries w w2 (Err stop)

-- the execution of a command by tables whose state was w and is w2, with a driver
pub record Performs {D : Type 0} (history : D → History) (grown : D → D → Type 0) (f : Fetched) (w : WireState) (d : D) (w2 : WireState) (d2 : D) (result : Result Reply ExecStop) : Type 0 where
  pub entries : List DriverEntry
  pub served : Served history grown d d2 entries
  pub outcome : IsOutcome f w (history d) entries w2 (history d2) result

-- a command that needs no driver was executed, with its data, and whatever driver
abbrev pub ActsAlone : Command → List ℕ → WireState → WireState → Result Reply ExecStop → Type 0
ActsAlone c payload w w2 result = (h : History) → performed.IsOutcome (command_meaning w c payload) h h [] w w2 result
