-- The commands, as their numbers and words spell them.
use Rattle.std.specs.Prelude.{ℕ, ◌==◌, if◌then◌else◌, List, slice_index, Option, None, Some}
use Rattle.gl_plain.specs.declared.numbers.TheConstants.{NOOP, SET_TOKEN, SET_BUCKET_SIZE, SET_BUCKET_DATA, GET_BUCKET_START, GET_BUCKET_DATA}
use Rattle.gl_plain.specs.declared.commands.Command.{Command}
use Rattle.gl_plain.specs.declared.commands.Command.TheVariants.{Noop, SetToken, Bucket, Object, Image, Draw, Query}
use Rattle.gl_plain.specs.declared.commands.BucketCommand.{BucketCommand}
use Rattle.gl_plain.specs.declared.commands.BucketCommand.TheVariants.{SetSize, SetData, GetStart, GetData}
use Rattle.gl_plain.specs.declared.commands.ObjectCommand.{ObjectCommand}
use Rattle.gl_plain.specs.declared.commands.ImageCommand.{ImageCommand}
use Rattle.gl_plain.specs.declared.commands.DrawCommand.{DrawCommand}
use Rattle.gl_plain.specs.declared.commands.QueryCommand.{QueryCommand}
use Rattle.gl_plain.specs.declared.commands.Fetched.{Fetched}
use Rattle.gl_plain.specs.Words.{data_at}
use Rattle.gl_plain.specs.object.Commands.{object_command_in}
use Rattle.gl_plain.specs.image.Commands.{image_command_in}
use Rattle.gl_plain.specs.draw.Commands.{draw_command_in}
use Rattle.gl_plain.specs.query.Commands.{query_command_in}

-- the command on a bucket that a number and words spell, or none
abbrev pub bucket_command_in : ℕ → List ℕ → Option BucketCommand
bucket_command_in number words =
    if number == SET_BUCKET_SIZE then Some (SetSize (slice_index words 0) (slice_index words 1))
    else if number == SET_BUCKET_DATA then Some (SetData (slice_index words 0) (slice_index words 1) (data_at words 2))
    else if number == GET_BUCKET_START then Some (GetStart (slice_index words 0))
    else if number == GET_BUCKET_DATA then Some (GetData (slice_index words 0) (slice_index words 1) (slice_index words 2))
    else None

-- the command of the family that has one
abbrev pub command_by : Option BucketCommand → Option ObjectCommand → Option ImageCommand → Option DrawCommand → Option QueryCommand → Option Command
command_by (Some c) b i d q = Some (Bucket c)
command_by None (Some c) i d q = Some (Object c)
command_by None None (Some c) d q = Some (Image c)
command_by None None None (Some c) q = Some (Draw c)
command_by None None None None (Some c) = Some (Query c)
command_by None None None None None = None

-- the command that a number and words spell, or none
abbrev pub command_in : ℕ → List ℕ → Option Command
command_in number words =
    if number == NOOP then Some Noop
    else if number == SET_TOKEN then Some (SetToken (slice_index words 0))
    else command_by (bucket_command_in number words) (object_command_in number words) (image_command_in number words) (draw_command_in number words) (query_command_in number words)

-- the command that a fetched one spells
abbrev pub command_of : Fetched → Option Command
command_of f = command_in f.number f.words.items
