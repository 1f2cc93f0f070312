-- The driver calls of the queries, where they are not refused; and what they need written before.
use Rattle.std.specs.Prelude.{if◌then◌else◌, List, [], ◌∷◌}
use Rattle.gl_plain.specs.declared.commands.QueryCommand.{QueryCommand}
use Rattle.gl_plain.specs.declared.commands.QueryCommand.TheVariants.{ReadPixels, GetError, Words, Bytes}
use Rattle.gl_plain.specs.declared.driver_calls.DriverCall.{DriverCall}
use Rattle.gl_plain.specs.declared.driver_calls.DriverCall.TheVariants.{Image}
use Rattle.gl_plain.specs.declared.driver_calls.ImageDriver.TheVariants as calls
use Rattle.gl_plain.specs.declared.targets.AnyImage.{AnyImage}
use Rattle.gl_plain.specs.subjects.Targets.{target_of, colour_images}
use Rattle.gl_plain.specs.subjects.Copies.{reads_nothing}
use Rattle.gl_plain.specs.State.{EsState}

-- the driver calls of a query's name: a read of no pixel makes none
abbrev pub own_query_calls : EsState → QueryCommand → List DriverCall
own_query_calls s (ReadPixels words bucket) = if reads_nothing words then [] else Image (calls.ReadPixels words.x words.y words.width words.height) ∷ []
own_query_calls s GetError = []
own_query_calls s (Words query) = []
own_query_calls s (Bytes query bucket) = []

-- the images that a query needs written whole before its driver call: that of the colours that it reads
abbrev pub query_whole_first : EsState → QueryCommand → List AnyImage
query_whole_first s (ReadPixels words bucket) = if reads_nothing words then [] else colour_images (target_of s.framebuffers)
query_whole_first s GetError = []
query_whole_first s (Words query) = []
query_whole_first s (Bytes query bucket) = []
