-- The buffers that the tables of a driver are, beside the journal that has their bytes.
use Rattle.std.specs.Prelude.{ℕ, List, [], slice_get, Option, None, Some}
use Rattle.gl_plain.specs.declared.objects.Buffer.{Buffer}
use Rattle.gl_plain.specs.declared.driver_calls.DriverCall.{DriverCall}
use Rattle.gl_plain.specs.declared.driver_calls.DriverCall.TheVariants.{Object, Image, Program, Draw}
use Rattle.gl_plain.specs.declared.driver_calls.DriverEntry.{DriverEntry}
use Rattle.gl_plain.specs.declared.driver_calls.ObjectDriver.{ObjectDriver}
use Rattle.gl_plain.specs.declared.driver_calls.ObjectDriver.TheVariants.{GenBuffer, BindBuffer, BufferData, BufferSubData, DeleteBuffer, GenTexture, BindTexture, DeleteTexture, GenRenderbuffer, BindRenderbuffer, DeleteRenderbuffer, GenFramebuffer, BindFramebuffer, DeleteFramebuffer, FramebufferTexture, FramebufferRenderbuffer, VertexAttrib4, VertexAttribPointer, SetArray}
use Rattle.gl_plain.specs.subjects.Buffers.{BufferTables}
use Rattle.strict_driver.specs.declared.buffers.KeptBytes.{KeptBytes}
use Rattle.strict_driver.specs.declared.buffers.KeptBytes.TheVariants.{InJournal, Own}
use Rattle.strict_driver.specs.declared.buffers.KeptBuffer.{KeptBuffer}
use Rattle.strict_driver.specs.declared.buffers.Buffers.{Buffers}
use Rattle.strict_driver.specs.Tabulated.{map_values}

-- the bytes that a buffer is given by a call on objects
abbrev pub bytes_given : ObjectDriver → List ℕ
bytes_given GenBuffer = []
bytes_given (BindBuffer target name) = []
bytes_given (BufferData target bytes usage) = bytes
bytes_given (BufferSubData target offset bytes) = []
bytes_given (DeleteBuffer name) = []
bytes_given GenTexture = []
bytes_given (BindTexture target name) = []
bytes_given (DeleteTexture name) = []
bytes_given GenRenderbuffer = []
bytes_given (BindRenderbuffer name) = []
bytes_given (DeleteRenderbuffer name) = []
bytes_given GenFramebuffer = []
bytes_given (BindFramebuffer name) = []
bytes_given (DeleteFramebuffer name) = []
bytes_given (FramebufferTexture attachment textarget name) = []
bytes_given (FramebufferRenderbuffer attachment name) = []
bytes_given (VertexAttrib4 index values) = []
bytes_given (VertexAttribPointer index size kind normalized stride offset) = []
bytes_given (SetArray index on) = []

-- the bytes that a buffer is given by a call
abbrev pub bytes_stored : DriverCall → List ℕ
bytes_stored (Object call) = bytes_given call
bytes_stored (Image call) = []
bytes_stored (Program call) = []
bytes_stored (Draw call) = []

-- the bytes that an entry stores, if there is one
abbrev pub entry_bytes : Option DriverEntry → List ℕ
entry_bytes None = []
entry_bytes (Some e) = bytes_stored e.call

-- the bytes that the entry at a place of the journal stores
abbrev pub bytes_at : List DriverEntry → ℕ → List ℕ
bytes_at journal place = entry_bytes (slice_get journal place)

-- the bytes of a buffer, which lie in the journal or with the buffer
abbrev pub bytes_in : List DriverEntry → KeptBytes → List ℕ
bytes_in journal (InJournal place) = bytes_at journal place
bytes_in journal (Own bytes) = bytes

-- the buffer with its bytes
abbrev pub buffer_in : List DriverEntry → KeptBuffer → Buffer
buffer_in journal b = record { bytes = bytes_in journal b.bytes; usage = b.usage }

-- the buffers by their names, which are their numbers, and the two bindings
abbrev pub buffers_of : List DriverEntry → Buffers → BufferTables
buffers_of journal t = record { names = t.names.names; objects = map_values (buffer_in journal) t.names.objects; array = t.array; element = t.element }
