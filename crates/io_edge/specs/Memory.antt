-- What a source and a sink in memory show.
use Rattle.std.specs.Prelude.{ℕ, ◌-◌, List, drop, Bool, vec_len, vec_capacity}
use Rattle.io_edge.specs.declared.calls.Calls.{Calls}
use Rattle.io_edge.specs.declared.memory.MemorySource.{MemorySource}
use Rattle.io_edge.specs.declared.memory.MemorySink.{MemorySink}

-- the bytes that the source has left
abbrev pub bytes_left : MemorySource → List ℕ
bytes_left source = drop source.at source.bytes.items

-- whether a read has given nothing into a slice with room
abbrev pub has_ended : MemorySource → Bool
has_ended source = source.ended

-- the reads that were made, and those that fail
abbrev pub reads_of : MemorySource → Calls
reads_of source = source.calls

-- the bytes that the sink holds
abbrev pub bytes_held : MemorySink → List ℕ
bytes_held sink = sink.bytes.items

-- how many bytes the sink takes before it needs memory
abbrev pub room_of : MemorySink → ℕ
room_of sink = vec_capacity sink.bytes - vec_len sink.bytes

-- the writes that were made, and those that fail
abbrev pub writes_of : MemorySink → Calls
writes_of sink = sink.calls
