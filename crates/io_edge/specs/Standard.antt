-- What a source and a sink over std's readers and writers show.
use Rattle.std.specs.Prelude.{ℕ, Bool}
use Rattle.io_edge.specs.declared.standard.StdSource.{StdSource}
use Rattle.io_edge.specs.declared.standard.StdSink.{StdSink}

-- the reader inside
abbrev pub reader_of : {R : Type 0} → StdSource R → R
reader_of source = source.reader

-- how many errors the reader gave
abbrev pub read_errors : {R : Type 0} → StdSource R → ℕ
read_errors source = source.faults

-- whether a read has given nothing into a slice with room
abbrev pub has_ended : {R : Type 0} → StdSource R → Bool
has_ended source = source.ended

-- the writer inside
abbrev pub writer_of : {W : Type 0} → StdSink W → W
writer_of sink = sink.writer

-- how many errors the writer gave, a write of nothing among them
abbrev pub write_errors : {W : Type 0} → StdSink W → ℕ
write_errors sink = sink.faults
