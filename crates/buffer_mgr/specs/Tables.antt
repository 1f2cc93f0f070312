-- The part of the state tables that the buffers are.
use Rattle.gl_plain.specs.subjects.Buffers.{BufferTables}
use Rattle.buffer_mgr.specs.declared.buffers.Buffers.{Buffers}

-- what the fields of a `Buffers` are in the state tables
abbrev pub tables : Buffers → BufferTables
tables b = record { names = b.names; objects = b.objects; array = b.array; element = b.element }
