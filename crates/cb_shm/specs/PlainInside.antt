-- What a memory that keeps what is put into it holds.
use Rattle.std.specs.Prelude.{map}
use Rattle.cb_shm.specs.declared.plain.PlainMemory.TheInside.{Inside}
use Rattle.cb_shm.specs.Patched.{ArePatched}
use Rattle.cb_shm.specs.PlainView.{PlainView, plain_size, patch_of}

abbrev pub view_of : Inside → PlainView
view_of a = record { entries = a.entries; transfer = a.transfer; copies = a.history.copies; puts = a.history.puts }

-- its regions have their sizes, and their bytes are zeros with what was put written over them
abbrev pub IsPlain : Inside → Type 0
IsPlain a = ArePatched (plain_size a.entries a.transfer) (map patch_of a.history.puts) a.regions
