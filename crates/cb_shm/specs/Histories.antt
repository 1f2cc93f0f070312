-- What an access adds to a history.
use Rattle.std.specs.Prelude.{[], ◌∷◌, ◌++◌, length}
use Rattle.cb_shm.specs.declared.history.Access.{Access}
use Rattle.cb_shm.specs.declared.history.Access.TheVariants.{Copy, Put}
use Rattle.cb_shm.specs.declared.history.History.{History}

-- a history of no copy and no put
abbrev pub no_access : History
no_access = record { copies = []; puts = [] }

-- the history with one more copy, or one more put
abbrev pub with_access : History → Access → History
with_access h (Copy region offset bytes) = record h { copies = h.copies ++ record { region = region; offset = offset; bytes = bytes.now } ∷ [] }
with_access h (Put region offset bytes) = record h { puts = h.puts ++ record { region = region; offset = offset; bytes = bytes.now; copies = length h.copies } ∷ [] }
