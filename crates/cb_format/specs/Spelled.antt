-- Commands as words.
use Rattle.std.specs.Prelude.{ℕ, ◌+◌, List, ◌∷◌, length}
use Rattle.cb_format.specs.declared.commands.Command.{Command}
use Rattle.cb_format.specs.Headers.{header_word}

-- a command's header, whose size counts the header and the arguments, and then its arguments
abbrev pub entries_of : Command → List ℕ
entries_of c = header_word (record { size = 1 + length c.words.items; number = c.number }) ∷ c.words.items
