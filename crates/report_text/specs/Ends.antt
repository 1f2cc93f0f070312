-- How a run ends, and what that prints.
use Rattle.std.specs.Prelude.{ℕ, List, ◌++◌, codes}
use Rattle.std.specs.Fmt.{decimal}
use Rattle.gl_plain.specs.declared.commands.Malformed.{Malformed}
use Rattle.gl_plain.specs.declared.commands.Malformed.TheVariants.{InvalidSize, OutOfBounds, UnknownCommand, InvalidArguments}
use Rattle.report_text.specs.declared.statuses.TheConstants.{DONE, USAGE, BAD_LINE, READ_FAULT, STOPPED, NO_MEMORY, LOST, TOO_LONG}
use Rattle.report_text.specs.declared.end.End.{End}
use Rattle.report_text.specs.declared.end.End.TheVariants.{Done, Usage, BadLine, ReadFault, Stopped, NoMemory, Lost, TooLong}

-- each way to end has a status of its own
abbrev pub status_of : End → ℕ
status_of Done = DONE
status_of Usage = USAGE
status_of (BadLine number) = BAD_LINE
status_of ReadFault = READ_FAULT
status_of (Stopped stop) = STOPPED
status_of NoMemory = NO_MEMORY
status_of Lost = LOST
status_of TooLong = TOO_LONG

-- why a command is malformed, in one word
abbrev pub kind_text : Malformed → List ℕ
kind_text InvalidSize = codes "InvalidSize"
kind_text OutOfBounds = codes "OutOfBounds"
kind_text UnknownCommand = codes "UnknownCommand"
kind_text InvalidArguments = codes "InvalidArguments"

-- the line that says how a run ended
unfoldable pub end_text : End → List ℕ
end_text Done = codes "end ok\n"
end_text Usage = codes "usage: gles2_cli ring\n"
end_text (BadLine number) = codes "bad line " ++ (decimal number ++ codes "\n")
end_text ReadFault = codes "end read fault\n"
end_text (Stopped stop) = codes "stop " ++ (kind_text stop.kind ++ (codes " " ++ (decimal stop.place ++ codes "\n")))
end_text NoMemory = codes "end no memory\n"
end_text Lost = codes "end driver lost\n"
end_text TooLong = codes "end too long\n"
