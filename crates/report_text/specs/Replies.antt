-- The lines of replies.
use Rattle.std.specs.Prelude.{ℕ, List, [], ◌++◌, map, codes}
use Rattle.std.specs.Fmt.{decimal}
use Rattle.std.specs.Option.{unwrap_or}
use Rattle.gl_plain.specs.declared.calls.Reply.{Reply}
use Rattle.gl_plain.specs.declared.calls.Reply.TheVariants.{None, Word, Words, Names, Bytes, Error}
use Rattle.gl_base.specs.ErrorNames.{error_text}
use Rattle.report_text.specs.Lines.{spaced, lines}
use Rattle.report_text.specs.Values.{bytes_text}

-- an error code is printed by its name; a number that is no error code, which no reply has, as it is
abbrev pub code_text : ℕ → List ℕ
code_text code = unwrap_or (error_text code) (decimal code)

-- reply k has a line where it gives something back: the word `reply`, the number, and what it gives
unfoldable pub reply_line : ℕ → Reply → List ℕ
reply_line k None = []
reply_line k (Word word) = codes "reply " ++ (decimal k ++ (codes " word " ++ (decimal word ++ codes "\n")))
reply_line k (Words words) = codes "reply " ++ (decimal k ++ (codes " words" ++ (spaced (map decimal words) ++ codes "\n")))
reply_line k (Names names) = codes "reply " ++ (decimal k ++ (codes " names" ++ (spaced (map decimal names) ++ codes "\n")))
reply_line k (Bytes bytes) = codes "reply " ++ (decimal k ++ (codes " bytes " ++ (bytes_text bytes ++ codes "\n")))
reply_line k (Error code) = codes "reply " ++ (decimal k ++ (codes " error " ++ (code_text code ++ codes "\n")))

-- replies are printed as the lines of those that give something back, with their numbers among all replies
abbrev pub reply_text : List Reply → List ℕ
reply_text replies = lines reply_line 0 replies
