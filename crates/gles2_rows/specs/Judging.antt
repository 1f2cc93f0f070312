-- When a run is what a row wants.
use Rattle.std.specs.Prelude.{◌≡◌, ℕ, List, MatchOption}
use Rattle.sha1.specs.Sha1.{sha1}
use Rattle.gles2_rows.specs.declared.row.Wanted.{Wanted}

-- the output is the one that is wanted, or has the digest that is wanted
abbrev pub HasOutput : Wanted → List ℕ → Type 0
HasOutput wanted bytes = MatchOption wanted.digest (bytes ≡ wanted.output.items) (λ digest. sha1 bytes ≡ digest)

-- status and output are those that are wanted
abbrev pub IsWanted : Wanted → ℕ → List ℕ → Type 0
IsWanted wanted status bytes = (status ≡ wanted.status) × HasOutput wanted bytes
