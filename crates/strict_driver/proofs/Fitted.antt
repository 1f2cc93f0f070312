-- Bytes that are cut or filled with zeros to a length.
use Rattle.std.proofs.Common.{◌≡◌, ℕ, List, ◌++◌, length, take, arith, length-append}
use Rattle.std.specs.Prelude.{replicate}
use Rattle.std.proofs.lemmas.List.{length-replicate, length-take}
use Rattle.gl_plain.specs.subjects.Copies.{fitted}

-- they have that length
pub length-fitted : (n : ℕ) (bytes : List ℕ) → length (fitted n bytes) ≡ n
length-fitted n bytes = omega (arith, length-take n (bytes ++ replicate n 0), length-append bytes (replicate n 0), length-replicate {A = ℕ} n 0)
