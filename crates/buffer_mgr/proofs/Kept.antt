-- A change that leaves a buffer as it was leaves the tables as they were.
use Rattle.std.proofs.Common.{◌≡◌, ◌∙◌, ap, ℕ, Some}
use Rattle.std.specs.FinMap as map
use Rattle.gl_base.proofs.Found.{insert-same}
use Rattle.gl_plain.specs.declared.objects.Buffer.{Buffer}
use Rattle.gl_plain.specs.subjects.Buffers.{BufferTables}

pub kept : (t : BufferTables) (number : ℕ) (was now : Buffer) → map.get t.objects number ≡ Some was → now ≡ was → record t { objects = map.insert t.objects number now } ≡ t
kept t number was now has same = ap {B = BufferTables} (λ objects. record t { objects = objects }) (ap (map.insert t.objects number) same ∙ insert-same t.objects number was has)
