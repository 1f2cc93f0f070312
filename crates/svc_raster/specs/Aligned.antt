-- The alignments that are kept.
use Rattle.std.specs.Prelude.{◌≡◌, ◌≤◌, ℕ, List, None}
use Rattle.gl_plain.specs.declared.raster.Alignments.{Alignments}
use Rattle.gl_plain.specs.subjects.Raster.{raster_refusal, kept_words}

-- rows in client memory begin at multiples of 1 to 8, both those that are read and those that are written (sections 3.6.1 and 4.3.1)
abbrev pub IsAligned : Alignments → Type 0
IsAligned a = (1 ≤ a.unpack) × (a.unpack ≤ 8) × (1 ≤ a.pack) × (a.pack ≤ 8)

-- these are the words that a command keeps which is not refused
pub record AreKept (number : ℕ) (kept : List ℕ) : Type 0 where
  pub words : List ℕ
  pub taken : raster_refusal number words ≡ None
  pub kept_are : kept ≡ kept_words number words
