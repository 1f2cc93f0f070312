-- Renderbuffers with whether they were written, beside the tables.
use Rattle.std.specs.Prelude.{ℕ, Bool, false, Option, None, Some}
use Rattle.std.specs.Ordering.{nat_cmp}
use Rattle.std.specs.FinMap as map
use Rattle.gl_plain.specs.declared.targets.Renderbuffer as plain
use Rattle.gl_plain.specs.subjects.Targets.{BoundObjects}
use Rattle.gl_plain.specs.subjects.Images.{Marks}
use Rattle.target_mgr.specs.declared.renderbuffers.Renderbuffer.{Renderbuffer}
use Rattle.target_mgr.specs.MappedValues.{map_values}

-- a renderbuffer as tables have it
abbrev pub image_of : Renderbuffer → plain.Renderbuffer
image_of x = record { image = x.image }

-- the objects as tables have them, of the same names
abbrev pub unmarked : BoundObjects Renderbuffer → BoundObjects plain.Renderbuffer
unmarked t = record { names = t.names; objects = map_values image_of t.objects; bound = t.bound }

-- whether a renderbuffer was written, if it is there
abbrev pub mark_of : Option Renderbuffer → Bool
mark_of None = false
mark_of (Some x) = x.written

-- which renderbuffers were written
abbrev pub marks_of : map.FinMap nat_cmp Renderbuffer → Marks
marks_of objects number = mark_of (map.get objects number)
