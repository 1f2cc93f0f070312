-- What is seen of the renderbuffers of a driver.
use Rattle.std.specs.Prelude.{ℕ, refl}
use Rattle.std.specs.Ordering.{nat_cmp}
use Rattle.std.specs.FinMap as map
use Rattle.std.specs.FinSet as set
use Rattle.std.specs.Coded.{Coded, codes, code_by, coded×, coded_ℕ}
use Rattle.gl_plain.specs.declared.targets.Renderbuffer.{Renderbuffer}
use Rattle.gl_plain.specs.contracts.targets.Renderbuffer as renderbuffer
use Rattle.gl_plain.specs.subjects.Names.{Names}
use Rattle.gl_plain.specs.subjects.Targets.{RenderbufferTables, no_objects}
use Rattle.strict_driver.specs.Standings.{name_code}

-- their tables, and the names that were ever given
pub record RenderbufferSpace : Type 0 where
  pub tables : RenderbufferTables
  pub given : set.FinSet nat_cmp

-- no name was given
abbrev pub no_renderbuffers : RenderbufferSpace
no_renderbuffers = record { tables = no_objects; given = set.empty }

-- they are stored as the tuple of their fields
abbrev pub renderbuffers_code : Coded RenderbufferSpace
renderbuffers_code =
    code_by
    (Names × (map.FinMap nat_cmp Renderbuffer × (ℕ × set.FinSet nat_cmp)))
    (coded× (map.code coded_ℕ name_code) (coded× (map.code coded_ℕ renderbuffer.the_row.coded) (coded× coded_ℕ (set.code coded_ℕ))))
    (λ s. (s.tables.names, (s.tables.objects, (s.tables.bound, s.given))))
    (λ p. record { tables = record { names = p.0; objects = p.1.0; bound = p.1.1.0 }; given = p.1.1.1 })
    (λ _. refl)
