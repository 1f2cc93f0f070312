-- Objects of one kind beside the tables.
use Rattle.gl_plain.specs.subjects.Targets.{BoundObjects}
use Rattle.target_mgr.specs.declared.objects.Objects.{Objects}

-- what the fields are in the tables
abbrev pub table_of : {X : Type 0} → Objects X → BoundObjects X
table_of o = record { names = o.names; objects = o.objects; bound = o.bound }
