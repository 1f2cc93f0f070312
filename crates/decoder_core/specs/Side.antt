-- The side of a run that executes: a service with what it is lent.
use Rattle.gl_driver.specs.History.{History}
use Rattle.cb_shm.specs.Memory.{MemoryView}
use Rattle.decoder_core.specs.ServiceView.{ServiceView}

-- a service, the memory that it reads, and its driver
pub record Side (D : Type 0) : Type 0 where
  pub service : ServiceView
  pub memory : MemoryView
  pub driver : D

abbrev pub side : {D : Type 0} → ServiceView → MemoryView → D → Side D
side s m d = record { service = s; memory = m; driver = d }

-- the same with what contracts see of the driver
abbrev pub seen_side : {D : Type 0} → (D → History) → Side D → Side History
seen_side history a = side a.service a.memory (history a.driver)
