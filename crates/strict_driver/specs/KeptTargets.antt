-- The renderbuffers and the framebuffers that the tables of a driver are.
use Rattle.std.specs.Prelude.{◌≡◌, ◌⊎◌, ℕ, IsSome}
use Rattle.std.specs.Ordering.{nat_cmp}
use Rattle.std.specs.FinMap as map
use Rattle.gl_plain.specs.declared.targets.Renderbuffer.{Renderbuffer}
use Rattle.gl_plain.specs.subjects.Targets.{FramebufferTables}
use Rattle.strict_driver.specs.declared.targets.Renderbuffers.TheInside.{Inside}
use Rattle.strict_driver.specs.declared.targets.Framebuffers.{Framebuffers}
use Rattle.strict_driver.specs.RenderbufferSpace.{RenderbufferSpace}

-- the renderbuffers by their names, which are their numbers, and the one that is bound
abbrev pub renderbuffer_space : Inside → RenderbufferSpace
renderbuffer_space a = record { tables = record { names = a.names.names; objects = a.names.objects; bound = a.bound }; given = a.names.given }

-- what is bound is there, or nothing is bound
abbrev pub IsBoundThere : map.FinMap nat_cmp Renderbuffer → ℕ → Type 0
IsBoundThere objects bound = (bound ≡ 0) ⊎ IsSome (map.get objects bound)

-- the framebuffers by their names, which are their numbers, and the one that is bound
abbrev pub framebuffers_of : Framebuffers → FramebufferTables
framebuffers_of t = record { names = t.names.names; objects = t.names.objects; bound = t.bound }
