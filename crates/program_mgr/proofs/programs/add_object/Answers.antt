use Rattle.std.proofs.Common.{◌∙◌, ap, is_some, ℕ}
use Rattle.std.specs.Ordering.{nat_cmp}
use Rattle.std.specs.FinMap as map
use Rattle.gl_base.proofs.Found.{get-insert_here}
use Rattle.program_mgr.specs.Restored.{restored}
use Rattle.program_mgr.proofs.Uses.{undone}
use Rattle.program_mgr.proofs.programs.add_object.Goals as goal

pub returns-clause-unnamed : goal.returns-clause-unnamed
returns-clause-unnamed g c = c.put_back.ensures ∙ (λ i. restored (c.in-Ok.ensures.ok i) c.args.number (c.in-Ok.ensures.before i)) ∙ undone c.args.ids.now c.args.number c.args.id

pub put_back-requires : goal.put_back-requires
put_back-requires g c = ap (λ (m : map.FinMap nat_cmp ℕ). is_some (map.get m c.args.number)) c.in-Ok.ensures.ok ∙ ap is_some (get-insert_here c.args.ids.now c.args.number c.args.id)
