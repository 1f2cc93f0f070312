use Rattle.std.proofs.Common.{◌≤◌, ap, sym, subst, ◌∙◌}
use Rattle.gl_base.specs.declared.limits.TheConstants.{LAST_UNIT}
use Rattle.gl_plain.specs.declared.textures.TextureUnits.{TextureUnits}
use Rattle.gl_plain.specs.subjects.Textures.{delete_textures_by}
use Rattle.gl_plain.specs.object.Covers.{deleted_covers}
use Rattle.texture_mgr.specs.Objects.{covers_of}
use Rattle.texture_mgr.specs.Tables.{tables, covers}
use Rattle.texture_mgr.proofs.Numbers.{numbered-remove}
use Rattle.texture_mgr.proofs.TablesBeside.{tables_deleted}
use Rattle.texture_mgr.proofs.CoversBeside.{covers_removed}
use Rattle.texture_mgr.proofs.textures.Textures.delete.Goals as goal

pub invariant_of-self-2 : goal.invariant_of-self-2
invariant_of-self-2 c = record {
  numbered = numbered-remove c.args.self.now.names c.remove.new.self c.args.id c.args.self.now.numbered c.in-Some.ensures.rest;
  of_targets = record { flat = c.args.self.now.of_targets.flat; cube = c.args.self.now.of_targets.cube };
  active = subst (λ (u : TextureUnits). u.active ≤ LAST_UNIT) (sym c.unbind.ensures) c.args.self.now.active;
}

pub returns-clause-tables : goal.returns-clause-tables
returns-clause-tables c =
    tables_deleted c.args.self.now.names c.args.self.now.objects c.args.self.now.units c.args.id c.in-Some.name.number c.remove.new.self c.remove-2.new.self c.unbind.new.self c.in-Some.ensures.rest c.remove-2.ensures.rest
    c.unbind.ensures
    ∙ ap (delete_textures_by (tables c.args.self.now) c.args.id) c.in-Some.ensures.value

pub returns-clause-covers : goal.returns-clause-covers
returns-clause-covers c =
    ap (λ m. covers_of (record c.args.self.now.objects { by_number = m })) c.remove-2.ensures.rest
    ∙ covers_removed c.args.self.now.objects c.in-Some.name.number (c.args.self.now.numbered c.args.id c.in-Some.name (sym c.in-Some.ensures.value))
    ∙ ap (deleted_covers (covers c.args.self.now)) c.in-Some.ensures.value
