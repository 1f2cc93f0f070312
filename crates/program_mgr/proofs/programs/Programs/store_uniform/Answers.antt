use Rattle.std.proofs.Common.{◌∙◌, ap, sym, w32}
use Rattle.std.proofs.lemmas.Int.{to_z-of_z}
use Rattle.std.specs.Option.{option_copied_mut, option_map}
use Rattle.gl_plain.specs.declared.programs.Program.{Program}
use Rattle.gl_plain.specs.subjects.Uniforms.{with_uniform}
use Rattle.program_mgr.proofs.Linking.{own_stored, kept_stored}
use Rattle.program_mgr.proofs.programs.Programs.store_uniform.Goals as goal

pub returns-in-Some : goal.returns-in-Some
returns-in-Some c =
    let location = to_z-of_z w32 c.args.location c.ranges.location in
    let count = to_z-of_z w32 c.args.count c.ranges.count in
    let p : Program = c.in-Some.program.now in
    own_stored c.args.self.now (with_uniform c.args.location c.args.kind c.args.count c.args.bytes.now) p _ (sym c.get_mut.ensures.value ∙ ap option_copied_mut c.in-Some.is) (sym c.if-has_own.ensures)
    (c.store.ensures ∙ (λ i. record p { executable = option_map (with_uniform (location i) c.args.kind (count i) c.args.bytes.now) p.executable }))

pub returns-in-Some-kept : goal.returns-in-Some-kept
returns-in-Some-kept c =
    let location = to_z-of_z w32 c.args.location c.ranges.location in
    let count = to_z-of_z w32 c.args.count c.ranges.count in
    kept_stored c.args.self.now (with_uniform c.args.location c.args.kind c.args.count c.args.bytes.now) c.in-Some-kept.executable _ (sym c.if-has_own.ensures) c.in-Some-kept.is
    (c.store-in-Some-kept.ensures ∙ (λ i. with_uniform (location i) c.args.kind (count i) c.args.bytes.now c.in-Some-kept.executable))
