use Rattle.std.proofs.Common.{refl, sym}
use Rattle.gl_plain.specs.declared.commands.Command.TheVariants.{Object}
use Rattle.gl_driver.proofs.Exits.{ends_malformed, ends_refused, ends_own}
use Rattle.decode_objects.specs.States.{objects_in}
use Rattle.decode_objects.proofs.Family.{ready, keeps_to_laws}
use Rattle.decode_objects.proofs.command.execute_object.Goals as goal

pub returns-then-is_malformed : goal.returns-then-is_malformed
returns-then-is_malformed g c =
    let before = objects_in c.args.buffers.now c.args.textures.now c.args.targets.now c.args.programs.now c.args.attribs.now c.args.errors.now in
    keeps_to_laws c.args.command c.args.payload.now _ (ends_malformed g.met.D.Driver.grown_itself (λ s. sym (c.if-is_malformed.ensures (before s).es)))

pub returns-in-Some : goal.returns-in-Some
returns-in-Some g c =
    let before = objects_in c.args.buffers.now c.args.textures.now c.args.targets.now c.args.programs.now c.args.attribs.now c.args.errors.now in
    keeps_to_laws c.args.command c.args.payload.now _
    (ends_refused (Object c.args.command) c.args.payload.now g.met.D.Driver.grown_itself (λ s. sym (c.if-is_malformed.ensures (before s).es)) (λ s. sym (c.in-Some.ensures (before s).es))
    (λ s i. objects_in c.args.buffers.now c.args.textures.now c.args.targets.now c.args.programs.now c.args.attribs.now (sym c.note.ensures i) s))

pub execute-requires : goal.execute-requires
execute-requires g c =
    let before = objects_in c.args.buffers.now c.args.textures.now c.args.targets.now c.args.programs.now c.args.attribs.now c.args.errors.now in
    ready c.args.command c.args.payload.now _ c.requires.agrees (sym (c.if-is_malformed.ensures (before c.requires.agrees.others).es)) (sym (c.in_default.ensures (before c.requires.agrees.others).es)) c.requires.given

pub returns : goal.returns
returns g c =
    let before = objects_in c.args.buffers.now c.args.textures.now c.args.targets.now c.args.programs.now c.args.attribs.now c.args.errors.now in
    keeps_to_laws c.args.command c.args.payload.now _
    (ends_own (Object c.args.command) c.args.payload.now g.met.D.Driver.grown_itself g.met.D.Driver.grown_further (λ s. refl) (λ s. sym (c.if-is_malformed.ensures (before s).es)) (λ s. sym (c.in_default.ensures (before s).es)) c.execute.ensures)

pub refusal-requires-clause-fair : goal.refusal-requires-clause-fair
refusal-requires-clause-fair g c =
    let before = objects_in c.args.buffers.now c.args.textures.now c.args.targets.now c.args.programs.now c.args.attribs.now c.args.errors.now in
    ((before c.requires.agrees.others).es, sym (c.if-is_malformed.ensures (before c.requires.agrees.others).es))
