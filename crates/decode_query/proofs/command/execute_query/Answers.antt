use Rattle.std.proofs.Common.{◌∙◌, [], refl, sym}
use Rattle.gl_plain.specs.declared.commands.Command.TheVariants.{Query}
use Rattle.gl_driver.proofs.Exits.{ends_refused}
use Rattle.decode_query.specs.States.{all_in}
use Rattle.decode_query.proofs.Family.{ready, keeps_to_laws}
use Rattle.decode_query.proofs.command.execute_query.Goals as goal

pub returns-in-Some : goal.returns-in-Some
returns-in-Some g c payload =
    let before = all_in c.args.buffers.now c.args.textures.now c.args.targets.now c.args.programs.now c.args.attribs.now c.args.raster.now c.args.errors.now in
    keeps_to_laws c.args.command payload _
    (ends_refused (Query c.args.command) [] g.met.D.Driver.grown_itself (λ s. refl) (λ s. sym (c.refusal.ensures (before s).es) ∙ c.in-Some.is)
    (λ s i. all_in c.args.buffers.now c.args.textures.now c.args.targets.now c.args.programs.now c.args.attribs.now c.args.raster.now (sym c.note.ensures i) s))

pub execute-requires : goal.execute-requires
execute-requires g c =
    let before = all_in c.args.buffers.now c.args.textures.now c.args.targets.now c.args.programs.now c.args.attribs.now c.args.raster.now c.args.errors.now in
    ready c.args.command _ c.requires.agrees (sym (c.refusal.ensures (before c.requires.agrees.others).es) ∙ c.in_default.is)

pub returns : goal.returns
returns g c payload = keeps_to_laws c.args.command payload _ c.execute.ensures
