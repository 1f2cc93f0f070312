use Rattle.std.proofs.Common.{◌∙◌, [], refl, sym}
use Rattle.gl_plain.specs.declared.commands.Command.TheVariants.{Draw}
use Rattle.gl_plain.specs.State.{WireState}
use Rattle.gl_laws.proofs.Commands.{keeps}
use Rattle.gl_driver.proofs.Exits.{ends_refused, lawful, widens}
use Rattle.buffer_mgr.specs.Tables.{tables}
use Rattle.texture_mgr.specs.Tables as textures_as
use Rattle.target_mgr.specs.Tables.{renderbuffers, framebuffers, marks}
use Rattle.program_mgr.specs.Tables as programs_as
use Rattle.decode_draw.specs.States.{draws_in, sources}
use Rattle.decode_draw.specs.Judged.{drawn_first}
use Rattle.whole_images.specs.Whole.{image_zeroings}
use Rattle.decode_draw.proofs.Family.{may_zero, may_make, stops, keeps_to_laws}
use Rattle.decode_draw.proofs.Judgements.{judged_refuses, judged_there, words_taken}
use Rattle.decode_draw.proofs.command.execute_draw.Goals as goal

pub zero_drawn-requires : goal.zero_drawn-requires
zero_drawn-requires g c =
    let before : WireState → WireState = draws_in c.args.buffers.now c.args.textures.now c.args.targets.now c.args.programs.now c.args.attribs.now c.args.raster.now c.args.errors.now in
    record {
      bound = c.requires.agrees.agrees.tables.textures.sound.bound;
      there = judged_there (sources c.requires.agrees.others.es.surface c.args.buffers.now c.args.textures.now c.args.targets.now c.args.programs.now c.args.attribs.now) c.in-Ok.judged c.args.command (sym (c.judge.ensures c.requires.agrees.others.es.surface) ∙ c.in-Ok.is);
      may = may_zero c.args.command [] c.in-Ok.judged before (λ s. sym (c.judge.ensures s.es.surface) ∙ c.in-Ok.is) _ c.requires.agrees;
    }

pub execute-requires : goal.execute-requires
execute-requires g c =
    let before : WireState → WireState = draws_in c.args.buffers.now c.args.textures.now c.args.targets.now c.args.programs.now c.args.attribs.now c.args.raster.now c.args.errors.now in
    record {
      taken = words_taken (sources c.requires.agrees.others.es.surface c.args.buffers.now c.args.textures.now c.args.targets.now c.args.programs.now c.args.attribs.now) c.in-Ok.judged c.args.command (sym (c.judge.ensures c.requires.agrees.others.es.surface) ∙ c.in-Ok.is);
      may = may_make c.args.command [] c.in-Ok.judged before (λ s. sym (c.judge.ensures s.es.surface) ∙ c.in-Ok.is) c.requires.agrees c.in_ok-zero_drawn-in-Ok.ensures.calls;
    }

pub returns-in_err-zero_drawn-in-Ok : goal.returns-in_err-zero_drawn-in-Ok
returns-in_err-zero_drawn-in-Ok g c payload =
    let before : WireState → WireState = draws_in c.args.buffers.now c.args.textures.now c.args.targets.now c.args.programs.now c.args.attribs.now c.args.raster.now c.args.errors.now in
    stops c.args.command payload c.in-Ok.judged before (λ s. sym (c.judge.ensures s.es.surface) ∙ c.in-Ok.is) c.from_residual.result
    (image_zeroings c.args.textures.now c.args.targets.now (drawn_first (textures_as.tables c.args.textures.now).objects c.in-Ok.judged)) (λ s. refl) c.from_residual.ensures.1 c.in_err-zero_drawn-in-Ok.ensures.calls

pub returns-in_ok-zero_drawn-in-Ok : goal.returns-in_ok-zero_drawn-in-Ok
returns-in_ok-zero_drawn-in-Ok g c payload =
    let before : WireState → WireState = draws_in c.args.buffers.now c.args.textures.now c.args.targets.now c.args.programs.now c.args.attribs.now c.args.raster.now c.args.errors.now in
    let others : WireState → WireState = λ s. record s { es = record s.es { buffers = tables c.args.buffers.now; renderbuffers = renderbuffers c.zero_drawn.new.targets; framebuffers = framebuffers c.zero_drawn.new.targets; attribs = c.args.attribs.now.attributes; programs = programs_as.tables c.args.programs.now; errors = c.args.errors.now }; marks = marks c.zero_drawn.new.targets } in
    let zeroed = c.in_ok-zero_drawn-in-Ok.ensures in
    keeps_to_laws c.args.command payload c.in-Ok.judged before (λ s. sym (c.judge.ensures s.es.surface) ∙ c.in-Ok.is) _
    (image_zeroings c.args.textures.now c.args.targets.now (drawn_first (textures_as.tables c.args.textures.now).objects c.in-Ok.judged)) (λ s. refl) g.met.D.Driver.grown_further zeroed.calls
    (λ s i. record (before s) { es = record (before s).es { textures = zeroed.tables_are i; renderbuffers = zeroed.renderbuffers_are i; framebuffers = zeroed.framebuffers_are i }; covers = zeroed.covers_are i; marks = zeroed.marks_are i }) (widens others c.execute.ensures)

pub returns-in-Err : goal.returns-in-Err
returns-in-Err g c payload =
    lawful (Draw c.args.command) payload (λ w e a. keeps w e a (Draw c.args.command) payload) _
    (ends_refused (Draw c.args.command) payload g.met.D.Driver.grown_itself (λ s. refl)
    (λ s. judged_refuses (sources s.es.surface c.args.buffers.now c.args.textures.now c.args.targets.now c.args.programs.now c.args.attribs.now) c.args.command c.in-Err.error (sym (c.judge.ensures s.es.surface) ∙ c.in-Err.is))
    (λ s i. draws_in c.args.buffers.now c.args.textures.now c.args.targets.now c.args.programs.now c.args.attribs.now c.args.raster.now (sym c.note.ensures i) s))
