use Rattle.std.proofs.Common.{◌≡◌, ℕ, [], Option, refl, sym, ap, ◌∙◌}
use Rattle.gl_plain.specs.declared.commands.Command.TheVariants.{Query}
use Rattle.gl_plain.specs.subjects.Buckets.{names_no_bucket}
use Rattle.gl_plain.specs.query.Commands.{query_bucket}
use Rattle.decode_query.specs.States.{all_in}
use Rattle.decoder_core.specs.Execution.{state_of}
use Rattle.decoder_core.proofs.Executions.{performs_broken}
use Rattle.decoder_core.proofs.Delivered.{performs_query, performs_short, performs_stop, with_delivered}
use Rattle.decoder_core.proofs.tables.Tables.query.Goals as goal
use Rattle.decoder_core.proofs.tables.Tables.query.Goals.{in-Some+in_ok-deliver, in_default}

pub returns-then-names_no_bucket : goal.returns-then-names_no_bucket
returns-then-names_no_bucket g c = λ f is.
    performs_broken f (state_of c.args.self.now) c.args.driver.now c.requires.agrees g.met.D.Driver.grown_itself (Query c.args.command) is
    (ap names_no_bucket (sym c.reply_bucket-bucket.ensures) ∙ sym c.names_no_bucket.ensures ∙ c.if-names_no_bucket.true)

pub execute_query-requires : goal.execute_query-requires
execute_query-requires g c = record { agrees = record { others = state_of c.args.self.now; agrees = c.requires.agrees } }

pub returns-in_err-reply : goal.returns-in_err-reply
returns-in_err-reply g c = λ f is.
    let before = all_in c.args.self.now.buffers c.args.self.now.textures c.args.self.now.targets c.args.self.now.programs c.args.self.now.attribs c.args.self.now.raster c.args.self.now.errors in
    let after = all_in c.args.self.now.buffers c.execute_query.new.textures c.execute_query.new.targets c.args.self.now.programs c.args.self.now.attribs c.args.self.now.raster c.execute_query.new.errors in
    let whole = ap names_no_bucket (sym c.reply_bucket-bucket.ensures) ∙ sym c.names_no_bucket.ensures ∙ c.if-names_no_bucket.false in
    performs_stop f (state_of c.args.self.now) c.args.driver.now c.execute_query.new.driver c.requires.agrees c.args.command is whole before after refl c.in_err-reply.field-0.0 c.from_residual.result (c.in_err-reply.ensures f.payload) c.from_residual.ensures.1

pub returns-in_err-deliver : goal.returns-in_err-deliver
returns-in_err-deliver g c = λ f is.
    let before = all_in c.args.self.now.buffers c.args.self.now.textures c.args.self.now.targets c.args.self.now.programs c.args.self.now.attribs c.args.self.now.raster c.args.self.now.errors in
    let after = all_in c.args.self.now.buffers c.execute_query.new.textures c.execute_query.new.targets c.args.self.now.programs c.args.self.now.attribs c.args.self.now.raster c.execute_query.new.errors in
    let whole = ap names_no_bucket (sym c.reply_bucket-bucket.ensures) ∙ sym c.names_no_bucket.ensures ∙ c.if-names_no_bucket.false in
    performs_short f (state_of c.args.self.now) c.args.driver.now c.execute_query.new.driver c.requires.agrees c.args.command is whole before after refl c.in_ok-reply.reply _ c.from_residual-in_err-deliver.result (c.in_ok-reply.ensures f.payload) c.from_residual-in_err-deliver.ensures.1

pub returns : goal.returns
returns g c = λ f is.
    let w0 = state_of c.args.self.now in
    let before = all_in c.args.self.now.buffers c.args.self.now.textures c.args.self.now.targets c.args.self.now.programs c.args.self.now.attribs c.args.self.now.raster c.args.self.now.errors in
    let after = all_in c.args.self.now.buffers c.execute_query.new.textures c.execute_query.new.targets c.args.self.now.programs c.args.self.now.attribs c.args.self.now.raster c.execute_query.new.errors in
    let whole = ap names_no_bucket (sym c.reply_bucket-bucket.ensures) ∙ sym c.names_no_bucket.ensures ∙ c.if-names_no_bucket.false in
    let put : state_of c.match-bucket.self ≡ with_delivered (after w0) (query_bucket c.args.command) c.in_ok-reply.reply = elim c.match-bucket.branch [
      | in-Some+in_ok-deliver w ↦ ap state_of w.self-is ∙ w.in_ok-deliver.ensures.ok ∙ ap (λ (bucket : Option ℕ). with_delivered (after w0) bucket c.in_ok-reply.reply) (sym w.in-Some.is ∙ c.reply_bucket-bucket.ensures)
      | in_default w ↦ ap state_of w.self-is ∙ ap (λ (bucket : Option ℕ). with_delivered (after w0) bucket c.in_ok-reply.reply) (sym w.in_default.is ∙ c.reply_bucket-bucket.ensures)
    ] in
    performs_query f w0 c.args.driver.now c.execute_query.new.driver c.requires.agrees c.args.command is whole before after refl c.in_ok-reply.reply _ (c.in_ok-reply.ensures f.payload) put
