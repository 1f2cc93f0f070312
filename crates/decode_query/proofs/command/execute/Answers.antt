use Rattle.std.proofs.Common.{[], refl, sym}
use Rattle.gl_plain.specs.declared.calls.Reply.TheVariants as reply
use Rattle.gl_plain.specs.declared.commands.Command.TheVariants.{Query}
use Rattle.gl_plain.specs.declared.commands.QueryCommand.TheVariants.{Bytes, GetError, Words}
use Rattle.gl_plain.specs.State.{WireState}
use Rattle.gl_driver.proofs.Exits.{ends_alone, ends_own, own_means, passes_at_once, widens}
use Rattle.decode_query.specs.States.{all_in, lent_in}
use Rattle.decode_query.proofs.Lent.{read_ready, words_taken}
use Rattle.decode_query.proofs.ReadDone.{ready_anyway}
use Rattle.decode_query.proofs.command.execute.Goals as goal

pub read_pixels-requires : goal.read_pixels-requires
read_pixels-requires g c errors =
    ready_anyway c.in-ReadPixels.words c.in-ReadPixels.bucket c.args.textures.now c.args.targets.now c.args.raster.now c.args.errors.now errors _
    (read_ready c.args.buffers.now c.args.textures.now c.args.targets.now c.args.programs.now c.args.attribs.now c.args.raster.now c.args.errors.now _ _ (rw c.in-ReadPixels.is at c.requires))

pub returns-in-ReadPixels : goal.returns-in-ReadPixels
returns-in-ReadPixels g c =
    rw c.in-ReadPixels.is (widens (λ w. record w { es = lent_in c.args.buffers.now c.args.programs.now c.args.attribs.now w.es }) (c.read_pixels.ensures c.args.errors.now))

pub returns-in-GetError : goal.returns-in-GetError
returns-in-GetError g c =
    rw c.in-GetError.is (ends_own (Query GetError) [] g.met.D.Driver.grown_itself g.met.D.Driver.grown_further (λ s. refl) (λ s. refl) (λ s. refl)
    (ends_alone {m = own_means (Query GetError) []} g.met.D.Driver.grown_itself (λ s. refl) (λ s o. refl)
    (λ s o i. record {
      state = all_in c.args.buffers.now c.args.textures.now c.args.targets.now c.args.programs.now c.args.attribs.now c.args.raster.now (sym c.take.ensures.taken i) s;
      oracle = o;
      reply = reply.Error (sym c.take.ensures.answer i);
    })))

pub returns-in_err-word_query_reply-in-Words : goal.returns-in_err-word_query_reply-in-Words
returns-in_err-word_query_reply-in-Words g c = passes_at_once g.met.D.Driver.grown_itself c.from_residual.result c.from_residual.ensures.1

pub returns-in_ok-word_query_reply-in-Words : goal.returns-in_ok-word_query_reply-in-Words
returns-in_ok-word_query_reply-in-Words g c =
    let all : WireState → WireState = all_in c.args.buffers.now c.args.textures.now c.args.targets.now c.args.programs.now c.args.attribs.now c.args.raster.now c.args.errors.now in
    let taken = words_taken c.args.buffers.now c.args.textures.now c.args.targets.now c.args.programs.now c.args.attribs.now c.args.raster.now c.args.errors.now c.in-Words.query _ (rw c.in-Words.is at c.requires) in
    rw c.in-Words.is (ends_own (Query (Words c.in-Words.query)) [] g.met.D.Driver.grown_itself g.met.D.Driver.grown_further (λ s. refl) (λ s. refl) (λ s. taken (all s).es)
    (ends_alone {m = own_means (Query (Words c.in-Words.query)) []} g.met.D.Driver.grown_itself (λ s. refl) (λ s o. refl)
    (λ s o i. record { state = all s; oracle = o; reply = sym (c.in_ok-word_query_reply-in-Words.ensures (all s).es) i })))

pub returns-in_err-bytes-in-Bytes : goal.returns-in_err-bytes-in-Bytes
returns-in_err-bytes-in-Bytes g c = passes_at_once g.met.D.Driver.grown_itself c.from_residual-in_err-bytes-in-Bytes.result c.from_residual-in_err-bytes-in-Bytes.ensures.1

pub returns-in_ok-bytes-in-Bytes : goal.returns-in_ok-bytes-in-Bytes
returns-in_ok-bytes-in-Bytes g c =
    let all : WireState → WireState = all_in c.args.buffers.now c.args.textures.now c.args.targets.now c.args.programs.now c.args.attribs.now c.args.raster.now c.args.errors.now in
    let ready = (rw c.in-Bytes.is at c.requires) in
    rw c.in-Bytes.is (ends_own (Query (Bytes c.in-Bytes.query c.in-Bytes.bucket)) [] g.met.D.Driver.grown_itself g.met.D.Driver.grown_further (λ s. refl) (λ s. refl) (λ s. ready.taken)
    (ends_alone {m = own_means (Query (Bytes c.in-Bytes.query c.in-Bytes.bucket)) []} g.met.D.Driver.grown_itself (λ s. refl) (λ s o. refl)
    (λ s o i. record { state = all s; oracle = o; reply = reply.Bytes (sym c.in_ok-bytes-in-Bytes.ensures i) })))
