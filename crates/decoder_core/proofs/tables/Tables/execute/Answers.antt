use Rattle.std.proofs.Common.{◌||◌, Bool, false, sym, refl, ◌∙◌, ap}
use Rattle.gl_plain.specs.declared.commands.Command.TheVariants.{Noop, Bucket, Object, Image, Draw, SetToken}
use Rattle.gl_plain.specs.subjects.Buckets.{breaks_bucket_rule}
use Rattle.decoder_core.specs.Execution.{state_of}
use Rattle.decode_draw.specs.States.{draws_in}
use Rattle.decode_objects.specs.States.{objects_in}
use Rattle.decode_images.specs.States.{images_in}
use Rattle.decoder_core.proofs.Payloads.{readable_bucket, given_object, given_image}
use Rattle.decoder_core.proofs.Executions.{performs_alone, performs_broken, performs_lawfully, performs_unspelled, does_nothing}
use Rattle.decoder_core.proofs.tables.Tables.execute.Goals as goal

pub returns-in-Some-Noop : goal.returns-in-Some-Noop
returns-in-Some-Noop g c =
    performs_alone c.args.command.now _ c.args.driver.now c.requires.agrees g.met.D.Driver.grown_itself Noop refl refl _ _ (sym (rw c.in-Some-Noop.field-0-is at c.in-Some-Noop.ensures)) (does_nothing _ c.args.command.now.payload)

pub returns-in-Some-SetToken : goal.returns-in-Some-SetToken
returns-in-Some-SetToken g c =
    performs_alone c.args.command.now _ c.args.driver.now c.requires.agrees g.met.D.Driver.grown_itself (SetToken c.in-Some-SetToken.token) refl refl _ c.set_token.result (sym (rw c.in-Some-SetToken.field-0-is at c.in-Some-SetToken.ensures)) (c.set_token.ensures c.args.command.now.payload)

pub returns-in-Some-Query : goal.returns-in-Some-Query
returns-in-Some-Query g c = c.query.ensures c.args.command.now (sym (rw c.in-Some-Query.field-0-is at c.in-Some-Query.ensures))

pub returns-in-Some-Bucket : goal.returns-in-Some-Bucket
returns-in-Some-Bucket g c =
    performs_alone c.args.command.now _ c.args.driver.now c.requires.agrees g.met.D.Driver.grown_itself (Bucket c.in-Some-Bucket.bucket) refl refl _ c.bucket.result (sym (rw c.in-Some-Bucket.field-0-is at c.in-Some-Bucket.ensures)) (rw c.as_slice.ensures at c.bucket.ensures)

pub bucket-requires : goal.bucket-requires
bucket-requires g c = rw c.as_slice.ensures (readable_bucket c.args.command.now c.requires.readable c.in-Some-Bucket.bucket (sym (rw c.in-Some-Bucket.field-0-is at c.in-Some-Bucket.ensures)))

pub execute_object-requires-clause-given : goal.execute_object-requires-clause-given
execute_object-requires-clause-given g c =
    (given_object c.args.command.now c.requires.readable (state_of c.args.self.now) c.in-Some-Object.object _ _ c.in-Some.payload.now (sym (rw c.in-Some-Object.field-0-is at c.in-Some-Object.ensures)) c.data_words.ensures c.as_slice-beside.ensures (sym c.in-Some.ensures.broken) c.in-Some.ensures.given).given

pub execute_object-requires-clause-agrees : goal.execute_object-requires-clause-agrees
execute_object-requires-clause-agrees g c = record { others = state_of c.args.self.now; agrees = c.requires.agrees }

pub returns-in-Some : goal.returns-in-Some
returns-in-Some g c =
    let spelled = sym (rw c.in-Some-Object.field-0-is at c.in-Some-Object.ensures) in
    let given = given_object c.args.command.now c.requires.readable (state_of c.args.self.now) c.in-Some-Object.object _ _ c.in-Some.payload.now spelled c.data_words.ensures c.as_slice-beside.ensures (sym c.in-Some.ensures.broken) c.in-Some.ensures.given in
    let before = objects_in c.args.self.now.buffers c.args.self.now.textures c.args.self.now.targets c.args.self.now.programs c.args.self.now.attribs c.args.self.now.errors in
    let after = objects_in c.execute_object.new.buffers c.execute_object.new.textures c.execute_object.new.targets c.execute_object.new.programs c.execute_object.new.attribs c.execute_object.new.errors in
    performs_lawfully c.args.command.now (state_of c.args.self.now) c.args.driver.now c.requires.agrees (Object c.in-Some-Object.object) c.in-Some.payload.now before after _ c.execute_object.new.driver c.execute_object.result spelled refl given.whole given.is refl refl c.execute_object.ensures

pub returns-in_default : goal.returns-in_default
returns-in_default g c =
    performs_broken c.args.command.now (state_of c.args.self.now) c.args.driver.now c.requires.agrees g.met.D.Driver.grown_itself (Object c.in-Some-Object.object) (sym (rw c.in-Some-Object.field-0-is at c.in-Some-Object.ensures))
    (ap (λ (broken : Bool). broken || false) (ap (breaks_bucket_rule c.args.self.now.buckets) (sym c.data_words.ensures) ∙ sym c.in_default.ensures.broken))

pub execute_image-requires-clause-given : goal.execute_image-requires-clause-given
execute_image-requires-clause-given g c =
    (given_image c.args.command.now c.requires.readable (state_of c.args.self.now) c.in-Some-Image.image _ _ c.in-Some-data_of.payload.now (sym (rw c.in-Some-Image.field-0-is at c.in-Some-Image.ensures)) c.data_words-in-Some-Image.ensures c.as_slice-beside-in-Some-Image.ensures
    (sym c.in-Some-data_of.ensures.broken) c.in-Some-data_of.ensures.given).given

pub execute_image-requires-clause-agrees : goal.execute_image-requires-clause-agrees
execute_image-requires-clause-agrees g c = record { others = state_of c.args.self.now; agrees = c.requires.agrees }

pub returns-in_default-data_of : goal.returns-in_default-data_of
returns-in_default-data_of g c =
    performs_broken c.args.command.now (state_of c.args.self.now) c.args.driver.now c.requires.agrees g.met.D.Driver.grown_itself (Image c.in-Some-Image.image) (sym (rw c.in-Some-Image.field-0-is at c.in-Some-Image.ensures))
    (ap (λ (broken : Bool). broken || false) (ap (breaks_bucket_rule c.args.self.now.buckets) (sym c.data_words-in-Some-Image.ensures) ∙ sym c.in_default-data_of.ensures.broken))

pub returns-in-Some-data_of : goal.returns-in-Some-data_of
returns-in-Some-data_of g c =
    let spelled = sym (rw c.in-Some-Image.field-0-is at c.in-Some-Image.ensures) in
    let given = given_image c.args.command.now c.requires.readable (state_of c.args.self.now) c.in-Some-Image.image _ _ c.in-Some-data_of.payload.now spelled c.data_words-in-Some-Image.ensures c.as_slice-beside-in-Some-Image.ensures (sym c.in-Some-data_of.ensures.broken) c.in-Some-data_of.ensures.given in
    let before = images_in c.args.self.now.textures c.args.self.now.targets c.args.self.now.raster c.args.self.now.errors in
    let after = images_in c.execute_image.new.textures c.execute_image.new.targets c.args.self.now.raster c.execute_image.new.errors in
    performs_lawfully c.args.command.now (state_of c.args.self.now) c.args.driver.now c.requires.agrees (Image c.in-Some-Image.image) c.in-Some-data_of.payload.now before after _ c.execute_image.new.driver c.execute_image.result spelled refl given.whole given.is refl refl c.execute_image.ensures

pub execute_draw-requires : goal.execute_draw-requires
execute_draw-requires g c = record { agrees = record { others = state_of c.args.self.now; agrees = c.requires.agrees } }

pub returns-in-Some-Draw : goal.returns-in-Some-Draw
returns-in-Some-Draw g c =
    let before = draws_in c.args.self.now.buffers c.args.self.now.textures c.args.self.now.targets c.args.self.now.programs c.args.self.now.attribs c.args.self.now.raster c.args.self.now.errors in
    let after = draws_in c.args.self.now.buffers c.execute_draw.new.textures c.execute_draw.new.targets c.args.self.now.programs c.args.self.now.attribs c.execute_draw.new.raster c.execute_draw.new.errors in
    performs_lawfully c.args.command.now (state_of c.args.self.now) c.args.driver.now c.requires.agrees (Draw c.in-Some-Draw.drawing) c.args.command.now.payload before after _ c.execute_draw.new.driver c.execute_draw.result
    (sym (rw c.in-Some-Draw.field-0-is at c.in-Some-Draw.ensures)) refl refl refl refl refl (c.execute_draw.ensures c.args.command.now.payload)

pub returns-in-None : goal.returns-in-None
returns-in-None g c = performs_unspelled c.args.command.now (state_of c.args.self.now) c.args.driver.now c.requires.agrees g.met.D.Driver.grown_itself (sym c.in-None.ensures)
