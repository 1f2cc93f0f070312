use Rattle.gl_plain.specs.declared.commands.Command.TheVariants.{Bucket}
use Rattle.gl_plain.specs.declared.commands.BucketCommand.TheVariants as buckets
use Rattle.decoder_core.proofs.Executions.{passes_alone}
use Rattle.decoder_core.proofs.tables.Tables.set_bucket_size.Goals as goal

pub returns-in_err-size : goal.returns-in_err-size
returns-in_err-size c = λ payload. passes_alone (Bucket (buckets.SetSize c.args.bucket c.args.size)) payload _ _ c.from_residual.result c.from_residual.ensures.1
