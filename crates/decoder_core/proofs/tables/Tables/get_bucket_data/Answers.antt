use Rattle.gl_plain.specs.declared.commands.Command.TheVariants.{Bucket}
use Rattle.gl_plain.specs.declared.commands.BucketCommand.TheVariants as buckets
use Rattle.decoder_core.proofs.Executions.{passes_alone}
use Rattle.decoder_core.proofs.tables.Tables.get_bucket_data.Goals as goal

pub returns-in_err-bytes : goal.returns-in_err-bytes
returns-in_err-bytes c = λ payload. passes_alone (Bucket (buckets.GetData c.args.bucket c.args.offset c.args.count)) payload _ _ c.from_residual.result c.from_residual.ensures.1
