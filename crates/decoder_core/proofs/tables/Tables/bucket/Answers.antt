use Rattle.decoder_core.proofs.tables.Tables.bucket.Goals as goal

pub returns-in-SetSize : goal.returns-in-SetSize
returns-in-SetSize c = rw c.in-SetSize.is (c.set_bucket_size.ensures c.args.payload.now)

pub returns-in-SetData : goal.returns-in-SetData
returns-in-SetData c = rw c.in-SetData.is c.set_bucket_data.ensures

pub returns-in-GetStart : goal.returns-in-GetStart
returns-in-GetStart c = rw c.in-GetStart.is (c.get_bucket_start.ensures c.args.payload.now)

pub returns-in-GetData : goal.returns-in-GetData
returns-in-GetData c = rw c.in-GetData.is (c.get_bucket_data.ensures c.args.payload.now)
