-- That the bytes of the bound buffer alone are changed, whatever comes behind the journal.
use Rattle.std.proofs.Common.{rules, ◌≡◌, List, ◌++◌}
use Rattle.gl_plain.specs.declared.driver_calls.DriverEntry.{DriverEntry}
use Rattle.gl_plain.specs.Words.{natural}
use Rattle.gl_plain.specs.subjects.Buffers.{buffer_sub_data_effect}
use Rattle.strict_driver.specs.KeptBuffers.{buffers_of}
use Rattle.strict_driver.specs.TableState.{state_of}
use Rattle.strict_driver.proofs.Kept.{where_ok}
use Rattle.strict_driver.proofs.tables.Tables.change.Goals as goal

pub returns-clause-ok : goal.returns-clause-ok
returns-clause-ok c =
    let offset : c.natural.result ≡ natural c.args.offset = search rules in
    where_ok c.change.result
    (λ (changed : (more : List DriverEntry) → buffers_of (c.args.journal.now ++ more) c.change.new.self ≡ buffer_sub_data_effect (buffers_of (c.args.journal.now ++ more) c.args.self.now.buffers) c.args.target (natural c.args.offset) c.args.bytes.now) t more i.
    record (state_of t (c.args.journal.now ++ more) c.args.self.now) { buffers = changed more i; given = record t.given { buffers = c.change.ensures.given i; textures = c.args.self.now.textures.names.given; renderbuffers = c.args.self.now.renderbuffers.given; framebuffers = c.args.self.now.framebuffers.names.given } })
    (rw offset at c.change.ensures.ok)
