-- That the tables change as the call says, whatever comes behind its entry.
use Rattle.std.proofs.lemmas.Int.{to_z-of_z}
use Rattle.std.proofs.Common.{rules, FitsSigned, w32, ap, sym, ◌∙◌, List, [], ◌∷◌, ◌++◌}
use Rattle.gl_plain.specs.declared.driver_calls.DriverCall.TheVariants.{Object}
use Rattle.gl_plain.specs.declared.driver_calls.DriverEntry.{DriverEntry}
use Rattle.gl_plain.specs.declared.driver_calls.ObjectDriver.{ObjectDriver}
use Rattle.gl_plain.specs.declared.driver_calls.ObjectDriver.TheVariants.{BufferData}
use Rattle.gl_plain.specs.driver.Effect.{after_buffer_data, after_object}
use Rattle.strict_driver.specs.TableState.{state_of}
use Rattle.strict_driver.proofs.Kept.{bytes_behind, bound_beside}
use Rattle.strict_driver.proofs.tables.Tables.apply_object.Goals as goal

pub store-requires : goal.store-requires
store-requires c = let allowed = rw c.in-BufferData.is at c.requires.allowed in bound_beside c.args.journal.now [] c.args.self.now.buffers c.in-BufferData.target allowed.2

pub returns-in_ok-give-in-GenBuffer-clause-ok : goal.returns-in_ok-give-in-GenBuffer-clause-ok
returns-in_ok-give-in-GenBuffer-clause-ok c t more =
    let entry : DriverEntry = record { call = Object c.args.call.now; answer = c.args.answer.now } in
    let js : List DriverEntry = c.args.journal.now ++ entry ∷ more in
    c.in_ok-give-in-GenBuffer.ensures.ok t js ∙ ap (λ (call : ObjectDriver). after_object (state_of t js c.args.self.now) call c.args.answer.now) (sym c.in-GenBuffer.is)

pub returns-in-BufferData-clause-ok : goal.returns-in-BufferData-clause-ok
returns-in-BufferData-clause-ok c t more =
    let target = c.in-BufferData.target in
    let bytes = c.in-BufferData.bytes in
    let usage = c.in-BufferData.usage in
    let entry : DriverEntry = record { call = Object (BufferData target bytes usage); answer = c.args.answer.now } in
    let js : List DriverEntry = c.args.journal.now ++ entry ∷ more in
    rw c.in-BufferData.is (c.store.ensures.state t js ∙ ap (λ stored. after_buffer_data (state_of t js c.args.self.now) target stored usage c.args.answer.now) (bytes_behind c.args.journal.now entry more))

pub returns-in_ok-change-in-BufferSubData-clause-ok : goal.returns-in_ok-change-in-BufferSubData-clause-ok
returns-in_ok-change-in-BufferSubData-clause-ok c t more =
    let entry : DriverEntry = record { call = Object c.args.call.now; answer = c.args.answer.now } in
    let js : List DriverEntry = c.args.journal.now ++ entry ∷ more in
    let offset : FitsSigned w32 c.in-BufferSubData.offset = search rules in
    simp to_z-of_z at (rw c.as_slice.ensures at c.in_ok-change-in-BufferSubData.ensures.ok t (entry ∷ more)) ∙ ap (λ (call : ObjectDriver). after_object (state_of t js c.args.self.now) call c.args.answer.now) (sym c.in-BufferSubData.is)

pub returns-in-DeleteBuffer-clause-ok : goal.returns-in-DeleteBuffer-clause-ok
returns-in-DeleteBuffer-clause-ok c t more = rw c.in-DeleteBuffer.is (c.delete.ensures.state t _)

pub returns-in-VertexAttribPointer-clause-ok : goal.returns-in-VertexAttribPointer-clause-ok
returns-in-VertexAttribPointer-clause-ok c t more =
    let entry : DriverEntry = record { call = Object c.args.call.now; answer = c.args.answer.now } in
    let js : List DriverEntry = c.args.journal.now ++ entry ∷ more in
    let size : FitsSigned w32 c.in-VertexAttribPointer.size = search rules in
    let stride : FitsSigned w32 c.in-VertexAttribPointer.stride = search rules in
    simp to_z-of_z at (c.point.ensures.state t js) ∙ ap (λ (call : ObjectDriver). after_object (state_of t js c.args.self.now) call c.args.answer.now) (sym c.in-VertexAttribPointer.is)

pub returns-in_ok-give_texture-in-GenTexture-clause-ok : goal.returns-in_ok-give_texture-in-GenTexture-clause-ok
returns-in_ok-give_texture-in-GenTexture-clause-ok c t more =
    let entry : DriverEntry = record { call = Object c.args.call.now; answer = c.args.answer.now } in
    let js : List DriverEntry = c.args.journal.now ++ entry ∷ more in
    c.in_ok-give_texture-in-GenTexture.ensures.ok t js ∙ ap (λ (call : ObjectDriver). after_object (state_of t js c.args.self.now) call c.args.answer.now) (sym c.in-GenTexture.is)

pub returns-in-DeleteTexture-clause-ok : goal.returns-in-DeleteTexture-clause-ok
returns-in-DeleteTexture-clause-ok c t more = rw c.in-DeleteTexture.is (c.delete_texture.ensures.state t _)

pub returns-in_ok-apply_target-in-GenRenderbuffer-clause-ok : goal.returns-in_ok-apply_target-in-GenRenderbuffer-clause-ok
returns-in_ok-apply_target-in-GenRenderbuffer-clause-ok c t more = c.in_ok-apply_target-in-GenRenderbuffer.ensures.ok t _
