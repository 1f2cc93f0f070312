use Rattle.std.proofs.Common.{◌≡◌, ◌*◌, ◌∙◌, sym, ap, arith, ℤ, w32, length, Some, map}
use Rattle.std.proofs.lemmas.Int.{to_z-of_z}
use Rattle.std.proofs.lemmas.List.{with_items_is}
use Rattle.std.specs.Vec.{with_items}
use Rattle.gl_plain.specs.declared.programs.Executable.{Executable}
use Rattle.gl_plain.specs.Bytes.{overwritten, words_from}
use Rattle.gl_plain.specs.subjects.Links.{words_in}
use Rattle.gl_plain.specs.subjects.Uniforms.{as_stored, given_words, place_of, stored_count}
use Rattle.program_mgr.specs.Elements.{element_of}
use Rattle.program_mgr.proofs.Stored.{has_room, stored_is, known_kind}
use Rattle.program_mgr.proofs.executable.Executable.store.Goals as goal

pub store_part-requires-clause-room : goal.store_part-requires-clause-room
store_part-requires-clause-room c =
    let here : place_of c.args.self.now.answer.uniforms c.args.location ≡ Some (element_of c.in-Some.element) =
    sym (ap (λ (l : ℤ). place_of c.args.self.now.answer.uniforms l) (to_z-of_z w32 c.args.location c.ranges.location)) ∙ sym c.in-Some.ensures in
    let len : length c.self.inside.values.items ≡ words_in c.args.self.now.answer.uniforms = c.self.invariant.1 ∙ ap (λ (e : Executable). words_in e.answer.uniforms) c.self.view_is in
    let words = c.stored_words-words.ensures.stored ∙ ap (λ (n : ℤ). given_words c.args.kind * stored_count (element_of c.in-Some.element) n) (to_z-of_z w32 c.args.count c.ranges.count) in
    rw (c.deref_mut.ensures.value, words)
    (has_room c.args.self.now.answer.uniforms c.self.inside.values.items c.args.location c.args.kind c.args.count c.args.bytes.now (element_of c.in-Some.element) here c.requires.taken (known_kind c.args.kind c.requires.given) len)

pub returns : goal.returns
returns c =
    let here : place_of c.args.self.now.answer.uniforms c.args.location ≡ Some (element_of c.in-Some.element) =
    sym (ap (λ (l : ℤ). place_of c.args.self.now.answer.uniforms l) (to_z-of_z w32 c.args.location c.ranges.location)) ∙ sym c.in-Some.ensures in
    let words = c.stored_words-words.ensures.stored ∙ ap (λ (n : ℤ). given_words c.args.kind * stored_count (element_of c.in-Some.element) n) (to_z-of_z w32 c.args.count c.ranges.count) in
    let old : c.deref_mut.result.now ≡ c.args.self.now.values = c.deref_mut.ensures.value ∙ ap (λ (e : Executable). e.values) c.self.view_is in
    ap {B = Executable} (λ (e : Executable). record e { values = (with_items c.self.inside.values c.store_part.new.values).items }) c.self.view_is
    ∙ stored_is c.args.self.now c.args.location c.args.kind c.args.count c.args.bytes.now (element_of c.in-Some.element) _ here
    (with_items_is c.self.inside.values c.store_part.new.values (omega (arith, c.store_part.auto.values, c.deref_mut.ensures.len)) ∙ c.store_part.ensures
    ∙ (λ i. overwritten (old i) c.in-Some.element.word (map (as_stored c.in-Some.element.uniform.now.kind c.args.kind) (words_from c.args.bytes.now 0 (words i)))))
