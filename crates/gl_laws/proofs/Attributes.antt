-- The own laws of the commands on vertex attributes.
use Rattle.std.proofs.Common.{◌≡◌, ◌≤◌, ℕ, true, false, List, [], ◌∷◌, None, refl, ap, arith}
use Rattle.gl_base.specs.declared.float_bits.FloatBits.{FloatBits}
use Rattle.gl_base.specs.declared.limits.TheConstants.{LAST_ATTRIBUTE}
use Rattle.gl_plain.specs.declared.attributes.VertexAttributes.{VertexAttributes}
use Rattle.gl_plain.specs.declared.commands.ArrayWords.{ArrayWords}
use Rattle.gl_plain.specs.declared.commands.ObjectCommand.TheVariants.{VertexAttrib4f, VertexAttribPointer, EnableVertexAttribArray, DisableVertexAttribArray}
use Rattle.gl_plain.specs.declared.driver_calls.DriverCall.{DriverCall}
use Rattle.gl_plain.specs.declared.driver_calls.DriverCall.TheVariants.{Object}
use Rattle.gl_plain.specs.declared.driver_calls.DriverEntry.{DriverEntry}
use Rattle.gl_plain.specs.declared.driver_calls.ObjectDriver.TheVariants as calls
use Rattle.gl_plain.specs.subjects.Attributes.{attribute_refusal, vertex_attrib_4f_effect, vertex_attrib_pointer_effect, vertex_attrib_pointer_refusal, set_array_effect, object_of}
use Rattle.gl_plain.specs.Words.{natural}
use Rattle.gl_plain.specs.State.{EsState, DriverState}
use Rattle.gl_plain.specs.driver.Allowed.{IsAllowed}
use Rattle.gl_plain.specs.driver.Answers.{told}
use Rattle.gl_plain.specs.Journal.{state_after}
use Rattle.gl_plain.specs.Agreement.{TablesAgree}
use Rattle.gl_plain.specs.object.Step.{object_step}
use Rattle.gl_laws.proofs.Lists.{one_entry, front_of_one}
use Rattle.gl_laws.proofs.OwnLaws.{StepLeft, OwnMayGoOn, OwnLeaves}
use Rattle.gl_laws.proofs.Tables.{with_attributes}

-- an index that is not refused
index_within : (index : ℕ) → attribute_refusal index ≡ None → index ≤ LAST_ATTRIBUTE
index_within index allowed = grind arith

module _ (s : EsState) (d : DriverState) (a : TablesAgree s d.tables) (index : ℕ) (payload : List ℕ) where
  -- VertexAttrib4f
  pub vertex_attrib_4f_may : (x y z w : FloatBits) → attribute_refusal index ≡ None → OwnMayGoOn s d (VertexAttrib4f index x y z w) payload
  vertex_attrib_4f_may x y z w allowed o es next more l h =
      front_of_one (λ (gs : List DriverEntry) (c : DriverCall). IsAllowed (state_after d gs) c) (Object (calls.VertexAttrib4 index (x.0 ∷ y.0 ∷ z.0 ∷ w.0 ∷ []))) (index_within index allowed) es next more h

  pub vertex_attrib_4f_leaves : (x y z w : FloatBits) → OwnLeaves s d (VertexAttrib4f index x y z w) payload
  vertex_attrib_4f_leaves x y z w o es l h = one_entry (λ (gs : List DriverEntry). StepLeft d (object_step s (VertexAttrib4f index x y z w) payload (told gs o)) o gs) (Object (calls.VertexAttrib4 index (x.0 ∷ y.0 ∷ z.0 ∷ w.0 ∷ [])))
      (λ answer. record {
        asked = refl;
        agrees = with_attributes s d.tables _ _ a (ap (λ (t : VertexAttributes). vertex_attrib_4f_effect t index (x.0 ∷ y.0 ∷ z.0 ∷ w.0 ∷ [])) a.attribs);
        contents = refl;
        records = refl;
      }) es h

  -- VertexAttribPointer
  pub vertex_attrib_pointer_may : (w : ArrayWords) → vertex_attrib_pointer_refusal index w.size w.kind w.stride ≡ None → OwnMayGoOn s d (VertexAttribPointer index w) payload
  vertex_attrib_pointer_may w allowed o es next more l h =
      front_of_one (λ (gs : List DriverEntry) (c : DriverCall). IsAllowed (state_after d gs) c) (Object (calls.VertexAttribPointer index w.size w.kind w.normalized w.stride w.offset)) allowed es next more h

  pub vertex_attrib_pointer_leaves : (w : ArrayWords) → OwnLeaves s d (VertexAttribPointer index w) payload
  vertex_attrib_pointer_leaves w o es l h = one_entry (λ (gs : List DriverEntry). StepLeft d (object_step s (VertexAttribPointer index w) payload (told gs o)) o gs) (Object (calls.VertexAttribPointer index w.size w.kind w.normalized w.stride w.offset))
      (λ answer. record {
        asked = refl;
        agrees = with_attributes s d.tables _ _ a (λ i. vertex_attrib_pointer_effect (a.attribs i) index (record { object = object_of (a.buffers.array i); size = natural w.size; kind = w.kind; normalized = w.normalized; stride = natural w.stride; offset = w.offset }));
        contents = refl;
        records = refl;
      }) es h

  -- EnableVertexAttribArray and DisableVertexAttribArray
  pub enable_may : attribute_refusal index ≡ None → OwnMayGoOn s d (EnableVertexAttribArray index) payload
  enable_may allowed o es next more l h = front_of_one (λ (gs : List DriverEntry) (c : DriverCall). IsAllowed (state_after d gs) c) (Object (calls.SetArray index true)) (index_within index allowed) es next more h

  pub enable_leaves : OwnLeaves s d (EnableVertexAttribArray index) payload
  enable_leaves o es l h = one_entry (λ (gs : List DriverEntry). StepLeft d (object_step s (EnableVertexAttribArray index) payload (told gs o)) o gs) (Object (calls.SetArray index true))
      (λ answer. record { asked = refl; agrees = with_attributes s d.tables _ _ a (ap (λ (t : VertexAttributes). set_array_effect t index true) a.attribs); contents = refl; records = refl }) es h

  pub disable_may : attribute_refusal index ≡ None → OwnMayGoOn s d (DisableVertexAttribArray index) payload
  disable_may allowed o es next more l h = front_of_one (λ (gs : List DriverEntry) (c : DriverCall). IsAllowed (state_after d gs) c) (Object (calls.SetArray index false)) (index_within index allowed) es next more h

  pub disable_leaves : OwnLeaves s d (DisableVertexAttribArray index) payload
  disable_leaves o es l h = one_entry (λ (gs : List DriverEntry). StepLeft d (object_step s (DisableVertexAttribArray index) payload (told gs o)) o gs) (Object (calls.SetArray index false))
      (λ answer. record { asked = refl; agrees = with_attributes s d.tables _ _ a (ap (λ (t : VertexAttributes). set_array_effect t index false) a.attribs); contents = refl; records = refl }) es h
