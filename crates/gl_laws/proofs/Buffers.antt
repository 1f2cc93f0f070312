-- The own laws of the commands on buffers.
use Rattle.std.proofs.Common.{◌≡◌, ◌≢◌, ◌≤◌, inl, inr, ℕ, ℤ, ◌==◌, Bool, true, false, not, ◌||◌, ◌&&◌, if◌then◌else◌, List, [], ◌∷◌, ◌++◌, length, Option, None, Some, IsSome, IsTrue, is_some, refl, sym, ap, subst, arith}
use Rattle.std.specs.FinMap as map
use Rattle.std.proofs.lemmas.List.{length-replicate}
use Rattle.gl_base.specs.declared.gl_enum.GlEnum.{GlEnum}
use Rattle.gl_base.specs.declared.limits.TheConstants.{DATA_LIMIT}
use Rattle.gl_base.specs.Names.{is_ordinary, is_reserved}
use Rattle.gl_plain.specs.declared.objects.Name as names
use Rattle.gl_plain.specs.declared.objects.Buffer.{Buffer}
use Rattle.gl_plain.specs.declared.calls.Payload.TheVariants.{Absent, Here}
use Rattle.gl_plain.specs.declared.commands.DataWords.{DataWords}
use Rattle.gl_plain.specs.declared.commands.ObjectCommand.TheVariants.{GenBuffers, BindBuffer, BufferData, BufferSubData, DeleteBuffers}
use Rattle.gl_plain.specs.declared.driver_calls.Answer.{Answer}
use Rattle.gl_plain.specs.declared.driver_calls.Answer.TheVariants.{Done, Name, Oom}
use Rattle.gl_plain.specs.declared.driver_calls.DriverCall.{DriverCall}
use Rattle.gl_plain.specs.declared.driver_calls.DriverCall.TheVariants.{Object}
use Rattle.gl_plain.specs.declared.driver_calls.DriverEntry.{DriverEntry}
use Rattle.gl_plain.specs.declared.driver_calls.ObjectDriver.TheVariants as calls
use Rattle.gl_plain.specs.Words.{natural, is_negative}
use Rattle.gl_plain.specs.subjects.Data.{IsData, has_needed_data, has_just_needed_data, data_needed, payload_of, bytes_of}
use Rattle.gl_plain.specs.subjects.Buffers.{BufferTables, is_buffer_target, is_usage, bound, gen_buffers_is_bad, bind_buffer_refusal, bind_buffer_effect, buffer_data_is_bad, buffer_data_refusal, buffer_sub_data_is_bad, buffer_sub_data_refusal, range_refusal, HasRange, delete_buffers_calls, delete_buffers_effect, without_buffer, BuffersAgree}
use Rattle.gl_plain.specs.subjects.Attributes.{all_outside}
use Rattle.gl_plain.specs.Oracle.{Oracle}
use Rattle.gl_plain.specs.State.{EsState, DriverState}
use Rattle.gl_plain.specs.Spaces.{Buffers}
use Rattle.gl_plain.specs.driver.Allowed.{IsAllowed}
use Rattle.gl_plain.specs.driver.Answers.{told}
use Rattle.gl_plain.specs.Journal.{IsLegal, state_after}
use Rattle.gl_plain.specs.Parts.{calls_in}
use Rattle.gl_plain.specs.Agreement.{TablesAgree}
use Rattle.gl_plain.specs.Outcome.{leaves}
use Rattle.gl_plain.specs.declared.attributes.VertexAttributes.{VertexAttributes}
use Rattle.gl_plain.specs.object.Step.{object_step, buffer_deleted_by}
use Rattle.gl_plain.specs.object.Calls.{bind_buffer_call}
use Rattle.gl_plain.proofs.BuffersAgree.{agree_bind, agree_unbind, same_bound, agree_stored, agree_changed, agree_deleted}
use Rattle.gl_laws.proofs.Lists.{entry, no_entry, one_entry, front_of_one, not_nil}
use Rattle.gl_laws.proofs.OwnLaws.{StepLeft, OwnMayGoOn, OwnLeaves}
use Rattle.gl_laws.proofs.Refusals.{or_false, not_false, none_of, none_refused}
use Rattle.gl_laws.proofs.Tables.{with_buffers, with_attributes, with_errors}
use Rattle.gl_laws.proofs.Binds.{IsBind, agree_gen, some_is, bind_may, bind_leaves}

-- GenBuffers
module _ (s : EsState) (d : DriverState) (a : TablesAgree s d.tables) (id : ℕ) (payload : List ℕ) (fair : gen_buffers_is_bad s.buffers.names id ≡ false) where
  pub gen_may : OwnMayGoOn s d (GenBuffers id) payload
  gen_may o es next more l h = front_of_one (λ (gs : List DriverEntry) (x : DriverCall). IsAllowed (state_after d gs) x) (Object calls.GenBuffer) tt es next more h

  free : map.get s.buffers.names id ≡ None
  free = none_of (map.get s.buffers.names id) (or_false (not (is_ordinary id || is_reserved id)) (is_some (map.get s.buffers.names id)) fair).1

  positive : id ≢ 0
  positive zero = let no : gen_buffers_is_bad s.buffers.names 0 ≡ false = subst (λ (k : ℕ). gen_buffers_is_bad s.buffers.names k ≡ false) zero fair in absurd (cc)

  gen_by : (o : Oracle) (answer : Answer) → IsLegal d (entry (Object calls.GenBuffer) answer ∷ []) → StepLeft d (object_step s (GenBuffers id) payload (told (entry (Object calls.GenBuffer) answer ∷ []) o)) o (entry (Object calls.GenBuffer) answer ∷ [])
  gen_by o (Name n) l = record { asked = refl; agrees = agree_gen Buffers s d.tables a id n free positive l.0.answered; contents = refl; records = refl }
  gen_by o answer l = absurd l.0.answered

  pub gen_leaves : OwnLeaves s d (GenBuffers id) payload
  gen_leaves o es l h = one_entry (λ (gs : List DriverEntry). IsLegal d gs → StepLeft d (object_step s (GenBuffers id) payload (told gs o)) o gs) (Object calls.GenBuffer) (gen_by o) es h l

-- BindBuffer

-- no name is refused for what it stands for
abbrev no_refusal : EsState → names.Name → Bool
no_refusal s x = false

buffer_bind : (target : GlEnum) (id : ℕ) → is_buffer_target target ≡ true → IsBind Buffers (bind_buffer_call target) (λ (s : EsState). record s { buffers = bind_buffer_effect s.buffers target id }) id no_refusal
buffer_bind target id is = record {
  asks_nothing = λ name answer o. refl;
  same_contents = λ d name answer. refl;
  no_records = λ d name answer. refl;
  new_is_fair = λ s n. refl;
  zero_allowed = λ s d a. (is, inl refl);
  known_allowed = λ s d x a there fair. (is, inr (some_is (map.get d.tables.buffers.names x.number) x (a.buffers.names.live id x there)));
  known = λ s t x answer a there fair. with_buffers s t _ _ a (agree_bind s.buffers t.buffers t.given.buffers a.buffers target id x there);
  none = λ s t answer a zero. with_buffers s t _ _ a (subst (λ (k : ℕ). BuffersAgree (bind_buffer_effect s.buffers target k) (bind_buffer_effect t.buffers target 0) t.given.buffers) (sym zero) (agree_unbind s.buffers t.buffers t.given.buffers a.buffers target));
}

module _ (s : EsState) (d : DriverState) (a : TablesAgree s d.tables) (target : GlEnum) (id : ℕ) (payload : List ℕ) (allowed : bind_buffer_refusal s.buffers target id ≡ None) where
  buffer_bind_here : IsBind Buffers (bind_buffer_call target) (λ (s : EsState). record s { buffers = bind_buffer_effect s.buffers target id }) id no_refusal
  buffer_bind_here = buffer_bind target id (not_false (is_buffer_target target) (none_refused (not (is_buffer_target target)) _ _ _ allowed).0)

  pub bind_buffer_may : OwnMayGoOn s d (BindBuffer target id) payload
  bind_buffer_may o es next more l h = bind_may Buffers (bind_buffer_call target) (λ (s : EsState). record s { buffers = bind_buffer_effect s.buffers target id }) id no_refusal buffer_bind_here s d a (λ x there. refl) o es next more l h

  pub bind_buffer_leaves : OwnLeaves s d (BindBuffer target id) payload
  bind_buffer_leaves o es l h = bind_leaves Buffers (bind_buffer_call target) (λ (s : EsState). record s { buffers = bind_buffer_effect s.buffers target id }) id no_refusal buffer_bind_here s d a (λ x there. refl) o es l h

-- BufferData

-- what is so where BufferData is not refused
record IsDataTaken (t : BufferTables) (target : GlEnum) (size : ℤ) (usage : GlEnum) : Type 0 where
  pub target_is : IsTrue (is_buffer_target target)
  pub usage_is : IsTrue (is_usage usage)
  pub limit : natural size ≤ DATA_LIMIT
  pub binds : IsSome (bound t target)

data_taken : (t : BufferTables) (target : GlEnum) (size : ℤ) (usage : GlEnum) → buffer_data_refusal t target size usage ≡ None → IsDataTaken t target size usage
data_taken t target size usage allowed = grind arith

-- data that is needed is no more than the limit
needed_within : (words : DataWords) (payload : List ℕ) (size : ℤ) → not (has_needed_data words (data_needed size)) ≡ false → (words.source ≡ 1 → length payload ≡ words.count) → (words.source ≡ 2 → length payload ≡ words.count) → natural size ≤ DATA_LIMIT → length payload ≤ DATA_LIMIT
needed_within words payload size fair known bucket limit = grind arith

-- the bytes are no more than the limit
bytes_within : (words : DataWords) (payload : List ℕ) (size : ℤ) → buffer_data_is_bad size words ≡ false → (words.source ≡ 1 → length payload ≡ words.count) → (words.source ≡ 2 → length payload ≡ words.count) → natural size ≤ DATA_LIMIT
    → length (bytes_of (payload_of words payload) size) ≤ DATA_LIMIT
bytes_within words payload size fair known bucket limit =
    elim (words.source == 0) as (λ b. not ((b && (words.count == 0) && (words.a == 0) && (words.b == 0)) || has_needed_data words (data_needed size)) ≡ false → length (bytes_of (if b then Absent else Here payload) size) ≤ DATA_LIMIT) [
      | true ↦ λ fair. rw (length-replicate {A = ℕ} (natural size) 0) limit
      | false ↦ λ fair. needed_within words payload size fair known bucket limit
    ] fair

module _ (s : EsState) (d : DriverState) (a : TablesAgree s d.tables) (target : GlEnum) (size : ℤ) (usage : GlEnum) (words : DataWords) (payload : List ℕ) (allowed : buffer_data_refusal s.buffers target size usage ≡ None) where
  abbrev stored_bytes : List ℕ
  stored_bytes = bytes_of (payload_of words payload) size

  pub buffer_data_may : buffer_data_is_bad size words ≡ false → IsData words payload → OwnMayGoOn s d (BufferData target size usage words) payload
  buffer_data_may fair given o es next more l h =
      let taken = data_taken s.buffers target size usage allowed in
      front_of_one (λ (gs : List DriverEntry) (x : DriverCall). IsAllowed (state_after d gs) x) (Object (calls.BufferData target (bytes_of (payload_of words payload) size) usage)) (
        taken.target_is,
        taken.usage_is,
        subst (λ (b : Option Buffer). IsSome b) (same_bound s.buffers d.tables.buffers d.tables.given.buffers a.buffers target) taken.binds,
        bytes_within words payload size fair given.shared given.bucket taken.limit,
      ) es next more h

  data_by : (o : Oracle) (answer : Answer) → IsLegal d (entry (Object (calls.BufferData target (bytes_of (payload_of words payload) size) usage)) answer ∷ [])
      → StepLeft d (object_step s (BufferData target size usage words) payload (told (entry (Object (calls.BufferData target (bytes_of (payload_of words payload) size) usage)) answer ∷ []) o)) o (entry (Object (calls.BufferData target (bytes_of (payload_of words payload) size) usage)) answer ∷ [])
  data_by o Done l = record {
    asked = refl;
    agrees = with_buffers s d.tables _ _ a (agree_stored s.buffers d.tables.buffers d.tables.given.buffers a.buffers target (record { bytes = bytes_of (payload_of words payload) size; usage = usage }));
    contents = refl;
    records = refl;
  }
  data_by o Oom l = record { asked = refl; agrees = with_errors s d.tables _ a; contents = refl; records = refl }
  data_by o answer l = absurd l.0.answered

  pub buffer_data_leaves : OwnLeaves s d (BufferData target size usage words) payload
  buffer_data_leaves o es l h = one_entry (λ (gs : List DriverEntry). IsLegal d gs → StepLeft d (object_step s (BufferData target size usage words) payload (told gs o)) o gs)
      (Object (calls.BufferData target (bytes_of (payload_of words payload) size) usage)) (data_by o) es h l

-- BufferSubData

-- data that is needed is no longer than the size says
count_within : (words : DataWords) (payload : List ℕ) (size : ℤ) → not (has_just_needed_data words (data_needed size)) ≡ false → (words.source ≡ 1 → length payload ≡ words.count) → (words.source ≡ 2 → length payload ≡ words.count) → (words.source ≡ 0 → length payload ≡ 0)
    → length payload ≤ natural size
count_within words payload size fair known bucket nothing = grind arith

inside_of : (there : Option Buffer) (offset size count : ℕ) → count ≤ size → range_refusal there offset size ≡ None → HasRange there offset count
inside_of None offset size count less inside = absurd (cc)
inside_of (Some buffer) offset size count less inside = grind arith

-- what is so where BufferSubData is not refused
record IsPartTaken (t : BufferTables) (target : GlEnum) (offset size : ℤ) : Type 0 where
  pub target_is : IsTrue (is_buffer_target target)
  pub positive : is_negative offset ≡ false
  pub inside : range_refusal (bound t target) (natural offset) (natural size) ≡ None

part_taken : (t : BufferTables) (target : GlEnum) (offset size : ℤ) → buffer_sub_data_refusal t target offset size ≡ None → IsPartTaken t target offset size
part_taken t target offset size allowed = grind arith

module _ (s : EsState) (d : DriverState) (a : TablesAgree s d.tables) (target : GlEnum) (offset size : ℤ) (words : DataWords) (payload : List ℕ) (allowed : buffer_sub_data_refusal s.buffers target offset size ≡ None) where
  pub buffer_sub_data_may : buffer_sub_data_is_bad size words ≡ false → IsData words payload → OwnMayGoOn s d (BufferSubData target offset size words) payload
  buffer_sub_data_may fair given o es next more l h =
      let taken = part_taken s.buffers target offset size allowed in
      let range : HasRange (bound s.buffers target) (natural offset) (length payload) =
      inside_of (bound s.buffers target) (natural offset) (natural size) (length payload) (count_within words payload size fair given.shared given.bucket given.none) taken.inside in
      front_of_one (λ (gs : List DriverEntry) (x : DriverCall). IsAllowed (state_after d gs) x) (Object (calls.BufferSubData target offset payload))
      (taken.target_is, taken.positive, subst (λ (b : Option Buffer). HasRange b (natural offset) (length payload)) (same_bound s.buffers d.tables.buffers d.tables.given.buffers a.buffers target) range) es next more h

  pub buffer_sub_data_leaves : OwnLeaves s d (BufferSubData target offset size words) payload
  buffer_sub_data_leaves o es l h = one_entry (λ (gs : List DriverEntry). StepLeft d (object_step s (BufferSubData target offset size words) payload (told gs o)) o gs) (Object (calls.BufferSubData target offset payload))
      (λ answer. record {
        asked = refl;
        agrees = with_buffers s d.tables _ _ a (agree_changed s.buffers d.tables.buffers d.tables.given.buffers a.buffers target (natural offset) payload);
        contents = refl;
        records = refl;
      }) es h

-- DeleteBuffers
module _ (s : EsState) (d : DriverState) (a : TablesAgree s d.tables) (id : ℕ) (payload : List ℕ) where
  delete_may_by : (found : Option names.Name) → map.get s.buffers.names id ≡ found → (es : List DriverEntry) (next : DriverCall) (more : List DriverCall) → calls_in es ++ next ∷ more ≡ delete_buffers_calls found → IsAllowed (state_after d es) next
  delete_may_by None e es next more h = absurd (not_nil (calls_in es) next more h)
  delete_may_by (Some x) e es next more h = front_of_one (λ (gs : List DriverEntry) (y : DriverCall). IsAllowed (state_after d gs) y) (Object (calls.DeleteBuffer x.number))
      (some_is (map.get d.tables.buffers.names x.number) x (a.buffers.names.live id x e)) es next more h

  pub delete_buffers_may : OwnMayGoOn s d (DeleteBuffers id) payload
  delete_buffers_may o es next more l h = delete_may_by (map.get s.buffers.names id) refl es next more h

  delete_by : (found : Option names.Name) → map.get s.buffers.names id ≡ found → (o : Oracle) (es : List DriverEntry) → calls_in es ≡ delete_buffers_calls found → StepLeft d (leaves (buffer_deleted_by s id found) (told es o)) o es
  delete_by None e o es h = no_entry (λ (gs : List DriverEntry). StepLeft d (leaves s (told gs o)) o gs) (record { asked = refl; agrees = a; contents = refl; records = refl }) es h
  delete_by (Some x) e o es h = one_entry (λ (gs : List DriverEntry). StepLeft d (leaves (buffer_deleted_by s id (Some x)) (told gs o)) o gs) (Object (calls.DeleteBuffer x.number))
      (λ answer. record {
        asked = refl;
        agrees = with_attributes (record s { buffers = without_buffer s.buffers id x.number }) (record d.tables { buffers = delete_buffers_effect d.tables.buffers x.number }) _ _
            (with_buffers s d.tables _ _ a (agree_deleted s.buffers d.tables.buffers d.tables.given.buffers a.buffers id x e)) (ap (λ (t : VertexAttributes). all_outside t x.number) a.attribs);
        contents = refl;
        records = refl;
      }) es h

  pub delete_buffers_leaves : OwnLeaves s d (DeleteBuffers id) payload
  delete_buffers_leaves o es l h = delete_by (map.get s.buffers.names id) refl o es h
