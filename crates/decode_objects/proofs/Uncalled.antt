-- Where commands on shaders and programs make a driver call, and where none: a deletion of 0, a link without the two shaders, a validation of
-- a program that is not linked, and a uniform at the location -1 make none.
use Rattle.std.proofs.Common.{◌≡◌, ◌≢◌, ◌∙◌, ℕ, ℤ, pos, negsuc, Bool, true, false, if◌then◌else◌, List, [], ◌∷◌, Option, None, Some, is_none, refl, sym, ap}
use Rattle.gl_plain.specs.declared.calls.Reply.TheVariants as reply
use Rattle.gl_plain.specs.declared.commands.Command.TheVariants.{Object}
use Rattle.gl_plain.specs.declared.commands.ObjectCommand.TheVariants as command
use Rattle.gl_plain.specs.declared.driver_calls.DriverCall.{DriverCall}
use Rattle.gl_plain.specs.declared.driver_calls.DriverCall.TheVariants.{Program}
use Rattle.gl_plain.specs.declared.driver_calls.ProgramDriver.TheVariants as calls
use Rattle.gl_plain.specs.declared.errors.GlError.TheVariants.{InvalidValue, InvalidOperation}
use Rattle.gl_plain.specs.declared.programs.LinkAnswer.{LinkAnswer}
use Rattle.gl_plain.specs.declared.programs.Program as programs
use Rattle.gl_plain.specs.subjects.Programs.{ProgramTables, number_of, program_at, program_refusal, is_linked, link_program_effect, failed_link, validate_program_effect, validate_unlinked_effect}
use Rattle.gl_plain.specs.subjects.Uniforms.{given_count, is_nowhere, uniform_calls}
use Rattle.gl_plain.specs.Oracle.{Oracle, first, behind}
use Rattle.gl_plain.specs.State.{EsState, WireState}
use Rattle.gl_plain.specs.Outcome.{Outcome, leaves}
use Rattle.gl_plain.specs.Wire.{on_wire, own_step}
use Rattle.gl_plain.specs.object.Calls.{delete_object_calls, link_program_calls, validate_program_calls}
use Rattle.gl_plain.specs.object.Step.{with_programs, with_object_reply, link_outcome, validate_outcome}
use Rattle.program_mgr.specs.Tables.{can_link_by, can_link_at}
use Rattle.decode_objects.proofs.Unknown.{apart}

-- a deletion of another name than 0 makes its call
pub deletion_makes : (delete : ℕ → DriverCall) (t : ProgramTables) (id : ℕ) → id ≢ 0 → delete (number_of t id) ∷ [] ≡ delete_object_calls delete t id
deletion_makes delete t id h = sym (ap (λ (b : Bool). if b then [] else delete (number_of t id) ∷ []) (apart id h))

-- a name that is not refused is a program's
taken_by : (unknown other : Bool) → (if unknown then Some InvalidValue else if other then Some InvalidOperation else None) ≡ None → other ≡ false
taken_by true other h = absurd (cc)
taken_by false true h = absurd (cc)
taken_by false false h = refl

is_program : (t : ProgramTables) (id : ℕ) → program_refusal t id ≡ None → is_none (program_at t id) ≡ false
is_program t id h = taken_by _ (is_none (program_at t id)) h

module _ (t : ProgramTables) (number : ℕ) where
  -- with the two shaders it makes its call
  pub link_makes : (found : Option programs.Program) → true ≡ can_link_by t found → Program (calls.LinkProgram number) ∷ [] ≡ link_program_calls t number found
  link_makes None h = absurd (cc)
  link_makes (Some p) h = ap (λ (b : Bool). if b then Program (calls.LinkProgram number) ∷ [] else []) h

  pub link_makes_none : (found : Option programs.Program) → false ≡ can_link_by t found → [] ≡ link_program_calls t number found
  link_makes_none None h = refl
  link_makes_none (Some p) h = ap (λ (b : Bool). if b then Program (calls.LinkProgram number) ∷ [] else []) h

  pub validation_makes : (found : Option programs.Program) → true ≡ is_linked found → Program (calls.ValidateProgram number) ∷ [] ≡ validate_program_calls number found
  validation_makes None h = absurd (cc)
  validation_makes (Some p) h = ap (λ (b : Bool). if b then Program (calls.ValidateProgram number) ∷ [] else []) h

  pub validation_makes_none : (found : Option programs.Program) → false ≡ is_linked found → [] ≡ validate_program_calls number found
  validation_makes_none None h = refl
  validation_makes_none (Some p) h = ap (λ (b : Bool). if b then Program (calls.ValidateProgram number) ∷ [] else []) h

module _ (s : EsState) (number : ℕ) (o : Oracle) where
  link_alone : (found : Option programs.Program) → is_none found ≡ false → false ≡ can_link_by s.programs found → link_outcome s number found o ≡ leaves (with_programs s (link_program_effect s.programs number failed_link)) o
  link_alone None there h = absurd (cc)
  link_alone (Some p) there h =
      let with_call : Outcome EsState = leaves (with_programs s (link_program_effect s.programs number (first o.link))) (record o { link = behind o.link }) in
      let alone : Outcome EsState = leaves (with_programs s (link_program_effect s.programs number failed_link)) o in
      sym (ap (λ (b : Bool). if b then with_call else alone) h)

  validation_alone : (found : Option programs.Program) → is_none found ≡ false → false ≡ is_linked found → validate_outcome s number found o ≡ leaves (with_programs s (validate_unlinked_effect s.programs number)) o
  validation_alone None there h = absurd (cc)
  validation_alone (Some p) there h =
      let with_call : Outcome EsState = leaves (with_programs s (validate_program_effect s.programs number (first o.validate))) (record o { validate = behind o.validate }) in
      let alone : Outcome EsState = leaves (with_programs s (validate_unlinked_effect s.programs number)) o in
      sym (ap (λ (b : Bool). if b then with_call else alone) h)

module _ (w : WireState) (id : ℕ) (taken : program_refusal w.es.programs id ≡ None) (t : ProgramTables) (o : Oracle) where
  -- a link without the two shaders fails
  pub link_fails : (answer : LinkAnswer) → answer ≡ failed_link → false ≡ can_link_at w.es.programs id → t ≡ link_program_effect w.es.programs (number_of w.es.programs id) answer
      → own_step w (Object (command.LinkProgram id)) [] o ≡ record { state = record w { es = with_programs w.es t }; oracle = o; reply = reply.None }
  link_fails answer fails h made =
      ap (λ (out : Outcome EsState). on_wire w (with_object_reply (command.LinkProgram id) out)) (link_alone w.es (number_of w.es.programs id) o (program_at w.es.programs id) (is_program w.es.programs id taken) h)
      ∙ ap (λ (x : ProgramTables). on_wire w (leaves (with_programs w.es x) o)) (sym (made ∙ ap (link_program_effect w.es.programs (number_of w.es.programs id)) fails))

  -- a program that is not linked is not valid
  pub validation_fails : false ≡ is_linked (program_at w.es.programs id) → t ≡ validate_unlinked_effect w.es.programs (number_of w.es.programs id)
      → own_step w (Object (command.ValidateProgram id)) [] o ≡ record { state = record w { es = with_programs w.es t }; oracle = o; reply = reply.None }
  validation_fails h made =
      ap (λ (out : Outcome EsState). on_wire w (with_object_reply (command.ValidateProgram id) out)) (validation_alone w.es (number_of w.es.programs id) o (program_at w.es.programs id) (is_program w.es.programs id taken) h)
      ∙ ap (λ (x : ProgramTables). on_wire w (leaves (with_programs w.es x) o)) (sym made)

module _ (kind : ℕ) (count : ℤ) (bytes : List ℕ) where
  -- at the location -1 there is no call
  pub uniform_makes_none : (location : ℤ) → location ≡ negsuc 0 → [] ≡ uniform_calls location kind count bytes
  uniform_makes_none location h = ap (λ (l : ℤ). uniform_calls l kind count bytes) (sym h)

  somewhere : (location : ℤ) → location ≢ negsuc 0 → false ≡ is_nowhere location
  somewhere (pos n) h = refl
  somewhere (negsuc n) h = sym (apart n (λ e. h (ap negsuc e)))

  -- at another there is one, with these arguments
  pub uniform_makes : (location l : ℤ) (n : ℤ) → location ≢ negsuc 0 → l ≡ location → n ≡ pos (given_count count) → Program (calls.Uniform l kind n bytes) ∷ [] ≡ uniform_calls location kind count bytes
  uniform_makes location l n h is few =
      (λ i. Program (calls.Uniform (is i) kind (few i) bytes) ∷ []) ∙ ap (λ (b : Bool). if b then [] else Program (calls.Uniform location kind (pos (given_count count)) bytes) ∷ []) (somewhere location h)
