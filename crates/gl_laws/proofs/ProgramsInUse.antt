-- The own laws of the commands that link, validate, use and delete shaders and programs.
use Rattle.std.proofs.Common.{◌≡◌, ◌⊎◌, inl, inr, ℕ, ◌==◌, Bool, true, false, if◌then◌else◌, List, [], ◌∷◌, ◌++◌, Option, None, Some, IsSome, is_some, is_none, refl, sym, ap, ◌∙◌, subst}
use Rattle.std.specs.FinMap as map
use Rattle.gl_plain.specs.declared.errors.GlError.{GlError}
use Rattle.gl_plain.specs.declared.errors.GlError.TheVariants.{InvalidValue, InvalidOperation}
use Rattle.gl_plain.specs.declared.objects.Name as names
use Rattle.gl_plain.specs.declared.programs.Program as programs
use Rattle.gl_plain.specs.declared.commands.ObjectCommand.{ObjectCommand}
use Rattle.gl_plain.specs.declared.commands.ObjectCommand.TheVariants.{DeleteShader, LinkProgram, ValidateProgram, UseProgram, DeleteProgram}
use Rattle.gl_plain.specs.declared.driver_calls.Answer.{Answer}
use Rattle.gl_plain.specs.declared.driver_calls.Answer.TheVariants.{Link, Validate}
use Rattle.gl_plain.specs.declared.driver_calls.DriverCall.{DriverCall}
use Rattle.gl_plain.specs.declared.driver_calls.DriverCall.TheVariants.{Program}
use Rattle.gl_plain.specs.declared.driver_calls.DriverEntry.{DriverEntry}
use Rattle.gl_plain.specs.declared.driver_calls.ProgramDriver.TheVariants as calls
use Rattle.gl_plain.specs.subjects.Programs.{ProgramTables, number_in, number_of, program_by, program_at, shader_refusal, program_refusal, delete_shader_refusal, delete_shader_effect, delete_program_refusal, delete_program_effect, can_link, is_linked, link_program_effect, failed_link, validate_program_effect, validate_unlinked_effect, use_program_refusal, executable_at, AreAlike}
use Rattle.gl_plain.specs.Oracle.{Oracle, first, behind}
use Rattle.gl_plain.specs.State.{EsState, DriverState}
use Rattle.gl_plain.specs.Outcome.{Outcome, leaves}
use Rattle.gl_plain.specs.driver.Allowed.{IsAllowed, CanLink}
use Rattle.gl_plain.specs.driver.Answers.{told}
use Rattle.gl_plain.specs.Journal.{IsLegal, state_after}
use Rattle.gl_plain.specs.Parts.{calls_in}
use Rattle.gl_plain.specs.Agreement.{TablesAgree}
use Rattle.gl_plain.specs.object.Step.{object_step, with_object_reply, link_outcome, validate_outcome}
use Rattle.gl_plain.specs.object.Calls.{link_program_calls, validate_program_calls}
use Rattle.gl_laws.proofs.Lists.{entry, no_entry, one_entry, front_of_one, not_nil}
use Rattle.gl_laws.proofs.Refusals.{some_of, none_refused}
use Rattle.gl_laws.proofs.OwnLaws.{StepLeft, OwnMayGoOn, OwnLeaves}
use Rattle.gl_laws.proofs.Binds.{is_zero}
use Rattle.gl_laws.proofs.ProgramsAgree.{linked_too, agree_shader_deleted, agree_program_deleted, agree_linked, agree_failed_link, agree_validated, agree_unlinked, agree_use, same_executable_at}
use Rattle.gl_laws.proofs.Tables.{with_programs}
use Rattle.gl_laws.proofs.Programs.{live_shader, some_too}

-- DeleteShader and DeleteProgram

-- a program that is not refused is there
program_there : (t : ProgramTables) (found : Option names.Name) → (if is_none found then Some InvalidValue else if is_none (program_by t found) then Some InvalidOperation else None) ≡ None → IsSome (map.get t.programs (number_in found))
program_there t None allowed = absurd (cc)
program_there t (Some x) allowed = some_of (map.get t.programs x.number) (none_refused false (is_none (map.get t.programs x.number)) InvalidValue InvalidOperation allowed).1

-- in the driver too
live_program : (t u : ProgramTables) → ((n : ℕ) → AreAlike (map.get t.programs n) (map.get u.programs n)) → (id : ℕ) → program_refusal t id ≡ None → IsSome (map.get u.programs (number_of t id))
live_program t u alike id allowed = some_too (map.get t.programs (number_of t id)) (map.get u.programs (number_of t id)) (alike (number_of t id)) (program_there t (map.get t.names id) allowed)

module _ (s : EsState) (d : DriverState) (a : TablesAgree s d.tables) (payload : List ℕ) where
  -- a deletion of 0 makes no call, and any other one call
  delete_may_by : (call : DriverCall) (b : Bool) → (b ≡ false → IsAllowed d call) → (es : List DriverEntry) (next : DriverCall) (more : List DriverCall) → calls_in es ++ next ∷ more ≡ (if b then [] else call ∷ []) → IsAllowed (state_after d es) next
  delete_may_by call true allowed es next more h = absurd (not_nil (calls_in es) next more h)
  delete_may_by call false allowed es next more h = front_of_one (λ (gs : List DriverEntry) (x : DriverCall). IsAllowed (state_after d gs) x) call (allowed refl) es next more h

  not_ignored : (b : Bool) (r : Option GlError) → (if b then None else r) ≡ None → b ≡ false → r ≡ None
  not_ignored true r allowed is = absurd (cc)
  not_ignored false r allowed is = allowed

  pub delete_shader_may : (shader : ℕ) → delete_shader_refusal s.programs shader ≡ None → OwnMayGoOn s d (DeleteShader shader) payload
  delete_shader_may shader allowed o es next more l h = delete_may_by (Program (calls.DeleteShader (number_of s.programs shader))) (shader == 0)
      (λ is. live_shader s.programs d.tables.programs a.programs.shaders shader (not_ignored (shader == 0) (shader_refusal s.programs shader) allowed is)) es next more h

  pub delete_program_may : (program : ℕ) → delete_program_refusal s.programs program ≡ None → OwnMayGoOn s d (DeleteProgram program) payload
  delete_program_may program allowed o es next more l h = delete_may_by (Program (calls.DeleteProgram (number_of s.programs program))) (program == 0)
      (λ is. live_program s.programs d.tables.programs a.programs.programs program (not_ignored (program == 0) (program_refusal s.programs program) allowed is)) es next more h

  -- what a deletion leaves: nothing where it is of 0, and else other programs
  abbrev deleted : Bool → ProgramTables → Oracle → Outcome EsState
  deleted b t o = if b then leaves s o else leaves (record s { programs = t }) o

  delete_by : (c : ObjectCommand) (call : DriverCall) (b : Bool) (t : ProgramTables) → ((answer : Answer) (o : Oracle) → StepLeft d (with_object_reply c (leaves (record s { programs = t }) (told (entry call answer ∷ []) o))) o (entry call answer ∷ []))
      → (o : Oracle) (es : List DriverEntry) → calls_in es ≡ (if b then [] else call ∷ []) → StepLeft d (with_object_reply c (deleted b t (told es o))) o es
  delete_by c call true t left o es h = no_entry (λ (gs : List DriverEntry). StepLeft d (with_object_reply c (leaves s (told gs o))) o gs) (record { asked = refl; agrees = a; contents = refl; records = refl }) es h
  delete_by c call false t left o es h = one_entry (λ (gs : List DriverEntry). StepLeft d (with_object_reply c (leaves (record s { programs = t }) (told gs o))) o gs) call (λ answer. left answer o) es h

  pub delete_shader_leaves : (shader : ℕ) → OwnLeaves s d (DeleteShader shader) payload
  delete_shader_leaves shader o es l h = delete_by (DeleteShader shader) (Program (calls.DeleteShader (number_of s.programs shader))) (shader == 0) (delete_shader_effect s.programs (number_of s.programs shader))
      (λ answer o. record {
        asked = refl;
        agrees = with_programs s d.tables _ _ a (agree_shader_deleted s.programs d.tables.programs d.tables.given.programs a.programs (number_of s.programs shader));
        contents = refl;
        records = refl;
      }) o es h

  pub delete_program_leaves : (program : ℕ) → OwnLeaves s d (DeleteProgram program) payload
  delete_program_leaves program o es l h = delete_by (DeleteProgram program) (Program (calls.DeleteProgram (number_of s.programs program))) (program == 0) (delete_program_effect s.programs (number_of s.programs program))
      (λ answer o. record {
        asked = refl;
        agrees = with_programs s d.tables _ _ a (agree_program_deleted s.programs d.tables.programs d.tables.given.programs a.programs (number_of s.programs program));
        contents = refl;
        records = refl;
      }) o es h

-- LinkProgram and ValidateProgram

-- a program by its number
by_number : (t : ProgramTables) (found : Option names.Name) (p : programs.Program) → program_by t found ≡ Some p → map.get t.programs (number_in found) ≡ Some p
by_number t None p is = absurd (cc)
by_number t (Some x) p is = is

-- what can be linked in the service can be in the driver
can_link_too : (t u : ProgramTables) → t.shaders ≡ u.shaders → (p : programs.Program) (y : Option programs.Program) → AreAlike (Some p) y → can_link t.shaders p.attached ≡ true → CanLink u y
can_link_too t u same p None alike can = absurd alike
can_link_too t u same p (Some q) alike can = (λ i. can_link (sym same i) (sym alike.attached i)) ∙ can

module _ (s : EsState) (d : DriverState) (a : TablesAgree s d.tables) (program : ℕ) (payload : List ℕ) where
  abbrev n : ℕ
  n = number_of s.programs program

  -- the program and that of the driver
  alike_here : (p : programs.Program) → program_at s.programs program ≡ Some p → AreAlike (Some p) (map.get d.tables.programs.programs n)
  alike_here p is = subst (λ (x : Option programs.Program). AreAlike x (map.get d.tables.programs.programs n)) (by_number s.programs (map.get s.programs.names program) p is) (a.programs.programs n)

  -- no call, or one
  may_if : (call : DriverCall) (b : Bool) → (b ≡ true → IsAllowed d call) → (es : List DriverEntry) (next : DriverCall) (more : List DriverCall) → calls_in es ++ next ∷ more ≡ (if b then call ∷ [] else []) → IsAllowed (state_after d es) next
  may_if call true allowed es next more h = front_of_one (λ (gs : List DriverEntry) (x : DriverCall). IsAllowed (state_after d gs) x) call (allowed refl) es next more h
  may_if call false allowed es next more h = absurd (not_nil (calls_in es) next more h)

  link_may_by : (found : Option programs.Program) → program_at s.programs program ≡ found → (es : List DriverEntry) (next : DriverCall) (more : List DriverCall) → calls_in es ++ next ∷ more ≡ link_program_calls s.programs n found → IsAllowed (state_after d es) next
  link_may_by None is es next more h = absurd (not_nil (calls_in es) next more h)
  link_may_by (Some p) is es next more h = may_if (Program (calls.LinkProgram n)) (can_link s.programs.shaders p.attached)
      (λ can. can_link_too s.programs d.tables.programs a.programs.shaders p (map.get d.tables.programs.programs n) (alike_here p is) can) es next more h

  pub link_program_may : OwnMayGoOn s d (LinkProgram program) payload
  link_program_may o es next more l h = link_may_by (program_at s.programs program) refl es next more h

  -- what a link leaves, by whether the driver makes it
  abbrev link_made : Bool → Oracle → Outcome EsState
  link_made b o =
      if b then leaves (record s { programs = link_program_effect s.programs n (first o.link) }) (record o { link = behind o.link })
      else leaves (record s { programs = link_program_effect s.programs n failed_link }) o

  -- what a validation leaves, by whether the driver makes it
  abbrev validation_made : Bool → Oracle → Outcome EsState
  validation_made b o =
      if b then leaves (record s { programs = validate_program_effect s.programs n (first o.validate) }) (record o { validate = behind o.validate })
      else leaves (record s { programs = validate_unlinked_effect s.programs n }) o

  linked_by_answer : (o : Oracle) (answer : Answer) → IsLegal d (entry (Program (calls.LinkProgram n)) answer ∷ [])
      → StepLeft d (with_object_reply (LinkProgram program) (link_made true (told (entry (Program (calls.LinkProgram n)) answer ∷ []) o))) o (entry (Program (calls.LinkProgram n)) answer ∷ [])
  linked_by_answer o (Link said) l = record {
    asked = refl;
    agrees = with_programs s d.tables _ _ a (agree_linked s.programs d.tables.programs d.tables.given.programs a.programs n said);
    contents = refl;
    records = refl;
  }
  linked_by_answer o answer l = absurd l.0.answered

  left_as_is : (c : ObjectCommand) (o : Oracle) (es : List DriverEntry) → calls_in es ≡ [] → StepLeft d (with_object_reply c (leaves s (told es o))) o es
  left_as_is c o es h = no_entry (λ (gs : List DriverEntry). StepLeft d (with_object_reply c (leaves s (told gs o))) o gs) (record { asked = refl; agrees = a; contents = refl; records = refl }) es h

  link_left_if : (b : Bool) (o : Oracle) (es : List DriverEntry) → IsLegal d es → calls_in es ≡ (if b then Program (calls.LinkProgram n) ∷ [] else []) → StepLeft d (with_object_reply (LinkProgram program) (link_made b (told es o))) o es
  link_left_if true o es l h = one_entry (λ (gs : List DriverEntry). IsLegal d gs → StepLeft d (with_object_reply (LinkProgram program) (link_made true (told gs o))) o gs) (Program (calls.LinkProgram n)) (linked_by_answer o) es h l
  link_left_if false o es l h = no_entry (λ (gs : List DriverEntry). StepLeft d (with_object_reply (LinkProgram program) (link_made false (told gs o))) o gs) (record {
    asked = refl;
    agrees = with_programs s d.tables (link_program_effect s.programs n failed_link) d.tables.programs a (agree_failed_link s.programs d.tables.programs d.tables.given.programs a.programs n);
    contents = refl;
    records = refl;
  }) es h

  link_left_by : (found : Option programs.Program) (o : Oracle) (es : List DriverEntry) → IsLegal d es → calls_in es ≡ link_program_calls s.programs n found → StepLeft d (with_object_reply (LinkProgram program) (link_outcome s n found (told es o))) o es
  link_left_by None o es l h = left_as_is (LinkProgram program) o es h
  link_left_by (Some p) o es l h = link_left_if (can_link s.programs.shaders p.attached) o es l h

  pub link_program_leaves : OwnLeaves s d (LinkProgram program) payload
  link_program_leaves o es l h = link_left_by (program_at s.programs program) o es l h

  validate_may_by : (found : Option programs.Program) → program_at s.programs program ≡ found → (es : List DriverEntry) (next : DriverCall) (more : List DriverCall) → calls_in es ++ next ∷ more ≡ validate_program_calls n found → IsAllowed (state_after d es) next
  validate_may_by None is es next more h = absurd (not_nil (calls_in es) next more h)
  validate_may_by (Some p) is es next more h = may_if (Program (calls.ValidateProgram n)) (is_some p.executable)
      (λ linked. linked_too (Some p) (map.get d.tables.programs.programs n) (alike_here p is) linked) es next more h

  pub validate_program_may : OwnMayGoOn s d (ValidateProgram program) payload
  validate_program_may o es next more l h = validate_may_by (program_at s.programs program) refl es next more h

  validated_by_answer : (o : Oracle) (answer : Answer) → IsLegal d (entry (Program (calls.ValidateProgram n)) answer ∷ [])
      → StepLeft d (with_object_reply (ValidateProgram program) (validation_made true (told (entry (Program (calls.ValidateProgram n)) answer ∷ []) o))) o (entry (Program (calls.ValidateProgram n)) answer ∷ [])
  validated_by_answer o (Validate ok log) l = record {
    asked = refl;
    agrees = with_programs s d.tables _ _ a (agree_validated s.programs d.tables.programs d.tables.given.programs a.programs n (record { ok = ok; log = log }));
    contents = refl;
    records = refl;
  }
  validated_by_answer o answer l = absurd l.0.answered

  validate_left_if : (b : Bool) (o : Oracle) (es : List DriverEntry) → IsLegal d es → calls_in es ≡ (if b then Program (calls.ValidateProgram n) ∷ [] else []) → StepLeft d (with_object_reply (ValidateProgram program) (validation_made b (told es o))) o es
  validate_left_if true o es l h = one_entry (λ (gs : List DriverEntry). IsLegal d gs → StepLeft d (with_object_reply (ValidateProgram program) (validation_made true (told gs o))) o gs) (Program (calls.ValidateProgram n)) (validated_by_answer o) es h l
  validate_left_if false o es l h = no_entry (λ (gs : List DriverEntry). StepLeft d (with_object_reply (ValidateProgram program) (validation_made false (told gs o))) o gs) (record {
    asked = refl;
    agrees = with_programs s d.tables (validate_unlinked_effect s.programs n) d.tables.programs a (agree_unlinked s.programs d.tables.programs d.tables.given.programs a.programs n);
    contents = refl;
    records = refl;
  }) es h

  validate_left_by : (found : Option programs.Program) (o : Oracle) (es : List DriverEntry) → IsLegal d es → calls_in es ≡ validate_program_calls n found → StepLeft d (with_object_reply (ValidateProgram program) (validate_outcome s n found (told es o))) o es
  validate_left_by None o es l h = left_as_is (ValidateProgram program) o es h
  validate_left_by (Some p) o es l h = validate_left_if (is_some p.executable) o es l h

  pub validate_program_leaves : OwnLeaves s d (ValidateProgram program) payload
  validate_program_leaves o es l h = validate_left_by (program_at s.programs program) o es l h

-- UseProgram

-- what is so where it is not refused: the number is 0, or that of a linked program
used_by : (t : ProgramTables) (found : Option names.Name) → (if is_none found then Some InvalidValue else if is_linked (program_by t found) then None else Some InvalidOperation) ≡ None → is_linked (map.get t.programs (number_in found)) ≡ true
used_by t None allowed = absurd (cc)
used_by t (Some x) allowed = linked_if (is_linked (map.get t.programs x.number)) allowed
  where
    linked_if : (b : Bool) → (if b then None else Some InvalidOperation) ≡ None → b ≡ true
    linked_if true h = refl
    linked_if false h = absurd (cc)

module _ (s : EsState) (d : DriverState) (a : TablesAgree s d.tables) (program : ℕ) (payload : List ℕ) (allowed : use_program_refusal s.programs program ≡ None) where
  abbrev used : ℕ
  used = number_of s.programs program

  abbrev IsUsable : Type 0
  IsUsable = (used ≡ 0) ⊎ (is_linked (map.get s.programs.programs used) ≡ true)

  usable_if : (b : Bool) → (program == 0) ≡ b → (if b then None else if is_none (map.get s.programs.names program) then Some InvalidValue else if is_linked (program_at s.programs program) then None else Some InvalidOperation) ≡ None → IsUsable
  usable_if true zero taken = inl (ap (λ (id : ℕ). number_of s.programs id) (is_zero program zero) ∙ ap number_in a.programs.names.no_zero_id)
  usable_if false some taken = inr (used_by s.programs (map.get s.programs.names program) taken)

  usable : IsUsable
  usable = usable_if (program == 0) refl allowed

  usable_there : IsUsable → IsAllowed d (Program (calls.UseProgram used))
  usable_there (inl zero) = inl zero
  usable_there (inr linked) = inr (linked_too (map.get s.programs.programs used) (map.get d.tables.programs.programs used) (a.programs.programs used) linked)

  pub use_program_may : OwnMayGoOn s d (UseProgram program) payload
  use_program_may o es next more l h = front_of_one (λ (gs : List DriverEntry) (x : DriverCall). IsAllowed (state_after d gs) x) (Program (calls.UseProgram used)) (usable_there usable) es next more h

  same_installed : IsUsable → executable_at s.programs used ≡ executable_at d.tables.programs used
  same_installed (inl zero) = ap (executable_at s.programs) zero ∙ sym (ap (executable_at d.tables.programs) zero)
  same_installed (inr linked) = same_executable_at s.programs d.tables.programs d.tables.given.programs a.programs used linked

  pub use_program_leaves : OwnLeaves s d (UseProgram program) payload
  use_program_leaves o es l h = one_entry (λ (gs : List DriverEntry). StepLeft d (object_step s (UseProgram program) payload (told gs o)) o gs) (Program (calls.UseProgram used))
      (λ answer. record {
        asked = refl;
        agrees = with_programs s d.tables _ _ a (agree_use s.programs d.tables.programs d.tables.given.programs a.programs used (same_installed usable));
        contents = refl;
        records = refl;
      }) es h
