-- The own laws of the commands that make, compile, attach and link shaders and programs.
use Rattle.std.proofs.Common.{◌≡◌, ◌≢◌, ◌≤◌, ℕ, false, not, ◌||◌, nat_lt, if◌then◌else◌, List, [], ◌∷◌, length, Option, None, Some, IsSome, is_some, is_none, refl, sym, ap, ◌∙◌, subst, arith}
use Rattle.std.specs.Ordering.{nat_cmp}
use Rattle.std.specs.FinMap as map
use Rattle.gl_base.specs.declared.gl_enum.GlEnum.{GlEnum}
use Rattle.gl_base.specs.declared.limits.TheConstants.{LAST_ATTRIBUTE, NAME_LENGTH_LIMIT}
use Rattle.gl_base.specs.Names.{is_ordinary}
use Rattle.gl_plain.specs.declared.errors.GlError.TheVariants.{InvalidValue, InvalidOperation}
use Rattle.gl_plain.specs.declared.objects.Name as names
use Rattle.gl_plain.specs.declared.programs.Program as programs
use Rattle.gl_plain.specs.declared.programs.Shader.{Shader}
use Rattle.gl_plain.specs.declared.commands.DataWords.{DataWords}
use Rattle.gl_plain.specs.declared.commands.ObjectCommand.TheVariants.{CreateShader, ShaderSource, CompileShader, CreateProgram, AttachShader, DetachShader, BindAttribLocation}
use Rattle.gl_plain.specs.declared.driver_calls.Answer.{Answer}
use Rattle.gl_plain.specs.declared.driver_calls.Answer.TheVariants.{Name, Compile}
use Rattle.gl_plain.specs.declared.driver_calls.DriverCall.{DriverCall}
use Rattle.gl_plain.specs.declared.driver_calls.DriverCall.TheVariants.{Program}
use Rattle.gl_plain.specs.declared.driver_calls.DriverEntry.{DriverEntry}
use Rattle.gl_plain.specs.declared.driver_calls.ProgramDriver.TheVariants as calls
use Rattle.gl_plain.specs.subjects.Programs.{ProgramTables, number_in, number_of, shader_by, program_by, is_shader_kind, create_is_bad, create_shader_refusal, shader_refusal, attach_refusal_by, attach_shader_refusal, has_its_kind, detach_refusal_by, detach_shader_refusal, is_among, is_built_in, bind_attrib_location_refusal, AreAlike}
use Rattle.gl_plain.specs.Oracle.{Oracle}
use Rattle.gl_plain.specs.State.{EsState, DriverState}
use Rattle.gl_plain.specs.driver.Allowed.{IsAllowed}
use Rattle.gl_plain.specs.driver.Answers.{told}
use Rattle.gl_plain.specs.Journal.{IsLegal, state_after}
use Rattle.gl_plain.specs.Agreement.{TablesAgree}
use Rattle.gl_plain.specs.object.Step.{object_step}
use Rattle.gl_laws.proofs.Lists.{entry, one_entry, front_of_one}
use Rattle.gl_laws.proofs.Refusals.{or_false, not_false, none_of, some_of, none_refused}
use Rattle.gl_laws.proofs.OwnLaws.{StepLeft, OwnMayGoOn, OwnLeaves}
use Rattle.gl_laws.proofs.Tables.{with_programs, with_new_program}
use Rattle.gl_laws.proofs.ProgramsAgree.{agree_shader, agree_program, agree_source, agree_compiled, agree_attached, agree_detached, agree_bound}

-- CreateShader and CreateProgram

free : (t : ProgramTables) (id : ℕ) → create_is_bad t.names id ≡ false → map.get t.names id ≡ None
free t id fair = none_of (map.get t.names id) (or_false (not (is_ordinary id)) (is_some (map.get t.names id)) fair).1

positive : (t : ProgramTables) (id : ℕ) → create_is_bad t.names id ≡ false → id ≢ 0
positive t id fair zero = let no : create_is_bad t.names 0 ≡ false = subst (λ (k : ℕ). create_is_bad t.names k ≡ false) zero fair in absurd (cc)

module _ (s : EsState) (d : DriverState) (a : TablesAgree s d.tables) (id : ℕ) (payload : List ℕ) (fair : create_is_bad s.programs.names id ≡ false) where
  pub create_shader_may : (kind : GlEnum) → create_shader_refusal s.programs kind ≡ None → OwnMayGoOn s d (CreateShader id kind) payload
  create_shader_may kind allowed o es next more l h = front_of_one (λ (gs : List DriverEntry) (x : DriverCall). IsAllowed (state_after d gs) x) (Program (calls.CreateShader kind))
      (not_false (is_shader_kind kind) (none_refused (not (is_shader_kind kind)) _ _ _ allowed).0) es next more h

  shader_by_answer : (kind : GlEnum) (o : Oracle) (answer : Answer) → IsLegal d (entry (Program (calls.CreateShader kind)) answer ∷ [])
      → StepLeft d (object_step s (CreateShader id kind) payload (told (entry (Program (calls.CreateShader kind)) answer ∷ []) o)) o (entry (Program (calls.CreateShader kind)) answer ∷ [])
  shader_by_answer kind o (Name n) l = record {
    asked = refl;
    agrees = with_new_program s d.tables _ _ n a (agree_shader s.programs d.tables.programs d.tables.given.programs a.programs id n kind (free s.programs id fair) (positive s.programs id fair) l.0.answered);
    contents = refl;
    records = refl;
  }
  shader_by_answer kind o answer l = absurd l.0.answered

  pub create_shader_leaves : (kind : GlEnum) → OwnLeaves s d (CreateShader id kind) payload
  create_shader_leaves kind o es l h = one_entry (λ (gs : List DriverEntry). IsLegal d gs → StepLeft d (object_step s (CreateShader id kind) payload (told gs o)) o gs) (Program (calls.CreateShader kind)) (shader_by_answer kind o) es h l

  pub create_program_may : OwnMayGoOn s d (CreateProgram id) payload
  create_program_may o es next more l h = front_of_one (λ (gs : List DriverEntry) (x : DriverCall). IsAllowed (state_after d gs) x) (Program calls.CreateProgram) tt es next more h

  program_by_answer : (o : Oracle) (answer : Answer) → IsLegal d (entry (Program calls.CreateProgram) answer ∷ [])
      → StepLeft d (object_step s (CreateProgram id) payload (told (entry (Program calls.CreateProgram) answer ∷ []) o)) o (entry (Program calls.CreateProgram) answer ∷ [])
  program_by_answer o (Name n) l = record {
    asked = refl;
    agrees = with_new_program s d.tables _ _ n a (agree_program s.programs d.tables.programs d.tables.given.programs a.programs id n (free s.programs id fair) (positive s.programs id fair) l.0.answered);
    contents = refl;
    records = refl;
  }
  program_by_answer o answer l = absurd l.0.answered

  pub create_program_leaves : OwnLeaves s d (CreateProgram id) payload
  create_program_leaves o es l h = one_entry (λ (gs : List DriverEntry). IsLegal d gs → StepLeft d (object_step s (CreateProgram id) payload (told gs o)) o gs) (Program calls.CreateProgram) (program_by_answer o) es h l

-- Names that are wanted

-- a shader that is not refused is there
shader_there : (t : ProgramTables) (found : Option names.Name) → (if is_none found then Some InvalidValue else if is_none (shader_by t found) then Some InvalidOperation else None) ≡ None → IsSome (map.get t.shaders (number_in found))
shader_there t None allowed = absurd (cc)
shader_there t (Some x) allowed = some_of (map.get t.shaders x.number) (none_refused false (is_none (map.get t.shaders x.number)) InvalidValue InvalidOperation allowed).1

-- in the driver too
pub live_shader : (t u : ProgramTables) → t.shaders ≡ u.shaders → (id : ℕ) → shader_refusal t id ≡ None → IsSome (map.get u.shaders (number_of t id))
live_shader t u same id allowed = subst (λ (m : map.FinMap nat_cmp Shader). IsSome (map.get m (number_of t id))) same (shader_there t (map.get t.names id) allowed)

-- a program that is there is so in the driver too
pub some_too : (x y : Option programs.Program) → AreAlike x y → IsSome x → IsSome y
some_too None y alike there = absurd (cc)
some_too (Some p) None alike there = absurd alike
some_too (Some p) (Some q) alike there = refl

-- ShaderSource and CompileShader
module _ (s : EsState) (d : DriverState) (a : TablesAgree s d.tables) (shader : ℕ) (payload : List ℕ) where
  abbrev number : ℕ
  number = number_of s.programs shader

  pub shader_source_may : (words : DataWords) → shader_refusal s.programs shader ≡ None → OwnMayGoOn s d (ShaderSource shader words) payload
  shader_source_may words allowed o es next more l h = front_of_one (λ (gs : List DriverEntry) (x : DriverCall). IsAllowed (state_after d gs) x) (Program (calls.ShaderSource number payload))
      (live_shader s.programs d.tables.programs a.programs.shaders shader allowed) es next more h

  pub shader_source_leaves : (words : DataWords) → OwnLeaves s d (ShaderSource shader words) payload
  shader_source_leaves words o es l h = one_entry (λ (gs : List DriverEntry). StepLeft d (object_step s (ShaderSource shader words) payload (told gs o)) o gs) (Program (calls.ShaderSource number payload))
      (λ answer. record {
        asked = refl;
        agrees = with_programs s d.tables _ _ a (agree_source s.programs d.tables.programs d.tables.given.programs a.programs number payload);
        contents = refl;
        records = refl;
      }) es h

  pub compile_shader_may : shader_refusal s.programs shader ≡ None → OwnMayGoOn s d (CompileShader shader) payload
  compile_shader_may allowed o es next more l h = front_of_one (λ (gs : List DriverEntry) (x : DriverCall). IsAllowed (state_after d gs) x) (Program (calls.CompileShader number))
      (live_shader s.programs d.tables.programs a.programs.shaders shader allowed) es next more h

  compiled_by_answer : (o : Oracle) (answer : Answer) → IsLegal d (entry (Program (calls.CompileShader number)) answer ∷ [])
      → StepLeft d (object_step s (CompileShader shader) payload (told (entry (Program (calls.CompileShader number)) answer ∷ []) o)) o (entry (Program (calls.CompileShader number)) answer ∷ [])
  compiled_by_answer o (Compile ok log) l = record {
    asked = refl;
    agrees = with_programs s d.tables _ _ a (agree_compiled s.programs d.tables.programs d.tables.given.programs a.programs number (record { ok = ok; log = log }));
    contents = refl;
    records = refl;
  }
  compiled_by_answer o answer l = absurd l.0.answered

  pub compile_shader_leaves : OwnLeaves s d (CompileShader shader) payload
  compile_shader_leaves o es l h = one_entry (λ (gs : List DriverEntry). IsLegal d gs → StepLeft d (object_step s (CompileShader shader) payload (told gs o)) o gs) (Program (calls.CompileShader number)) (compiled_by_answer o) es h l

-- AttachShader and DetachShader

-- the driver refuses what the service does
same_attach_refusal : (shaders : map.FinMap nat_cmp Shader) (x y : Option programs.Program) (s : Option Shader) → AreAlike x y → attach_refusal_by shaders x s ≡ attach_refusal_by shaders y s
same_attach_refusal shaders None None s alike = refl
same_attach_refusal shaders None (Some q) s alike = absurd alike
same_attach_refusal shaders (Some p) None s alike = absurd alike
same_attach_refusal shaders (Some p) (Some q) None alike = refl
same_attach_refusal shaders (Some p) (Some q) (Some s) alike = ap (λ (ns : List ℕ). if has_its_kind shaders ns s then Some InvalidOperation else None) alike.attached

same_detach_refusal : (x y : Option programs.Program) (s : Option Shader) (n : ℕ) → AreAlike x y → detach_refusal_by x s n ≡ detach_refusal_by y s n
same_detach_refusal None None s n alike = refl
same_detach_refusal None (Some q) s n alike = absurd alike
same_detach_refusal (Some p) None s n alike = absurd alike
same_detach_refusal (Some p) (Some q) None n alike = refl
same_detach_refusal (Some p) (Some q) (Some s) n alike = ap (λ (ns : List ℕ). if is_among ns n then None else Some InvalidOperation) alike.attached

-- what is not refused by the names is not refused by their numbers
attach_by_number : (t : ProgramTables) (x y : Option names.Name) → (if is_none x || is_none y then Some InvalidValue else attach_refusal_by t.shaders (program_by t x) (shader_by t y)) ≡ None
    → attach_refusal_by t.shaders (map.get t.programs (number_in x)) (map.get t.shaders (number_in y)) ≡ None
attach_by_number t None y allowed = absurd (cc)
attach_by_number t (Some x) None allowed = absurd (cc)
attach_by_number t (Some x) (Some y) allowed = allowed

detach_by_number : (t : ProgramTables) (x y : Option names.Name) → (if is_none x || is_none y then Some InvalidValue else detach_refusal_by (program_by t x) (shader_by t y) (number_in y)) ≡ None
    → detach_refusal_by (map.get t.programs (number_in x)) (map.get t.shaders (number_in y)) (number_in y) ≡ None
detach_by_number t None y allowed = absurd (cc)
detach_by_number t (Some x) None allowed = absurd (cc)
detach_by_number t (Some x) (Some y) allowed = allowed

module _ (s : EsState) (d : DriverState) (a : TablesAgree s d.tables) (program shader : ℕ) (payload : List ℕ) where
  abbrev n : ℕ
  n = number_of s.programs program

  abbrev m : ℕ
  m = number_of s.programs shader

  pub attach_shader_may : attach_shader_refusal s.programs program shader ≡ None → OwnMayGoOn s d (AttachShader program shader) payload
  attach_shader_may allowed o es next more l h =
      let taken : attach_refusal_by s.programs.shaders (map.get s.programs.programs n) (map.get s.programs.shaders m) ≡ None = attach_by_number s.programs (map.get s.programs.names program) (map.get s.programs.names shader) allowed in
      let there : attach_refusal_by d.tables.programs.shaders (map.get s.programs.programs n) (map.get d.tables.programs.shaders m) ≡ None =
      subst (λ (shaders : map.FinMap nat_cmp Shader). attach_refusal_by shaders (map.get s.programs.programs n) (map.get shaders m) ≡ None) a.programs.shaders taken in
      front_of_one (λ (gs : List DriverEntry) (x : DriverCall). IsAllowed (state_after d gs) x) (Program (calls.AttachShader n m))
      (sym (same_attach_refusal d.tables.programs.shaders (map.get s.programs.programs n) (map.get d.tables.programs.programs n) (map.get d.tables.programs.shaders m) (a.programs.programs n)) ∙ there) es next more h

  pub attach_shader_leaves : OwnLeaves s d (AttachShader program shader) payload
  attach_shader_leaves o es l h = one_entry (λ (gs : List DriverEntry). StepLeft d (object_step s (AttachShader program shader) payload (told gs o)) o gs) (Program (calls.AttachShader n m))
      (λ answer. record {
        asked = refl;
        agrees = with_programs s d.tables _ _ a (agree_attached s.programs d.tables.programs d.tables.given.programs a.programs n m);
        contents = refl;
        records = refl;
      }) es h

  pub detach_shader_may : detach_shader_refusal s.programs program shader ≡ None → OwnMayGoOn s d (DetachShader program shader) payload
  detach_shader_may allowed o es next more l h =
      let taken : detach_refusal_by (map.get s.programs.programs n) (map.get s.programs.shaders m) m ≡ None = detach_by_number s.programs (map.get s.programs.names program) (map.get s.programs.names shader) allowed in
      let there : detach_refusal_by (map.get s.programs.programs n) (map.get d.tables.programs.shaders m) m ≡ None =
      subst (λ (shaders : map.FinMap nat_cmp Shader). detach_refusal_by (map.get s.programs.programs n) (map.get shaders m) m ≡ None) a.programs.shaders taken in
      front_of_one (λ (gs : List DriverEntry) (x : DriverCall). IsAllowed (state_after d gs) x) (Program (calls.DetachShader n m))
      (sym (same_detach_refusal (map.get s.programs.programs n) (map.get d.tables.programs.programs n) (map.get d.tables.programs.shaders m) m (a.programs.programs n)) ∙ there) es next more h

  pub detach_shader_leaves : OwnLeaves s d (DetachShader program shader) payload
  detach_shader_leaves o es l h = one_entry (λ (gs : List DriverEntry). StepLeft d (object_step s (DetachShader program shader) payload (told gs o)) o gs) (Program (calls.DetachShader n m))
      (λ answer. record {
        asked = refl;
        agrees = with_programs s d.tables _ _ a (agree_detached s.programs d.tables.programs d.tables.given.programs a.programs n m);
        contents = refl;
        records = refl;
      }) es h

-- BindAttribLocation

-- what is so where it is not refused
record IsLocationTaken (t : ProgramTables) (number index : ℕ) (name : List ℕ) : Type 0 where
  pub there : IsSome (map.get t.programs number)
  pub index_within : index ≤ LAST_ATTRIBUTE
  pub name_within : length name ≤ NAME_LENGTH_LIMIT
  pub own_name : is_built_in name ≡ false

location_taken : (t : ProgramTables) (found : Option names.Name) (index : ℕ) (name : List ℕ)
    → (if is_none found || nat_lt LAST_ATTRIBUTE index || nat_lt NAME_LENGTH_LIMIT (length name) then Some InvalidValue
    else if is_none (program_by t found) || is_built_in name then Some InvalidOperation else None) ≡ None → IsLocationTaken t (number_in found) index name
location_taken t None index name allowed = absurd (cc)
location_taken t (Some x) index name allowed =
    let both = none_refused (nat_lt LAST_ATTRIBUTE index || nat_lt NAME_LENGTH_LIMIT (length name)) (is_none (map.get t.programs x.number) || is_built_in name) InvalidValue InvalidOperation allowed in
    let values = or_false (nat_lt LAST_ATTRIBUTE index) (nat_lt NAME_LENGTH_LIMIT (length name)) both.0 in
    let name_is = or_false (is_none (map.get t.programs x.number)) (is_built_in name) both.1 in
    record { there = some_of (map.get t.programs x.number) name_is.0; index_within = not_below LAST_ATTRIBUTE index values.0; name_within = not_below NAME_LENGTH_LIMIT (length name) values.1; own_name = name_is.1 }
  where
    not_below : (m n : ℕ) → nat_lt m n ≡ false → n ≤ m
    not_below m n is = grind arith

module _ (s : EsState) (d : DriverState) (a : TablesAgree s d.tables) (program index : ℕ) (words : DataWords) (payload : List ℕ) where
  pub bind_attrib_location_may : bind_attrib_location_refusal s.programs program index payload ≡ None → OwnMayGoOn s d (BindAttribLocation program index words) payload
  bind_attrib_location_may allowed o es next more l h =
      let taken = location_taken s.programs (map.get s.programs.names program) index payload allowed in
      let live : IsSome (map.get d.tables.programs.programs (number_of s.programs program)) =
      some_too (map.get s.programs.programs (number_of s.programs program)) (map.get d.tables.programs.programs (number_of s.programs program)) (a.programs.programs (number_of s.programs program)) taken.there in
      front_of_one (λ (gs : List DriverEntry) (x : DriverCall). IsAllowed (state_after d gs) x) (Program (calls.BindAttribLocation (number_of s.programs program) index payload))
      (live, taken.index_within, taken.name_within, taken.own_name) es next more h

  pub bind_attrib_location_leaves : OwnLeaves s d (BindAttribLocation program index words) payload
  bind_attrib_location_leaves o es l h = one_entry (λ (gs : List DriverEntry). StepLeft d (object_step s (BindAttribLocation program index words) payload (told gs o)) o gs) (Program (calls.BindAttribLocation (number_of s.programs program) index payload))
      (λ answer. record {
        asked = refl;
        agrees = with_programs s d.tables _ _ a (agree_bound s.programs d.tables.programs d.tables.given.programs a.programs (number_of s.programs program) index payload);
        contents = refl;
        records = refl;
      }) es h
