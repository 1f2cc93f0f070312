-- How the tables that a driver keeps follow its state.
use Rattle.std.proofs.Common.{◌≡◌, List, [], ◌∷◌, ◌++◌, refl, sym, ◌∙◌, ap, subst, append_assoc, append-nil}
use Rattle.gl_plain.specs.declared.driver_calls.Answer.{Answer}
use Rattle.gl_plain.specs.declared.driver_calls.Answer.TheVariants.{Name, Compile, Link, Validate}
use Rattle.gl_plain.specs.declared.driver_calls.DriverCall.TheVariants.{Object, Image, Program, Draw}
use Rattle.gl_plain.specs.declared.driver_calls.DrawDriver.{DrawDriver}
use Rattle.gl_plain.specs.declared.driver_calls.DriverEntry.{DriverEntry}
use Rattle.gl_plain.specs.declared.driver_calls.ObjectDriver.{ObjectDriver}
use Rattle.gl_plain.specs.declared.driver_calls.ObjectDriver.TheVariants.{GenBuffer, GenTexture, GenRenderbuffer, GenFramebuffer}
use Rattle.gl_plain.specs.declared.driver_calls.ImageDriver.{ImageDriver}
use Rattle.gl_plain.specs.declared.driver_calls.ProgramDriver.{ProgramDriver}
use Rattle.gl_plain.specs.declared.driver_calls.ProgramDriver.TheVariants.{CreateShader, CreateProgram, CompileShader, LinkProgram, ValidateProgram}
use Rattle.gl_plain.specs.State.{DriverTables, DriverState}
use Rattle.gl_plain.specs.driver.Allowed.{IsObjectAllowed, IsImageAllowed}
use Rattle.gl_plain.specs.driver.Answers.{IsObjectAnswer}
use Rattle.gl_plain.specs.driver.Effect.{after_object, after_image, after_create, after_compile, after_link, after_validate, after_program, after_drawing}
use Rattle.gl_plain.specs.subjects.Images.{Contents}
use Rattle.gl_plain.specs.subjects.Programs.{create_shader_effect, create_program_effect}
use Rattle.strict_driver.specs.declared.tables.Tables.{Tables}
use Rattle.strict_driver.specs.KeptBuffers.{buffers_of}
use Rattle.strict_driver.specs.FitImages.{IsFit}
use Rattle.strict_driver.specs.TableState.{Follow, state_of}
use Rattle.strict_driver.proofs.Fair.{fits}

module _ (js : List DriverEntry) (kept : Tables) where
  same_allowed : (t t2 : DriverTables) (call : ObjectDriver) → IsObjectAllowed (state_of t js kept) call → IsObjectAllowed (state_of t2 js kept) call
  same_allowed t t2 call h = h

  same_answer : (t t2 : DriverTables) (k k2 : Contents) (call : ObjectDriver) (answer : Answer) → IsObjectAnswer (record { tables = state_of t js kept; contents = k }) call answer → IsObjectAnswer (record { tables = state_of t2 js kept; contents = k2 }) call answer
  same_answer t t2 k k2 GenBuffer answer h = h
  same_answer t t2 k k2 GenTexture answer h = h
  same_answer t t2 k k2 GenRenderbuffer answer h = h
  same_answer t t2 k k2 GenFramebuffer answer h = h
  same_answer t t2 k k2 call answer h = h

  -- a call on objects is allowed whatever shaders and programs there are
  pub allowed_alone : (t t2 : DriverTables) (call : ObjectDriver) → state_of t js kept ≡ t → IsObjectAllowed t call → IsObjectAllowed (state_of t2 js kept) call
  allowed_alone t t2 call is allowed = same_allowed t t2 call (subst (λ (u : DriverTables). IsObjectAllowed u call) (sym is) allowed)

  -- and so is the form of its answer
  pub answered_alone : (d : DriverState) (t2 : DriverTables) (k2 : Contents) (call : ObjectDriver) (answer : Answer) → state_of d.tables js kept ≡ d.tables → IsObjectAnswer d call answer → IsObjectAnswer (record { tables = state_of t2 js kept; contents = k2 }) call answer
  answered_alone d t2 k2 call answer is answered =
      same_answer d.tables t2 d.contents k2 call answer (subst (λ (u : DriverTables). IsObjectAnswer (record { tables = u; contents = d.contents }) call answer) (sym is) answered)

  create_steps : (create : _) (t : DriverTables) (answer : Answer) → state_of (after_create create t answer) js kept ≡ after_create create (state_of t js kept) answer
  create_steps create t (Name n) = refl
  create_steps create t answer = refl

  compile_steps : (t : DriverTables) (name : _) (answer : Answer) → state_of (after_compile t name answer) js kept ≡ after_compile (state_of t js kept) name answer
  compile_steps t name (Compile ok log) = refl
  compile_steps t name answer = refl

  link_steps : (t : DriverTables) (name : _) (answer : Answer) → state_of (after_link t name answer) js kept ≡ after_link (state_of t js kept) name answer
  link_steps t name (Link a) = refl
  link_steps t name answer = refl

  validate_steps : (t : DriverTables) (name : _) (answer : Answer) → state_of (after_validate t name answer) js kept ≡ after_validate (state_of t js kept) name answer
  validate_steps t name (Validate ok log) = refl
  validate_steps t name answer = refl

  kept_same : (t : DriverTables) (call : ProgramDriver) (answer : Answer) → state_of (after_program t call answer) js kept ≡ after_program (state_of t js kept) call answer
  kept_same t (CreateShader kind) answer = create_steps (λ n. create_shader_effect t.programs n n kind) t answer
  kept_same t CreateProgram answer = create_steps (λ n. create_program_effect t.programs n n) t answer
  kept_same t (CompileShader name) answer = compile_steps t name answer
  kept_same t (LinkProgram name) answer = link_steps t name answer
  kept_same t (ValidateProgram name) answer = validate_steps t name answer
  kept_same t call answer = refl

  -- a call on shaders and programs leaves the tables that are kept as they are
  pub program_steps : (t : DriverTables) (call : ProgramDriver) (answer : Answer) → state_of t js kept ≡ t → state_of (after_program t call answer) js kept ≡ after_program t call answer
  program_steps t call answer is = kept_same t call answer ∙ ap (λ (u : DriverTables). after_program u call answer) is

  -- what a call on images puts into the tables fits those that are kept
  pub image_fits : (d : DriverState) (call : ImageDriver) → state_of d.tables js kept ≡ d.tables → IsImageAllowed d call → IsFit kept.renderbuffers.tables call
  image_fits d call is allowed = subst (λ (u : DriverTables). IsFit u.renderbuffers call) (sym is) (fits d call allowed)

  -- where the tables change as a call says, they are those that it leaves
  pub steps : (after : DriverTables → DriverTables) (t : DriverTables) (now : Tables) → state_of t js now ≡ after (state_of t js kept) → state_of t js kept ≡ t → state_of (after t) js now ≡ after t
  steps after t now changed is =
      let e : state_of t js now ≡ after t = changed ∙ ap after is in
      ap (λ (u : DriverTables). state_of u js now) (sym e) ∙ e

module _ (t : DriverTables) (js : List DriverEntry) (kept : Tables) where
  -- with nothing behind the journal
  pub at_once : Follow t js kept → state_of t js kept ≡ t
  at_once follow = ap (λ (j : List DriverEntry). state_of t j kept) (sym (append-nil js)) ∙ follow []

  -- the buffers are the same, whatever comes behind the journal
  pub settled : Follow t js kept → (more : List DriverEntry) → buffers_of (js ++ more) kept.buffers ≡ buffers_of js kept.buffers
  settled follow more = ap (λ (u : DriverTables). u.buffers) (follow more ∙ sym (at_once follow))

  abbrev object_entry : ObjectDriver → Answer → DriverEntry
  object_entry call answer = record { call = Object call; answer = answer }

  abbrev image_entry : ImageDriver → Answer → DriverEntry
  image_entry call answer = record { call = Image call; answer = answer }

  abbrev program_entry : ProgramDriver → Answer → DriverEntry
  program_entry call answer = record { call = Program call; answer = answer }

  abbrev drawing_entry : DrawDriver → Answer → DriverEntry
  drawing_entry call answer = record { call = Draw call; answer = answer }

  -- the tables follow a call on objects
  pub object_follows : (now : Tables) (call : ObjectDriver) (answer : Answer) → Follow t js kept
      → ((u : DriverTables) (more : List DriverEntry) → state_of u (js ++ object_entry call answer ∷ more) now ≡ after_object (state_of u (js ++ object_entry call answer ∷ more) kept) call answer) → Follow (after_object t call answer) (js ++ object_entry call answer ∷ []) now
  object_follows now call answer follow after more =
      let e = object_entry call answer in
      ap (λ (j : List DriverEntry). state_of (after_object t call answer) j now) (append_assoc js (e ∷ []) more) ∙ steps (js ++ e ∷ more) kept (λ u. after_object u call answer) t now (after t more) (follow (e ∷ more))

  -- and one on images
  pub image_follows : (now : Tables) (call : ImageDriver) (answer : Answer) → Follow t js kept → ((u : DriverTables) (j : List DriverEntry) → state_of u j now ≡ after_image (state_of u j kept) call answer) → Follow (after_image t call answer) (js ++ image_entry call answer ∷ []) now
  image_follows now call answer follow after more =
      let e = image_entry call answer in
      ap (λ (j : List DriverEntry). state_of (after_image t call answer) j now) (append_assoc js (e ∷ []) more) ∙ steps (js ++ e ∷ more) kept (λ u. after_image u call answer) t now (after t (js ++ e ∷ more)) (follow (e ∷ more))

  -- and one on shaders and programs, as they are
  pub program_follows : (call : ProgramDriver) (answer : Answer) → Follow t js kept → Follow (after_program t call answer) (js ++ program_entry call answer ∷ []) kept
  program_follows call answer follow more =
      let e = program_entry call answer in
      ap (λ (j : List DriverEntry). state_of (after_program t call answer) j kept) (append_assoc js (e ∷ []) more) ∙ program_steps (js ++ e ∷ more) kept t call answer (follow (e ∷ more))

  -- and one on the active unit or the fixed state, or one that clears or draws
  pub drawing_follows : (now : Tables) (call : DrawDriver) (answer : Answer) → Follow t js kept → ((u : DriverTables) (j : List DriverEntry) → state_of (after_drawing u call) j now ≡ after_drawing (state_of u j kept) call) → Follow (after_drawing t call) (js ++ drawing_entry call answer ∷ []) now
  drawing_follows now call answer follow after more =
      let e = drawing_entry call answer in
      ap (λ (j : List DriverEntry). state_of (after_drawing t call) j now) (append_assoc js (e ∷ []) more) ∙ after t (js ++ e ∷ more) ∙ ap (λ (u : DriverTables). after_drawing u call) (follow (e ∷ more))
