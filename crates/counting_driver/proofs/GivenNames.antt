-- Which names were given behind a call.
use Rattle.std.proofs.Common.{◌≡◌, ◌<◌, ◌+◌, ◌||◌, ℕ, false, refl, ◌∙◌, ap, arith, inl, inr}
use Rattle.std.specs.Ordering.{nat_cmp, eq_by_cmp}
use Rattle.std.specs.Cmp.{nat_cmp_total}
use Rattle.std.specs.FinSet as set
use Rattle.gl_base.proofs.Found.{test}
use Rattle.gl_plain.specs.declared.driver_calls.Answer.{Answer}
use Rattle.gl_plain.specs.declared.driver_calls.Answer.TheVariants.{Done, Name, Compile, Link, Validate}
use Rattle.gl_plain.specs.declared.driver_calls.DriverCall.{DriverCall}
use Rattle.gl_plain.specs.declared.driver_calls.DriverCall.TheVariants.{Object, Image, Program, Draw}
use Rattle.gl_plain.specs.declared.driver_calls.DrawDriver.{DrawDriver}
use Rattle.gl_plain.specs.declared.driver_calls.DrawDriver.TheVariants.{SetRaster}
use Rattle.gl_plain.specs.declared.driver_calls.ObjectDriver.TheVariants.{GenBuffer, BufferData, GenTexture, GenRenderbuffer, GenFramebuffer}
use Rattle.gl_plain.specs.declared.driver_calls.ImageDriver.{ImageDriver}
use Rattle.gl_plain.specs.declared.driver_calls.ImageDriver.TheVariants.{TexImage, CopyTexImage, RenderbufferStorage}
use Rattle.gl_plain.specs.declared.driver_calls.ProgramDriver.TheVariants.{CreateShader, CreateProgram, CompileShader, LinkProgram, ValidateProgram}
use Rattle.gl_plain.specs.State.{DriverTables}
use Rattle.gl_plain.specs.Spaces.{Space, Buffers, Textures, Renderbuffers, Framebuffers}
use Rattle.gl_plain.specs.driver.Effect.{after_gen, after_buffer_data, after_image, after_create, after_compile, after_link, after_validate, after_drawing, tables_after}
use Rattle.gl_plain.specs.subjects.Programs.{create_shader_effect, create_program_effect}
use Rattle.counting_driver.specs.Counting.{is_name}

module _ (t : DriverTables) where
  gen_gives : (space : Space) (answer : Answer) → is_name answer ≡ false → (after_gen space t answer).given ≡ t.given
  gen_gives space (Name n) other = absurd (cc)
  gen_gives space answer other = refl

  data_gives : (target : _) (bytes : _) (usage : _) (answer : Answer) → (after_buffer_data t target bytes usage answer).given ≡ t.given
  data_gives target bytes usage Done = refl
  data_gives target bytes usage answer = refl

  image_gives : (call : ImageDriver) (answer : Answer) → (after_image t call answer).given ≡ t.given
  image_gives (TexImage target level format kind width height payload) Done = refl
  image_gives (TexImage target level format kind width height payload) answer = refl
  image_gives (CopyTexImage target level format x y width height) Done = refl
  image_gives (CopyTexImage target level format x y width height) answer = refl
  image_gives (RenderbufferStorage format width height) Done = refl
  image_gives (RenderbufferStorage format width height) answer = refl
  image_gives call answer = refl

  create_gives : (create : _) (answer : Answer) → is_name answer ≡ false → (after_create create t answer).given ≡ t.given
  create_gives create (Name n) other = absurd (cc)
  create_gives create answer other = refl

  compile_gives : (name : _) (answer : Answer) → (after_compile t name answer).given ≡ t.given
  compile_gives name (Compile ok log) = refl
  compile_gives name answer = refl

  link_gives : (name : _) (answer : Answer) → (after_link t name answer).given ≡ t.given
  link_gives name (Link a) = refl
  link_gives name answer = refl

  validate_gives : (name : _) (answer : Answer) → (after_validate t name answer).given ≡ t.given
  validate_gives name (Validate ok log) = refl
  validate_gives name answer = refl

  drawing_gives : (call : DrawDriver) → (after_drawing t call).given ≡ t.given
  drawing_gives (SetRaster number words) = refl
  drawing_gives call = refl

  -- a call whose answer is no name gives none
  pub none_given : (call : DriverCall) (answer : Answer) → is_name answer ≡ false → (tables_after t call answer).given ≡ t.given
  none_given (Object GenBuffer) answer other = gen_gives Buffers answer other
  none_given (Object (BufferData target bytes usage)) answer other = data_gives target bytes usage answer
  none_given (Object GenTexture) answer other = gen_gives Textures answer other
  none_given (Object GenRenderbuffer) answer other = gen_gives Renderbuffers answer other
  none_given (Object GenFramebuffer) answer other = gen_gives Framebuffers answer other
  none_given (Object call) answer other = refl
  none_given (Image call) answer other = image_gives call answer
  none_given (Program (CreateShader kind)) answer other = create_gives (λ n. create_shader_effect t.programs n n kind) answer other
  none_given (Program CreateProgram) answer other = create_gives (λ n. create_program_effect t.programs n n) answer other
  none_given (Program (CompileShader name)) answer other = compile_gives name answer
  none_given (Program (LinkProgram name)) answer other = link_gives name answer
  none_given (Program (ValidateProgram name)) answer other = validate_gives name answer
  none_given (Program call) answer other = refl
  none_given (Draw call) answer other = drawing_gives call

-- a name above the last one given is new, and with it those above it are
pub still_new : (given : set.FinSet nat_cmp) (last name : ℕ) → ((n : ℕ) → last < n → set.contains given n ≡ false) → name ≡ last + 1 → (n : ℕ) → name < n → set.contains (set.insert given name) n ≡ false
still_new given last name new is n above =
    let apart : eq_by_cmp nat_cmp n name ≡ false = elim (test n name) [ inl p ↦ absurd (let same : n ≡ name = p.0 in omega arith) | inr p ↦ p.1 ] in
    let beyond : last < n = omega arith in
    set.contains-insert nat_cmp_total given name n ∙ ap (λ b. b || set.contains given n) apart ∙ new n beyond
