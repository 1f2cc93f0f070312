-- What the first of a command's driver calls record is the first of what the command records: nothing, where it is not drawn or cleared yet.
use Rattle.std.proofs.Common.{◌≡◌, inl, inr, ℕ, ◌==◌, Bool, true, false, if◌then◌else◌, List, [], ◌∷◌, ◌++◌, Option, None, Some, Result, Ok, Err, refl, sym, ap, ◌∙◌, subst}
use Rattle.std.specs.FinMap as map
use Rattle.gl_plain.specs.declared.commands.Command.{Command}
use Rattle.gl_plain.specs.declared.commands.Command.TheVariants.{Noop, SetToken, Bucket, Object, Image, Draw, Query}
use Rattle.gl_plain.specs.declared.commands.DrawCommand.{DrawCommand}
use Rattle.gl_plain.specs.declared.commands.DrawCommand.TheVariants.{ActiveTexture, Raster, Clear, DrawArrays, DrawElements, Flush, Finish}
use Rattle.gl_plain.specs.declared.commands.ImageCommand.{ImageCommand}
use Rattle.gl_plain.specs.declared.commands.ImageCommand.TheVariants as images
use Rattle.gl_plain.specs.declared.commands.ObjectCommand.{ObjectCommand}
use Rattle.gl_plain.specs.declared.commands.ObjectCommand.TheVariants as objects
use Rattle.gl_plain.specs.declared.draws.DrawPlan.{DrawPlan}
use Rattle.gl_plain.specs.declared.driver_calls.Answer.{Answer}
use Rattle.gl_plain.specs.declared.driver_calls.DriverCall.{DriverCall}
use Rattle.gl_plain.specs.declared.driver_calls.DriverCall.TheVariants as driver
use Rattle.gl_plain.specs.declared.driver_calls.DriverEntry.{DriverEntry}
use Rattle.gl_plain.specs.declared.errors.GlError.{GlError}
use Rattle.gl_plain.specs.declared.objects.Name.{Name}
use Rattle.gl_plain.specs.declared.programs.Program.{Program}
use Rattle.gl_plain.specs.subjects.Images.{Contents, read_contents}
use Rattle.gl_plain.specs.subjects.Programs.{ProgramTables, number_of, program_at}
use Rattle.gl_plain.specs.subjects.Raster.{is_driver_raster}
use Rattle.gl_plain.specs.subjects.Uniforms.{is_nowhere}
use Rattle.gl_plain.specs.subjects.Draws.{Sources, check_arrays, check_indexed}
use Rattle.gl_plain.specs.Oracle.{Oracle, first}
use Rattle.gl_plain.specs.State.{EsState, WireState, DriverState, sources_of}
use Rattle.gl_plain.specs.Spaces.{Space, Buffers, Textures, Renderbuffers, Framebuffers, gen_call, numbers_in}
use Rattle.gl_plain.specs.Wire.{is_bad, calls_by, command_calls, command_refusal, own_calls, whole_first}
use Rattle.gl_plain.specs.Journal.{IsLegal, records_in, entry_after, state_after}
use Rattle.gl_plain.specs.Parts.{calls_in}
use Rattle.gl_plain.specs.Records.{Record, call_records, own_records, records_by, step_records}
use Rattle.gl_plain.specs.Agreement.{Agrees}
use Rattle.gl_plain.specs.draw.Calls.{drawing_calls, own_draw_calls}
use Rattle.gl_plain.specs.object.Calls.{bind_buffer_call, bind_framebuffer_call, bind_renderbuffer_call, bind_calls, bind_texture_call, link_program_calls, validate_program_calls, own_object_calls}
use Rattle.gl_plain.specs.image.Calls.{own_image_calls}
use Rattle.gl_plain.specs.query.Calls.{own_query_calls}
use Rattle.gl_plain.specs.driver.Answers.{told}
use Rattle.gl_plain.specs.subjects.Targets.{delete_calls}
use Rattle.gl_plain.specs.subjects.Copies.{copy_rect, reads_nothing}
use Rattle.gl_base.specs.Rects.{is_empty}
use Rattle.gl_plain.specs.declared.driver_calls.ObjectDriver.TheVariants as calls
use Rattle.gl_plain.specs.declared.commands.QueryCommand.{QueryCommand}
use Rattle.gl_plain.specs.declared.commands.QueryCommand.TheVariants.{ReadPixels, GetError, Words, Bytes}
use Rattle.gl_plain.specs.subjects.Buffers.{delete_buffers_calls}
use Rattle.gl_plain.specs.subjects.Textures.{delete_textures_calls}
use Rattle.gl_laws.proofs.Lists.{records-append}
use Rattle.gl_laws.proofs.Zeroing.{front_of_two, zeroings_record_nothing}
use Rattle.gl_laws.proofs.Lists.{legal_split}
use Rattle.gl_laws.proofs.Joined.{Behind, OwnLaws, behind_zeroings, told_behind, zeroed_left, zeroings_of}
use Rattle.gl_laws.proofs.Commands.{own_laws}

-- these records are the first of all
abbrev pub AreFirst : List Record → List Record → Type 0
AreFirst made all = (rest : List Record) × (all ≡ made ++ rest)

pub none_first : (all : List Record) → AreFirst [] all
none_first all = (all, refl)

-- behind no call nothing was recorded
pub nothing_first : (d : DriverState) (es : List DriverEntry) (more : List DriverCall) (all : List Record) → calls_in es ++ more ≡ [] → AreFirst (records_in d es) all
nothing_first d [] more all h = none_first all
nothing_first d (e ∷ es) more all h = absurd (cc)

-- Calls that record nothing

abbrev IsSilent : DriverCall → Type 0
IsSilent (driver.Object call) = Unit {0}
IsSilent (driver.Image call) = ⊥
IsSilent (driver.Program call) = Unit {0}
IsSilent (driver.Draw call) = ⊥

abbrev AreSilent : List DriverCall → Type 0
AreSilent [] = Unit {0}
AreSilent (c ∷ cs) = IsSilent c × AreSilent cs

no_record : (d : DriverState) (c : DriverCall) (answer : Answer) → IsSilent c → call_records d c answer ≡ []
no_record d (driver.Object call) answer h = refl
no_record d (driver.Image call) answer h = absurd h
no_record d (driver.Program call) answer h = refl
no_record d (driver.Draw call) answer h = absurd h

-- the first of them neither
silent_first : (d : DriverState) (es : List DriverEntry) (more : List DriverCall) → AreSilent (calls_in es ++ more) → records_in d es ≡ []
silent_first d [] more h = refl
silent_first d (e ∷ es) more h = λ i. no_record d e.call e.answer h.0 i ++ silent_first (entry_after d e) es more h.1 i

silent_gen : (space : Space) → IsSilent (gen_call space)
silent_gen Buffers = tt
silent_gen Textures = tt
silent_gen Renderbuffers = tt
silent_gen Framebuffers = tt

silent_bind : (space : Space) (bind : ℕ → DriverCall) → ((n : ℕ) → IsSilent (bind n)) → (id : ℕ) (o : Oracle) (x : Option Name) → AreSilent (bind_calls space bind id o x)
silent_bind space bind silent id o (Some x) = (silent x.number, tt)
silent_bind space bind silent id o None = elim (id == 0) as (λ b. AreSilent (if b then bind 0 ∷ [] else gen_call space ∷ bind (first (numbers_in space o)) ∷ [])) [
  | true ↦ (silent 0, tt)
  | false ↦ (silent_gen space, (silent (first (numbers_in space o)), tt))
]

silent_if : (b : Bool) (c : DriverCall) → IsSilent c → AreSilent (if b then c ∷ [] else [])
silent_if true c h = (h, tt)
silent_if false c h = tt

silent_unless : (b : Bool) (c : DriverCall) → IsSilent c → AreSilent (if b then [] else c ∷ [])
silent_unless true c h = tt
silent_unless false c h = (h, tt)

silent_delete : (x : Option Name) → AreSilent (delete_buffers_calls x)
silent_delete None = tt
silent_delete (Some x) = (tt, tt)

silent_delete_named : (call : ℕ → DriverCall) → ((n : ℕ) → IsSilent (call n)) → (x : Option Name) → AreSilent (delete_calls call x)
silent_delete_named call silent None = tt
silent_delete_named call silent (Some x) = (silent x.number, tt)

silent_delete_textures : (x : Option Name) → AreSilent (delete_textures_calls x)
silent_delete_textures None = tt
silent_delete_textures (Some x) = (tt, tt)

silent_link : (t : ProgramTables) (number : ℕ) (p : Option Program) → AreSilent (link_program_calls t number p)
silent_link t number None = tt
silent_link t number (Some p) = silent_if _ _ tt

silent_validate : (number : ℕ) (p : Option Program) → AreSilent (validate_program_calls number p)
silent_validate number None = tt
silent_validate number (Some p) = silent_if _ _ tt

-- the calls of the commands on objects, shaders and programs
objects_silent : (s : EsState) (c : ObjectCommand) (payload : List ℕ) (o : Oracle) → AreSilent (own_object_calls s c payload o)
objects_silent s (objects.BindBuffer target id) payload o = silent_bind Buffers (bind_buffer_call target) (λ n. tt) id o (map.get s.buffers.names id)
objects_silent s (objects.DeleteBuffers id) payload o = silent_delete (map.get s.buffers.names id)
objects_silent s (objects.BindTexture target id) payload o = silent_bind Textures (bind_texture_call target) (λ n. tt) id o (map.get s.textures.names id)
objects_silent s (objects.DeleteTextures id) payload o = silent_delete_textures (map.get s.textures.names id)
objects_silent s (objects.BindRenderbuffer target id) payload o = silent_bind Renderbuffers bind_renderbuffer_call (λ n. tt) id o (map.get s.renderbuffers.names id)
objects_silent s (objects.DeleteRenderbuffers id) payload o = silent_delete_named (λ n. driver.Object (calls.DeleteRenderbuffer n)) (λ n. tt) (map.get s.renderbuffers.names id)
objects_silent s (objects.BindFramebuffer target id) payload o = silent_bind Framebuffers bind_framebuffer_call (λ n. tt) id o (map.get s.framebuffers.names id)
objects_silent s (objects.DeleteFramebuffers id) payload o = silent_delete_named (λ n. driver.Object (calls.DeleteFramebuffer n)) (λ n. tt) (map.get s.framebuffers.names id)
objects_silent s (objects.DeleteShader shader) payload o = silent_unless (shader == 0) _ tt
objects_silent s (objects.DeleteProgram program) payload o = silent_unless (program == 0) _ tt
objects_silent s (objects.LinkProgram program) payload o = silent_link s.programs (number_of s.programs program) (program_at s.programs program)
objects_silent s (objects.ValidateProgram program) payload o = silent_validate (number_of s.programs program) (program_at s.programs program)
objects_silent s (objects.Uniform location kind count transpose words) payload o = silent_unless (is_nowhere location) _ tt
objects_silent s c payload o = (tt, tt)

-- Calls on images, and calls that draw or clear

-- there is at most one
abbrev AreFew : List DriverCall → Type 0
AreFew calls = (x : DriverCall) (xs : List DriverCall) → x ∷ xs ≡ calls → xs ≡ []

few_if : (b : Bool) (c : DriverCall) → AreFew (if b then c ∷ [] else [])
few_if true c x xs h = cc
few_if false c x xs h = absurd (cc)

few_unless : (b : Bool) (c : DriverCall) → AreFew (if b then [] else c ∷ [])
few_unless true c x xs h = absurd (cc)
few_unless false c x xs h = cc

few_drawing : (call : ℕ → DriverCall) (r : Result DrawPlan GlError) → AreFew (drawing_calls call r)
few_drawing call (Err e) x xs h = absurd (cc)
few_drawing call (Ok plan) x xs h = few_if plan.draw (call plan.black) x xs h

draws_few : (s : Sources) (c : DrawCommand) → AreFew (own_draw_calls s c)
draws_few s (ActiveTexture unit) = λ x xs h. cc
draws_few s (Raster number words) = few_if (is_driver_raster number) _
draws_few s (Clear mask) = few_unless (mask == 0) _
draws_few s (DrawArrays mode first count) = few_drawing _ (check_arrays s mode first count)
draws_few s (DrawElements mode count kind offset) = few_drawing _ (check_indexed s mode count kind offset)
draws_few s Flush = λ x xs h. absurd (cc)
draws_few s Finish = λ x xs h. absurd (cc)

few_one : (c : DriverCall) → AreFew (c ∷ [])
few_one c x xs h = cc

images_few : (s : EsState) (c : ImageCommand) (payload : List ℕ) → AreFew (own_image_calls s c payload)
images_few s (images.TexImage2D i words) payload = few_one _
images_few s (images.TexSubImage2D part words) payload = few_one _
images_few s (images.CopyTexImage2D copy) payload = few_one _
images_few s (images.CopyTexSubImage2D copy) payload = few_unless (is_empty (copy_rect copy)) _
images_few s (images.TexParameteri target pname value) payload = few_one _
images_few s (images.GenerateMipmap target) payload = few_one _
images_few s (images.RenderbufferStorage target format width height) payload = few_one _

queries_few : (s : EsState) (c : QueryCommand) → AreFew (own_query_calls s c)
queries_few s (ReadPixels words bucket) = few_unless (reads_nothing words) _
queries_few s GetError = λ x xs h. absurd (cc)
queries_few s (Words query) = λ x xs h. absurd (cc)
queries_few s (Bytes query bucket) = λ x xs h. absurd (cc)

no_more : (xs ys : List DriverCall) → xs ++ ys ≡ [] → ys ≡ []
no_more [] ys h = h
no_more (x ∷ xs) ys h = absurd (cc)

append_none : (xs ys : List DriverCall) → ys ≡ [] → xs ≡ xs ++ ys
append_none [] ys h = sym h
append_none (x ∷ xs) ys h = ap (λ (z : List DriverCall). x ∷ z) (append_none xs ys h)

append_no_record : (made : List Record) → made ≡ made ++ []
append_no_record [] = refl
append_no_record (r ∷ made) = ap (λ (z : List Record). r ∷ z) (append_no_record made)

-- where nothing was recorded and nothing is
no_records : (d : DriverState) (es : List DriverEntry) → records_in d es ≡ [] → AreFirst (records_in d es) []
no_records d es none = ([], sym none ∙ append_no_record (records_in d es))

-- Behind the zeroings

module _ (w : WireState) (c : Command) (payload : List ℕ) (laws : OwnLaws w c payload) (d : DriverState) (b : Behind w d c) (o : Oracle) where
  abbrev IsOwnFront : List DriverEntry → Type 0
  IsOwnFront es = AreFirst (records_in d es) (own_records w.es c payload (told es o) (read_contents d.contents))

  -- where there is at most one call, whatever is answered
  few_first : (all : List DriverCall) → AreFew all → ((z : Oracle) → own_calls w c payload z ≡ all) → (es : List DriverEntry) (more : List DriverCall) → IsLegal d es → calls_in es ++ more ≡ all → IsOwnFront es
  few_first all few same [] more l h = none_first _
  few_first all few same (e ∷ es) more l h =
      let none : more ≡ [] = no_more (calls_in es) more (few e.call (calls_in es ++ more) h) in
      let whole : calls_in (e ∷ es) ≡ all = append_none (calls_in (e ∷ es)) more none ∙ h in
      ([], sym (laws.leaves d b o (e ∷ es) l (whole ∙ sym (same (told (e ∷ es) o)))).records ∙ append_no_record (records_in d (e ∷ es)))

module _ (w : WireState) (d : DriverState) where
  -- the own calls of a command
  own_first : (c : Command) (payload : List ℕ) → OwnLaws w c payload → Behind w d c → (z : Oracle) (es : List DriverEntry) (more : List DriverCall) → calls_in es ++ more ≡ own_calls w c payload z → (o : Oracle) → IsLegal d es
      → AreFirst (records_in d es) (own_records w.es c payload (told es o) (read_contents d.contents))
  own_first (Object c) payload laws b z es more h o l = no_records d es (silent_first d es more (subst AreSilent (sym h) (objects_silent w.es c payload z)))
  own_first (Image c) payload laws b z es more h o l = few_first w (Image c) payload laws d b o (own_image_calls w.es c payload) (images_few w.es c payload) (λ z. refl) es more l h
  own_first (Draw c) payload laws b z es more h o l = few_first w (Draw c) payload laws d b o (own_draw_calls (sources_of w.es) c) (draws_few (sources_of w.es) c) (λ z. refl) es more l h
  own_first (Query c) payload laws b z es more h o l = few_first w (Query c) payload laws d b o (own_query_calls w.es c) (queries_few w.es c) (λ z. refl) es more l h
  own_first Noop payload laws b z es more h o l = nothing_first d es more [] h
  own_first (SetToken token) payload laws b z es more h o l = nothing_first d es more [] h
  own_first (Bucket c) payload laws b z es more h o l = nothing_first d es more [] h

-- All calls

module _ (w : WireState) (d : DriverState) (a : Agrees w d) (c : Command) (payload : List ℕ) (fair : is_bad w c ≡ false) where
  -- the zeroings record nothing, and the own calls what the command records
  joined_first : command_refusal w.es c payload ≡ None → (z : Oracle) (xs ys : List DriverEntry) (more : List DriverCall) → calls_in xs ≡ zeroings_of w c → calls_in ys ++ more ≡ own_calls w c payload z → (o : Oracle) → IsLegal d (xs ++ ys)
      → AreFirst (records_in d (xs ++ ys)) (own_records w.es c payload (told (xs ++ ys) o) (read_contents d.contents))
  joined_first is z xs ys more are h o l =
      let zeros = zeroed_left w d a c payload is xs are in
      let made : records_in d (xs ++ ys) ≡ records_in (state_after d xs) ys = records-append d xs ys ∙ ap (λ (r : List Record). r ++ records_in (state_after d xs) ys) zeros.records in
      subst (λ (t : Oracle). AreFirst (records_in d (xs ++ ys)) (own_records w.es c payload t (read_contents d.contents))) (sym (told_behind w d a c payload is xs ys are o))
      (subst (λ (r : List Record). AreFirst r (own_records w.es c payload (told ys o) (read_contents d.contents))) (sym made)
      (subst (λ (k : Contents). AreFirst (records_in (state_after d xs) ys) (own_records w.es c payload (told ys o) k)) zeros.reads
      (own_first w (state_after d xs) c payload (own_laws w a.aligned c payload fair is) (behind_zeroings w d a c payload is xs are) z ys more h o (legal_split d xs ys l).1)))

  first_by : (r : Option GlError) → command_refusal w.es c payload ≡ r → (z : Oracle) (es : List DriverEntry) (more : List DriverCall) → calls_in es ++ more ≡ calls_by r w c payload z → (o : Oracle) → IsLegal d es
      → AreFirst (records_in d es) (records_by r w.es c payload (told es o) (read_contents d.contents))
  first_by (Some e) is z es more h o l = nothing_first d es more [] h
  first_by None is z es more h o l = elim (front_of_two (zeroings_of w c) (own_calls w c payload z) es more h) [
    | inl p ↦ subst (λ (made : List Record). AreFirst made (own_records w.es c payload (told es o) (read_contents d.contents))) (sym (zeroings_record_nothing w.es.textures.objects w.covers w.marks d (whole_first w c) es p.0 p.1)) (none_first _)
    | inr p ↦ subst (λ (gs : List DriverEntry). AreFirst (records_in d gs) (own_records w.es c payload (told gs o) (read_contents d.contents))) (sym p.2) (joined_first is z p.0 p.1 more p.3 p.4 o (subst (IsLegal d) p.2 l))
  ]

  -- what the first calls of a command record, as they were answered, is the first of what it records, whatever is answered behind them
  pub front_records : (z : Oracle) (es : List DriverEntry) (more : List DriverCall) → calls_in es ++ more ≡ command_calls w c payload z → (o : Oracle) → IsLegal d es
      → AreFirst (records_in d es) (step_records w.es c payload (told es o) (read_contents d.contents))
  front_records z es more h o l = first_by (command_refusal w.es c payload) refl z es more h o l
