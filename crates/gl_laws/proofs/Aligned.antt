-- The alignment of rows that TexImage2D and TexSubImage2D read stays 1, 2, 4 or 8 (section 3.6.1): PixelStorei alone sets it, and refuses any other.
use Rattle.std.proofs.Common.{◌≡◌, ℕ, ◌==◌, Bool, true, false, not, if◌then◌else◌, List, [], ◌∷◌, Option, None, Some, refl, sym, ap, ◌∙◌, subst, inl, inr}
use Rattle.std.specs.Prelude.{slice_index, is_some}
use Rattle.std.specs.FinMap as map
use Rattle.std.proofs.lemmas.Bool.Decides.{eqb_tells}
use Rattle.gl_plain.specs.declared.numbers.TheConstants.{PIXEL_STOREI}
use Rattle.gl_base.specs.declared.raster_enums.TheConstants as enums
use Rattle.gl_plain.specs.declared.commands.DrawCommand.{DrawCommand}
use Rattle.gl_plain.specs.declared.commands.DrawCommand.TheVariants.{ActiveTexture, Raster, Clear, DrawArrays, DrawElements, Flush, Finish}
use Rattle.gl_plain.specs.declared.commands.ImageCommand.{ImageCommand}
use Rattle.gl_plain.specs.declared.commands.ImageCommand.TheVariants.{TexImage2D, TexSubImage2D, CopyTexImage2D, CopyTexSubImage2D, TexParameteri, GenerateMipmap, RenderbufferStorage}
use Rattle.gl_plain.specs.declared.commands.ObjectCommand.{ObjectCommand}
use Rattle.gl_plain.specs.declared.commands.ObjectCommand.TheVariants as objects
use Rattle.gl_plain.specs.declared.driver_calls.Stored.{Stored}
use Rattle.gl_plain.specs.declared.driver_calls.Stored.TheVariants as room
use Rattle.gl_plain.specs.declared.errors.GlError.TheVariants.{InvalidEnum, InvalidValue}
use Rattle.gl_plain.specs.declared.objects.Name.{Name}
use Rattle.gl_plain.specs.declared.programs.Program.{Program}
use Rattle.gl_plain.specs.declared.raster.Alignments.{Alignments}
use Rattle.gl_plain.specs.declared.raster.WordRule.TheVariants.{Alignment}
use Rattle.gl_plain.specs.subjects.Buffers.{BufferTables, bind_buffer_effect, buffer_data_effect}
use Rattle.gl_plain.specs.subjects.Data.{bytes_of, payload_of}
use Rattle.gl_plain.specs.subjects.Images.{tex_image_effect, view_of}
use Rattle.gl_plain.specs.subjects.Copies.{copy_image}
use Rattle.gl_plain.specs.subjects.Targets.{RenderbufferTables, bind_effect, new_framebuffer, new_renderbuffer, renderbuffer_storage_effect, storage_view}
use Rattle.gl_plain.specs.subjects.Textures.{TextureObjects, bind_texture_effect}
use Rattle.gl_plain.specs.subjects.Programs.{ProgramTables, can_link, delete_program_effect, delete_shader_effect, failed_link, link_program_effect, number_of, program_at, validate_program_effect, validate_unlinked_effect}
use Rattle.gl_plain.specs.subjects.Raster.{IsAligned, alignment_effect, any_word, is_wrong_enum, is_wrong_value, kept_words, raster_refusal, rules_of}
use Rattle.gl_plain.specs.Words.{natural}
use Rattle.gl_plain.specs.Oracle.{Oracle, first, behind}
use Rattle.gl_plain.specs.Spaces.{Space, Buffers, Textures, Renderbuffers, Framebuffers, numbers_in, with_name, with_numbers}
use Rattle.gl_plain.specs.State.{EsState, sources_of}
use Rattle.gl_plain.specs.Outcome.{Outcome, leaves}
use Rattle.gl_plain.specs.draw.Refusal.{draw_command_refusal}
use Rattle.gl_plain.specs.draw.Step.{draw_effect}
use Rattle.gl_plain.specs.image.Step.{image_step, image_stored, storage_stored}
use Rattle.gl_plain.specs.object.Step.{bind_outcome, buffer_deleted_by, delete_outcome, link_outcome, object_step, store_outcome, validate_outcome, with_programs}
use Rattle.gl_laws.proofs.Refusals.{or_false, none_refused}

-- Commands on the fixed state

-- the word of PixelStorei is kept as it is
stored_word : (a : Alignments) (words : List ℕ) → IsAligned a → any_word is_wrong_value (rules_of PIXEL_STOREI) words ≡ false → IsAligned (alignment_effect a PIXEL_STOREI (kept_words PIXEL_STOREI words))
stored_word a [] before h = absurd (cc)
stored_word a (name ∷ []) before h = absurd (cc)
stored_word a (name ∷ word ∷ more) before h = elim (name == enums.UNPACK_ALIGNMENT.0) as (λ b. IsAligned (if b then record a { unpack = word } else record a { pack = word })) [
  | true ↦ record { unpack = (or_false (is_wrong_value Alignment word) false h).0; pack = before.pack }
  | false ↦ record { unpack = before.unpack; pack = (or_false (is_wrong_value Alignment word) false h).0 }
]

raster_aligned : (a : Alignments) (number : ℕ) (words : List ℕ) → IsAligned a → raster_refusal number words ≡ None → IsAligned (alignment_effect a number (kept_words number words))
raster_aligned a number words before allowed = elim (eqb_tells number PIXEL_STOREI) [
  | inl p ↦ subst (λ (n : ℕ). IsAligned (alignment_effect a n (kept_words n words))) (sym p.1)
      (stored_word a words before (none_refused (any_word is_wrong_enum (rules_of PIXEL_STOREI) words) (any_word is_wrong_value (rules_of PIXEL_STOREI) words) InvalidEnum InvalidValue (ap (λ n. raster_refusal n words) (sym p.1) ∙ allowed)).1)
  | inr p ↦ subst (λ (b : Bool). IsAligned (if not b then a else if slice_index (kept_words number words) 0 == enums.UNPACK_ALIGNMENT.0 then record a { unpack = slice_index (kept_words number words) 1 } else record a { pack = slice_index (kept_words number words) 1 })) (sym p.0) before
]

pub draw_aligned : (s : EsState) (c : DrawCommand) → IsAligned s.alignments → draw_command_refusal (sources_of s) c ≡ None → IsAligned (draw_effect s c).alignments
draw_aligned s (ActiveTexture unit) before allowed = before
draw_aligned s (Raster number words) before allowed = raster_aligned s.alignments number words before allowed
draw_aligned s (Clear mask) before allowed = before
draw_aligned s (DrawArrays mode start count) before allowed = before
draw_aligned s (DrawElements mode count kind offset) before allowed = before
draw_aligned s Flush before allowed = before
draw_aligned s Finish before allowed = before

-- Commands on images

abbrev SameAlignments : EsState → Outcome EsState → Type 0
SameAlignments s out = out.state.alignments ≡ s.alignments

image_stored_alignments : (s : EsState) (t : TextureObjects) (o : Oracle) (answer : Stored) → SameAlignments s (image_stored s t o answer)
image_stored_alignments s t o room.Done = refl
image_stored_alignments s t o room.Oom = refl

storage_stored_alignments : (s : EsState) (r : RenderbufferTables) (o : Oracle) (answer : Stored) → SameAlignments s (storage_stored s r o answer)
storage_stored_alignments s r o room.Done = refl
storage_stored_alignments s r o room.Oom = refl

pub image_alignments : (s : EsState) (c : ImageCommand) (payload : List ℕ) (o : Oracle) → SameAlignments s (image_step s c payload o)
image_alignments s (TexImage2D i words) payload o = image_stored_alignments s (tex_image_effect s.textures.objects i.target (natural i.level) (view_of i)) o (first o.stored)
image_alignments s (TexSubImage2D part words) payload o = refl
image_alignments s (CopyTexImage2D copy) payload o = image_stored_alignments s (tex_image_effect s.textures.objects copy.target (natural copy.level) (view_of (copy_image copy))) o (first o.stored)
image_alignments s (CopyTexSubImage2D copy) payload o = refl
image_alignments s (TexParameteri target pname value) payload o = refl
image_alignments s (GenerateMipmap target) payload o = refl
image_alignments s (RenderbufferStorage target format width height) payload o = storage_stored_alignments s (renderbuffer_storage_effect s.renderbuffers (storage_view format width height)) o (first o.stored)

-- Commands on objects

module _ (s : EsState) where
  -- a bind leaves the alignments as they are, and so does a name that comes into use
  named_alignments : (space : Space) (id number : ℕ) → (with_name space id number s).alignments ≡ s.alignments
  named_alignments Buffers id number = refl
  named_alignments Textures id number = refl
  named_alignments Renderbuffers id number = refl
  named_alignments Framebuffers id number = refl

  bind_alignments : (space : Space) (bind : EsState → EsState) → ((t : EsState) → (bind t).alignments ≡ t.alignments) → (id : ℕ) (o : Oracle) (x : Option Name) → SameAlignments s (bind_outcome space bind s id o x)
  bind_alignments space bind same id o (Some x) = same s
  bind_alignments space bind same id o None = elim (id == 0) as (λ b. (if b then leaves (bind s) o else leaves (bind (with_name space id (first (numbers_in space o)) s)) (with_numbers space (behind (numbers_in space o)) o)).state.alignments ≡ s.alignments) [
    | true ↦ same s
    | false ↦ same (with_name space id (first (numbers_in space o)) s) ∙ named_alignments space id (first (numbers_in space o))
  ]

  store_alignments : (t : BufferTables) (o : Oracle) (answer : Stored) → SameAlignments s (store_outcome s t o answer)
  store_alignments t o room.Done = refl
  store_alignments t o room.Oom = refl

  deleted_alignments : (id : ℕ) (x : Option Name) → (buffer_deleted_by s id x).alignments ≡ s.alignments
  deleted_alignments id None = refl
  deleted_alignments id (Some x) = refl

  delete_alignments : (delete : ℕ → ProgramTables) (id : ℕ) (o : Oracle) → SameAlignments s (delete_outcome delete s id o)
  delete_alignments delete id o = elim (id == 0) as (λ b. (if b then leaves s o else leaves (with_programs s (delete (number_of s.programs id))) o).state.alignments ≡ s.alignments) [ true ↦ refl | false ↦ refl ]

  link_alignments : (number : ℕ) (p : Option Program) (o : Oracle) → SameAlignments s (link_outcome s number p o)
  link_alignments number None o = refl
  link_alignments number (Some p) o = elim (can_link s.programs.shaders p.attached) as (λ b. (if b then leaves (with_programs s (link_program_effect s.programs number (first o.link))) (record o { link = behind o.link })
      else leaves (with_programs s (link_program_effect s.programs number failed_link)) o).state.alignments ≡ s.alignments) [ true ↦ refl | false ↦ refl ]

  validate_alignments : (number : ℕ) (p : Option Program) (o : Oracle) → SameAlignments s (validate_outcome s number p o)
  validate_alignments number None o = refl
  validate_alignments number (Some p) o = elim (is_some p.executable) as (λ b. (if b then leaves (with_programs s (validate_program_effect s.programs number (first o.validate))) (record o { validate = behind o.validate })
      else leaves (with_programs s (validate_unlinked_effect s.programs number)) o).state.alignments ≡ s.alignments) [ true ↦ refl | false ↦ refl ]

  pub object_alignments : (c : ObjectCommand) (payload : List ℕ) (o : Oracle) → SameAlignments s (object_step s c payload o)
  object_alignments (objects.BindBuffer target id) payload o = bind_alignments Buffers (λ t. record t { buffers = bind_buffer_effect t.buffers target id }) (λ t. refl) id o (map.get s.buffers.names id)
  object_alignments (objects.BufferData target size usage words) payload o = store_alignments (buffer_data_effect s.buffers target (bytes_of (payload_of words payload) size) usage) o (first o.stored)
  object_alignments (objects.DeleteBuffers id) payload o = deleted_alignments id (map.get s.buffers.names id)
  object_alignments (objects.BindTexture target id) payload o = bind_alignments Textures (λ t. record t { textures = bind_texture_effect t.textures target id }) (λ t. refl) id o (map.get s.textures.names id)
  object_alignments (objects.BindRenderbuffer target id) payload o = bind_alignments Renderbuffers (λ t. record t { renderbuffers = bind_effect new_renderbuffer t.renderbuffers id }) (λ t. refl) id o (map.get s.renderbuffers.names id)
  object_alignments (objects.BindFramebuffer target id) payload o = bind_alignments Framebuffers (λ t. record t { framebuffers = bind_effect new_framebuffer t.framebuffers id }) (λ t. refl) id o (map.get s.framebuffers.names id)
  object_alignments (objects.DeleteShader shader) payload o = delete_alignments (delete_shader_effect s.programs) shader o
  object_alignments (objects.DeleteProgram program) payload o = delete_alignments (delete_program_effect s.programs) program o
  object_alignments (objects.LinkProgram program) payload o = link_alignments (number_of s.programs program) (program_at s.programs program) o
  object_alignments (objects.ValidateProgram program) payload o = validate_alignments (number_of s.programs program) (program_at s.programs program) o
  object_alignments c payload o = refl
