-- Which commands on objects leave the textures and the renderbuffers as they are.
use Rattle.std.proofs.Common.{◌≡◌, ℕ, Bool, true, false, ◌==◌, if◌then◌else◌, List, Option, None, Some, is_some, refl}
use Rattle.std.specs.FinMap as map
use Rattle.gl_plain.specs.declared.objects.Name as names
use Rattle.gl_plain.specs.declared.programs.Program.{Program}
use Rattle.gl_plain.specs.declared.commands.ObjectCommand.{ObjectCommand}
use Rattle.gl_plain.specs.declared.commands.ObjectCommand.TheVariants.{BindBuffer, BufferData, DeleteBuffers, BindTexture, DeleteTextures, BindRenderbuffer, DeleteRenderbuffers, BindFramebuffer, DeleteShader, LinkProgram, ValidateProgram, DeleteProgram}
use Rattle.gl_plain.specs.declared.driver_calls.Stored.{Stored}
use Rattle.gl_plain.specs.declared.driver_calls.Stored.TheVariants as room
use Rattle.gl_plain.specs.subjects.Buffers.{BufferTables, bind_buffer_effect, buffer_data_effect}
use Rattle.gl_plain.specs.subjects.Data.{bytes_of, payload_of}
use Rattle.gl_plain.specs.subjects.Programs.{number_of, program_at, can_link, delete_shader_effect, delete_program_effect}
use Rattle.gl_plain.specs.subjects.Textures.{TextureObjects}
use Rattle.gl_plain.specs.subjects.Targets.{Renderbuffers, bind_effect, new_framebuffer}
use Rattle.gl_plain.specs.Oracle.{Oracle, first}
use Rattle.gl_plain.specs.State.{EsState}
use Rattle.gl_plain.specs.Spaces.{Space, Buffers, Framebuffers, with_name}
use Rattle.gl_plain.specs.Outcome.{Outcome, leaves}
use Rattle.gl_plain.specs.object.Step.{object_step, bind_outcome, store_outcome, buffer_deleted_by, with_programs, link_outcome, validate_outcome}

-- the objects that have images
abbrev pub imaged : EsState → TextureObjects × Renderbuffers
imaged s = (s.textures.objects, s.renderbuffers.objects)

-- a part of the state that both outcomes of a test leave as it was
pub either_keeps : {X : Type 0} (part : EsState → X) (was : X) (b : Bool) (x y : Outcome EsState) → part x.state ≡ was → part y.state ≡ was → part (if b then x else y).state ≡ was
either_keeps part was true x y e g = e
either_keeps part was false x y e g = g

-- all but those that bind or delete a texture or a renderbuffer
abbrev pub IsOther : ObjectCommand → Type 0
IsOther (BindTexture target id) = ⊥
IsOther (DeleteTextures id) = ⊥
IsOther (BindRenderbuffer target id) = ⊥
IsOther (DeleteRenderbuffers id) = ⊥
IsOther c = Unit {0}

module _ (s : EsState) (o : Oracle) where
  -- a bind that leaves a part as it is, of a name that is not in that part
  pub bind_keeps : {X : Type 0} (part : EsState → X) (space : Space) (bind : EsState → EsState) (id : ℕ) → part (bind s) ≡ part s → ((n : ℕ) → part (bind (with_name space id n s)) ≡ part s) → (found : Option names.Name)
      → part (bind_outcome space bind s id o found).state ≡ part s
  bind_keeps part space bind id same named (Some x) = same
  bind_keeps part space bind id same named None = either_keeps part (part s) (id == 0) _ _ same (named _)

  store_keeps : (t : BufferTables) (r : Stored) → imaged (store_outcome s t o r).state ≡ imaged s
  store_keeps t room.Done = refl
  store_keeps t room.Oom = refl

  delete_keeps : (id : ℕ) (found : Option names.Name) → imaged (buffer_deleted_by s id found) ≡ imaged s
  delete_keeps id None = refl
  delete_keeps id (Some x) = refl

  link_keeps : (number : ℕ) (found : Option Program) → imaged (link_outcome s number found o).state ≡ imaged s
  link_keeps number None = refl
  link_keeps number (Some p) = either_keeps imaged (imaged s) (can_link s.programs.shaders p.attached) _ _ refl refl

  validate_keeps : (number : ℕ) (found : Option Program) → imaged (validate_outcome s number found o).state ≡ imaged s
  validate_keeps number None = refl
  validate_keeps number (Some p) = either_keeps imaged (imaged s) (is_some p.executable) _ _ refl refl

  pub imaged_kept : (c : ObjectCommand) (payload : List ℕ) → IsOther c → imaged (object_step s c payload o).state ≡ imaged s
  imaged_kept (BindBuffer target id) payload h = bind_keeps imaged Buffers (λ (t : EsState). record t { buffers = bind_buffer_effect t.buffers target id }) id refl (λ n. refl) (map.get s.buffers.names id)
  imaged_kept (BufferData target size usage words) payload h = store_keeps (buffer_data_effect s.buffers target (bytes_of (payload_of words payload) size) usage) (first o.stored)
  imaged_kept (DeleteBuffers id) payload h = delete_keeps id (map.get s.buffers.names id)
  imaged_kept (BindTexture target id) payload h = absurd h
  imaged_kept (DeleteTextures id) payload h = absurd h
  imaged_kept (BindRenderbuffer target id) payload h = absurd h
  imaged_kept (DeleteRenderbuffers id) payload h = absurd h
  imaged_kept (BindFramebuffer target id) payload h = bind_keeps imaged Framebuffers (λ (t : EsState). record t { framebuffers = bind_effect new_framebuffer t.framebuffers id }) id refl (λ n. refl) (map.get s.framebuffers.names id)
  imaged_kept (DeleteShader shader) payload h = either_keeps imaged (imaged s) (shader == 0) (leaves s o) (leaves (with_programs s (delete_shader_effect s.programs (number_of s.programs shader))) o) refl refl
  imaged_kept (DeleteProgram program) payload h = either_keeps imaged (imaged s) (program == 0) (leaves s o) (leaves (with_programs s (delete_program_effect s.programs (number_of s.programs program))) o) refl refl
  imaged_kept (LinkProgram program) payload h = link_keeps (number_of s.programs program) (program_at s.programs program)
  imaged_kept (ValidateProgram program) payload h = validate_keeps (number_of s.programs program) (program_at s.programs program)
  imaged_kept c payload h = refl
