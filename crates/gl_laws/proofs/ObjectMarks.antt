-- The marks and the images of renderbuffers behind a command on objects: a renderbuffer that is made has no image, nor has one that is deleted.
use Rattle.std.proofs.Common.{◌≡◌, ◌≢◌, ℕ, Bool, true, false, ◌==◌, if◌then◌else◌, List, Option, None, Some, refl, sym, ap, ◌∙◌, subst}
use Rattle.std.specs.FinMap as map
use Rattle.std.proofs.lemmas.Bool.{eqb-true, eqb-false}
use Rattle.gl_base.proofs.Found.{get-insert_here, get-insert_other, get-remove_here, get-remove_other}
use Rattle.gl_plain.specs.declared.objects.Name as names
use Rattle.gl_plain.specs.declared.textures.LevelView.{LevelView}
use Rattle.gl_plain.specs.declared.targets.Renderbuffer.{Renderbuffer}
use Rattle.gl_plain.specs.declared.commands.ObjectCommand.{ObjectCommand}
use Rattle.gl_plain.specs.declared.commands.ObjectCommand.TheVariants.{BindTexture, DeleteTextures, BindRenderbuffer, DeleteRenderbuffers}
use Rattle.gl_plain.specs.subjects.Names.{new_name, made_object}
use Rattle.gl_plain.specs.subjects.Textures.{bind_texture_effect}
use Rattle.gl_plain.specs.subjects.Targets.{Renderbuffers, RenderbufferTables, new_renderbuffer, renderbuffer_image, renderbuffer_at, with_object, binding, bind_by, bind_effect, delete_by}
use Rattle.gl_plain.specs.subjects.Images.{Contents, Marks, with_mark, IsMarked}
use Rattle.gl_plain.specs.Oracle.{Oracle, first, behind}
use Rattle.gl_plain.specs.State.{EsState}
use Rattle.gl_plain.specs.Spaces as spaces
use Rattle.gl_plain.specs.Spaces.{with_name, with_numbers}
use Rattle.gl_plain.specs.Outcome.{Outcome, leaves}
use Rattle.gl_plain.specs.object.Step.{object_step, bind_outcome}
use Rattle.gl_plain.specs.object.Covers.{object_marks, bound_marks, deleted_marks}
use Rattle.gl_laws.proofs.Binds.{known_name}
use Rattle.gl_laws.proofs.KeptObjects.{bind_keeps, imaged_kept}

-- each mark is that of its renderbuffer
abbrev pub AreMarked : Renderbuffers → Marks → Contents → Type 0
AreMarked r m k = (n : ℕ) → IsMarked (renderbuffer_at r n) (m n) (k.renderbuffers n)

module _ (r : Renderbuffers) (m : Marks) (k : Contents) (marks : AreMarked r m k) (number : ℕ) (x : Renderbuffers) (others : (n : ℕ) → n ≢ number → map.get x n ≡ map.get r n) (gone : renderbuffer_at x number ≡ None) where
  marked : (n : ℕ) (same : Bool) → (number == n) ≡ same → IsMarked (renderbuffer_at r n) (m n) (k.renderbuffers n) → IsMarked (renderbuffer_at x n) (if same then false else m n) (k.renderbuffers n)
  marked n true e h = subst (λ (v : Option LevelView). IsMarked v false (k.renderbuffers n)) (sym (ap (renderbuffer_at x) (sym (eqb-true number n e)) ∙ gone)) refl
  marked n false e h = subst (λ (o : Option Renderbuffer). IsMarked (renderbuffer_image o) (m n) (k.renderbuffers n)) (sym (others n (λ is. eqb-false number n e (sym is)))) h

  -- under one number there is no image, and under the others those that were there
  marked_without : AreMarked x (with_mark m number false) k
  marked_without n = marked n (number == n) refl (marks n)

-- the renderbuffer of a name that is no object yet is made, without an image
bound_marked : (t : RenderbufferTables) (m : Marks) (k : Contents) → AreMarked t.objects m k → (id : ℕ) (x : names.Name)
    → AreMarked (binding (with_object new_renderbuffer t id x) x.number).objects (if x.is_object then m else with_mark m x.number false) k
bound_marked t m k marks id x = elim x.is_object as (λ b.
    AreMarked (binding (if b then t else record { names = made_object t.names id x; objects = map.insert t.objects x.number new_renderbuffer; bound = t.bound }) x.number).objects (if b then m else with_mark m x.number false) k) [
      | true ↦ marks
      | false ↦ marked_without t.objects m k marks x.number (map.insert t.objects x.number new_renderbuffer) (get-insert_other t.objects x.number new_renderbuffer)
          (ap renderbuffer_image (get-insert_here t.objects x.number new_renderbuffer))
    ]

abbrev bind : ℕ → EsState → EsState
bind id s = record s { renderbuffers = bind_effect new_renderbuffer s.renderbuffers id }

module _ (s : EsState) (m : Marks) (k : Contents) (marks : AreMarked s.renderbuffers.objects m k) where
  -- a name that was just given is bound
  named_marked : (id n : ℕ) → AreMarked (bind id (with_name spaces.Renderbuffers id n s)).renderbuffers.objects (with_mark m n false) k
  named_marked id n = subst (λ (t : RenderbufferTables). AreMarked t.objects (with_mark m n false) k)
      (sym (ap (bind_by new_renderbuffer (with_name spaces.Renderbuffers id n s).renderbuffers id) (known_name spaces.Renderbuffers s id n)))
      (bound_marked (with_name spaces.Renderbuffers id n s).renderbuffers m k marks id (new_name n))

  -- what a bind of a name that is not in use leaves
  abbrev unknown : ℕ → Bool → Oracle → Outcome EsState
  unknown id b o = if b then leaves (bind id s) o else leaves (bind id (with_name spaces.Renderbuffers id (first o.renderbuffers) s)) (with_numbers spaces.Renderbuffers (behind o.renderbuffers) o)

  unknown_marked : (id : ℕ) → map.get s.renderbuffers.names id ≡ None → (b : Bool) (o : Oracle) → AreMarked (unknown id b o).state.renderbuffers.objects (if b then m else with_mark m (first o.renderbuffers) false) k
  unknown_marked id free true o = subst (λ (t : RenderbufferTables). AreMarked t.objects m k) (sym (ap (bind_by new_renderbuffer s.renderbuffers id) free)) marks
  unknown_marked id free false o = named_marked id (first o.renderbuffers)

  -- BindRenderbuffer
  bind_marked : (id : ℕ) (found : Option names.Name) → map.get s.renderbuffers.names id ≡ found → (o : Oracle) → AreMarked (bind_outcome spaces.Renderbuffers (bind id) s id o found).state.renderbuffers.objects (bound_marks m id o found) k
  bind_marked id (Some x) e o = subst (λ (t : RenderbufferTables). AreMarked t.objects (bound_marks m id o (Some x)) k) (sym (ap (bind_by new_renderbuffer s.renderbuffers id) e)) (bound_marked s.renderbuffers m k marks id x)
  bind_marked id None e o = unknown_marked id e (id == 0) o

  -- DeleteRenderbuffers
  delete_marked : (id : ℕ) (found : Option names.Name) → AreMarked (delete_by s.renderbuffers id found).objects (deleted_marks m found) k
  delete_marked id None = marks
  delete_marked id (Some x) = marked_without s.renderbuffers.objects m k marks x.number (map.remove s.renderbuffers.objects x.number) (get-remove_other s.renderbuffers.objects x.number)
      (ap renderbuffer_image (get-remove_here s.renderbuffers.objects x.number))

  -- the same renderbuffers have the same images
  kept : (r : Renderbuffers) → r ≡ s.renderbuffers.objects → AreMarked r m k
  kept r same = subst (λ (x : Renderbuffers). AreMarked x m k) (sym same) marks

  pub object_marked : (c : ObjectCommand) (payload : List ℕ) (o : Oracle) → AreMarked (object_step s c payload o).state.renderbuffers.objects (object_marks s c o m) k
  object_marked (BindTexture target id) payload o =
      kept _ (bind_keeps s o (λ (t : EsState). t.renderbuffers.objects) spaces.Textures (λ (t : EsState). record t { textures = bind_texture_effect t.textures target id }) id refl (λ n. refl) (map.get s.textures.names id))
  object_marked (DeleteTextures id) payload o = marks
  object_marked (BindRenderbuffer target id) payload o = bind_marked id (map.get s.renderbuffers.names id) refl o
  object_marked (DeleteRenderbuffers id) payload o = delete_marked id (map.get s.renderbuffers.names id)
  object_marked c payload o = kept _ (ap (λ p. p.1) (imaged_kept s o c payload tt))
