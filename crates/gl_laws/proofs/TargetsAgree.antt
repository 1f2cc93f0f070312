-- The renderbuffers and framebuffers of a service and of its driver stay alike as names, objects and attachments come and go.
use Rattle.std.proofs.Common.{◌≡◌, ◌≢◌, ◌⊎◌, inl, inr, ℕ, Bool, true, false, ◌==◌, if◌then◌else◌, refl, sym, ap, ◌∙◌, subst, Option, None, Some, IsSome}
use Rattle.std.specs.FinMap as table
use Rattle.std.specs.FinSet as set
use Rattle.std.specs.Ordering.{nat_cmp}
use Rattle.gl_base.specs.declared.gl_enum.GlEnum.{GlEnum}
use Rattle.gl_base.specs.declared.target_enums.TheConstants.{COLOR_ATTACHMENT0, DEPTH_ATTACHMENT}
use Rattle.gl_base.proofs.Found.{get-insert_here, get-insert_other, get-remove_here, get-remove_other, test}
use Rattle.gl_plain.specs.declared.objects.Name.{Name}
use Rattle.gl_plain.specs.declared.textures.LevelView.{LevelView}
use Rattle.gl_plain.specs.declared.targets.Attached.{Attached}
use Rattle.gl_plain.specs.declared.targets.Attached.TheVariants as attached
use Rattle.gl_plain.specs.declared.targets.Framebuffer.{Framebuffer}
use Rattle.gl_plain.specs.declared.targets.Renderbuffer.{Renderbuffer}
use Rattle.gl_plain.specs.subjects.Names.{IsFresh, named, made_object, unbound}
use Rattle.gl_plain.specs.subjects.Targets.{RenderbufferTables, RenderbuffersAgree, FramebufferTables, FramebuffersAgree, with_object, bind_by, bind_effect, without_object, delete_effect, new_renderbuffer, renderbuffer_storage_effect, new_framebuffer, with_attached, attach_by, attach_effect, is_to, detached, without_attached, detach_by, detach, unnamed, unnamed_framebuffer, unnamed_at}
use Rattle.gl_plain.proofs.NamesAgree.{agree-named, agree-removed}
use Rattle.gl_laws.proofs.ObjectsSound.{objects_named, objects_binding, objects_changed, objects_bound, objects_deleted, object_names}

-- Renderbuffers

module _ (w d : RenderbufferTables) (given : set.FinSet nat_cmp) (a : RenderbuffersAgree w d given) where
  -- GenRenderbuffers
  pub agree_renderbuffer_named : (id n : ℕ) → table.get w.names id ≡ None → id ≢ 0 → IsFresh given n → RenderbuffersAgree (record w { names = named w.names id n }) (record d { names = named d.names n n }) (set.insert given n)
  agree_renderbuffer_named id n free positive fresh = record { names = agree-named w.names d.names given a.names id n free positive fresh; objects = a.objects; bound = a.bound; sound = objects_named w a.sound id n free }

  renderbuffers_with : (id : ℕ) (x : Name) → (with_object new_renderbuffer w id x).objects ≡ (with_object new_renderbuffer d x.number x).objects
  renderbuffers_with id x = elim x.is_object as (λ b.
      (if b then w else record { names = made_object w.names id x; objects = table.insert w.objects x.number new_renderbuffer; bound = w.bound }).objects
      ≡ (if b then d else record { names = made_object d.names x.number x; objects = table.insert d.objects x.number new_renderbuffer; bound = d.bound }).objects) [
        | true ↦ a.objects
        | false ↦ ap (λ (m : table.FinMap nat_cmp Renderbuffer). table.insert m x.number new_renderbuffer) a.objects
      ]

  renderbuffer_known : (id : ℕ) (x : Name) → table.get w.names id ≡ Some x → RenderbuffersAgree (bind_by new_renderbuffer w id (Some x)) (bind_by new_renderbuffer d x.number (Some x)) given
  renderbuffer_known id x there = record { names = object_names new_renderbuffer w d given a.names id x there; objects = renderbuffers_with id x; bound = refl; sound = objects_bound w a.sound a.names.one id x there new_renderbuffer }

  -- BindRenderbuffer, of a name in use
  pub agree_renderbuffer_bound : (id : ℕ) (x : Name) → table.get w.names id ≡ Some x → RenderbuffersAgree (bind_effect new_renderbuffer w id) (bind_effect new_renderbuffer d x.number) given
  agree_renderbuffer_bound id x there = rw (there, a.names.live id x there) (renderbuffer_known id x there)

  renderbuffer_none : RenderbuffersAgree (bind_by new_renderbuffer w 0 None) (bind_by new_renderbuffer d 0 None) given
  renderbuffer_none = record { names = a.names; objects = a.objects; bound = refl; sound = objects_binding w a.sound 0 (inl refl) }

  -- BindRenderbuffer, of 0
  pub agree_renderbuffer_unbound : RenderbuffersAgree (bind_effect new_renderbuffer w 0) (bind_effect new_renderbuffer d 0) given
  agree_renderbuffer_unbound = rw (a.names.no_zero_id, a.names.no_zero) renderbuffer_none

  -- DeleteRenderbuffers
  pub agree_renderbuffer_deleted : (id : ℕ) (x : Name) → table.get w.names id ≡ Some x → RenderbuffersAgree (without_object w id x.number) (delete_effect d x.number) given
  agree_renderbuffer_deleted id x there = rw (a.names.live id x there) record {
    names = agree-removed w.names d.names given a.names id x there;
    objects = ap (λ (m : table.FinMap nat_cmp Renderbuffer). table.remove m x.number) a.objects;
    bound = ap (unbound x.number) a.bound;
    sound = objects_deleted w a.sound a.names.one id x there;
  }

  stored_by : (o : Option Renderbuffer) → table.get w.objects w.bound ≡ o → IsSome o → (v : LevelView) → RenderbuffersAgree (renderbuffer_storage_effect w v) (renderbuffer_storage_effect d v) given
  stored_by None e there v = let no : IsSome {T = Renderbuffer} None = there in absurd (cc)
  stored_by (Some x) e there v = record {
    names = a.names;
    objects = λ i. table.insert (a.objects i) (a.bound i) (record { image = Some v });
    bound = a.bound;
    sound = objects_changed w a.sound w.bound x (record { image = Some v }) e;
  }

  -- RenderbufferStorage, where one is bound
  pub agree_renderbuffer_stored : (v : LevelView) → w.bound ≢ 0 → RenderbuffersAgree (renderbuffer_storage_effect w v) (renderbuffer_storage_effect d v) given
  agree_renderbuffer_stored v bound = elim a.sound.bound [ inl p ↦ absurd (bound p) | inr p ↦ stored_by (table.get w.objects w.bound) refl p v ]

-- Framebuffers

-- a change of a framebuffer is one of what it is without names
same_attached : (f : Framebuffer) (point : GlEnum) (x : Attached) → unnamed_framebuffer (with_attached f point x) ≡ with_attached (unnamed_framebuffer f) point (unnamed x)
same_attached f point x = elim (point.0 == COLOR_ATTACHMENT0.0) as (λ b.
    unnamed_framebuffer (if b then record f { colour = x } else if point.0 == DEPTH_ATTACHMENT.0 then record f { depth = x } else record f { stencil = x })
    ≡ (if b then record (unnamed_framebuffer f) { colour = unnamed x } else if point.0 == DEPTH_ATTACHMENT.0 then record (unnamed_framebuffer f) { depth = unnamed x } else record (unnamed_framebuffer f) { stencil = unnamed x })) [
      | true ↦ refl
      | false ↦ elim (point.0 == DEPTH_ATTACHMENT.0) as (λ b.
          unnamed_framebuffer (if b then record f { depth = x } else record f { stencil = x })
          ≡ (if b then record (unnamed_framebuffer f) { depth = unnamed x } else record (unnamed_framebuffer f) { stencil = unnamed x })) [ true ↦ refl | false ↦ refl ]
    ]

same_is_to : (texture : Bool) (number : ℕ) (x : Attached) → is_to texture number (unnamed x) ≡ is_to texture number x
same_is_to texture number attached.Nothing = refl
same_is_to texture number (attached.Texture object name face) = refl
same_is_to texture number (attached.Renderbuffer object name) = refl

same_detached : (texture : Bool) (number : ℕ) (x : Attached) → unnamed (detached texture number x) ≡ detached texture number (unnamed x)
same_detached texture number x =
    elim (is_to texture number x) as (λ b. unnamed (if b then attached.Nothing else x) ≡ (if b then attached.Nothing else unnamed x)) [ true ↦ refl | false ↦ refl ]
    ∙ ap (λ (b : Bool). if b then attached.Nothing else unnamed x) (sym (same_is_to texture number x))

same_without : (texture : Bool) (number : ℕ) (f : Framebuffer) → unnamed_framebuffer (without_attached texture number f) ≡ without_attached texture number (unnamed_framebuffer f)
same_without texture number f = λ i. record { colour = same_detached texture number f.colour i; depth = same_detached texture number f.depth i; stencil = same_detached texture number f.stencil i }

-- maps that are alike but for names
abbrev AreAttachedAlike : table.FinMap nat_cmp Framebuffer → table.FinMap nat_cmp Framebuffer → Type 0
AreAttachedAlike m k = (n : ℕ) → unnamed_at (table.get m n) ≡ table.get k n

alike_inserted : (m k : table.FinMap nat_cmp Framebuffer) → AreAttachedAlike m k → (number : ℕ) (f g : Framebuffer) → unnamed_framebuffer f ≡ g → AreAttachedAlike (table.insert m number f) (table.insert k number g)
alike_inserted m k all number f g same n = elim (test n number) [
  | inl p ↦ ap (λ (q : ℕ). unnamed_at (table.get (table.insert m number f) q)) p.0 ∙ ap unnamed_at (get-insert_here m number f) ∙ ap (λ (x : Framebuffer). Some x) same
      ∙ sym (get-insert_here k number g) ∙ ap (table.get (table.insert k number g)) (sym p.0)
  | inr p ↦ ap unnamed_at (get-insert_other m number f n p.0) ∙ all n ∙ sym (get-insert_other k number g n p.0)
]

alike_removed : (m k : table.FinMap nat_cmp Framebuffer) → AreAttachedAlike m k → (number : ℕ) → AreAttachedAlike (table.remove m number) (table.remove k number)
alike_removed m k all number n = elim (test n number) [
  | inl p ↦ ap (λ (q : ℕ). unnamed_at (table.get (table.remove m number) q)) p.0 ∙ ap unnamed_at (get-remove_here m number) ∙ sym (get-remove_here k number) ∙ ap (table.get (table.remove k number)) (sym p.0)
  | inr p ↦ ap unnamed_at (get-remove_other m number n p.0) ∙ all n ∙ sym (get-remove_other k number n p.0)
]

module _ (w d : FramebufferTables) (given : set.FinSet nat_cmp) (a : FramebuffersAgree w d given) where
  -- GenFramebuffers
  pub agree_framebuffer_named : (id n : ℕ) → table.get w.names id ≡ None → id ≢ 0 → IsFresh given n → FramebuffersAgree (record w { names = named w.names id n }) (record d { names = named d.names n n }) (set.insert given n)
  agree_framebuffer_named id n free positive fresh = record { names = agree-named w.names d.names given a.names id n free positive fresh; attached = a.attached; bound = a.bound; sound = objects_named w a.sound id n free }

  framebuffers_with : (id : ℕ) (x : Name) → AreAttachedAlike (with_object new_framebuffer w id x).objects (with_object new_framebuffer d x.number x).objects
  framebuffers_with id x = elim x.is_object as (λ b. AreAttachedAlike
      (if b then w else record { names = made_object w.names id x; objects = table.insert w.objects x.number new_framebuffer; bound = w.bound }).objects
      (if b then d else record { names = made_object d.names x.number x; objects = table.insert d.objects x.number new_framebuffer; bound = d.bound }).objects) [
        | true ↦ a.attached
        | false ↦ alike_inserted w.objects d.objects a.attached x.number new_framebuffer new_framebuffer refl
      ]

  framebuffer_known : (id : ℕ) (x : Name) → table.get w.names id ≡ Some x → FramebuffersAgree (bind_by new_framebuffer w id (Some x)) (bind_by new_framebuffer d x.number (Some x)) given
  framebuffer_known id x there = record { names = object_names new_framebuffer w d given a.names id x there; attached = framebuffers_with id x; bound = refl; sound = objects_bound w a.sound a.names.one id x there new_framebuffer }

  -- BindFramebuffer, of a name in use
  pub agree_framebuffer_bound : (id : ℕ) (x : Name) → table.get w.names id ≡ Some x → FramebuffersAgree (bind_effect new_framebuffer w id) (bind_effect new_framebuffer d x.number) given
  agree_framebuffer_bound id x there = rw (there, a.names.live id x there) (framebuffer_known id x there)

  framebuffer_none : FramebuffersAgree (bind_by new_framebuffer w 0 None) (bind_by new_framebuffer d 0 None) given
  framebuffer_none = record { names = a.names; attached = a.attached; bound = refl; sound = objects_binding w a.sound 0 (inl refl) }

  -- BindFramebuffer, of 0
  pub agree_framebuffer_unbound : FramebuffersAgree (bind_effect new_framebuffer w 0) (bind_effect new_framebuffer d 0) given
  agree_framebuffer_unbound = rw (a.names.no_zero_id, a.names.no_zero) framebuffer_none

  -- DeleteFramebuffers
  pub agree_framebuffer_deleted : (id : ℕ) (x : Name) → table.get w.names id ≡ Some x → FramebuffersAgree (without_object w id x.number) (delete_effect d x.number) given
  agree_framebuffer_deleted id x there = rw (a.names.live id x there) record {
    names = agree-removed w.names d.names given a.names id x there;
    attached = alike_removed w.objects d.objects a.attached x.number;
    bound = ap (unbound x.number) a.bound;
    sound = objects_deleted w a.sound a.names.one id x there;
  }

  -- the framebuffer that is bound, on the driver's side
  pub same_bound_framebuffer : unnamed_at (table.get w.objects w.bound) ≡ table.get d.objects d.bound
  same_bound_framebuffer = a.attached w.bound ∙ ap (table.get d.objects) a.bound

  -- it is replaced on both sides
  changed : (f g h : Framebuffer) → table.get w.objects w.bound ≡ Some f → unnamed_framebuffer g ≡ h
      → FramebuffersAgree (record { names = w.names; objects = table.insert w.objects w.bound g; bound = w.bound }) (record { names = d.names; objects = table.insert d.objects d.bound h; bound = d.bound }) given
  changed f g h there same = record {
    names = a.names;
    attached = subst (λ (n : ℕ). AreAttachedAlike (table.insert w.objects w.bound g) (table.insert d.objects n h)) a.bound (alike_inserted w.objects d.objects a.attached w.bound g h same);
    bound = a.bound;
    sound = objects_changed w a.sound w.bound f g there;
  }

  attached_by : (point : GlEnum) (x : Attached) (f : Option Framebuffer) → table.get w.objects w.bound ≡ f → FramebuffersAgree (attach_by w point x f) (attach_by d point (unnamed x) (unnamed_at f)) given
  attached_by point x None e = a
  attached_by point x (Some f) e = changed f (with_attached f point x) (with_attached (unnamed_framebuffer f) point (unnamed x)) e (same_attached f point x)

  -- FramebufferTexture2D and FramebufferRenderbuffer
  pub agree_attached : (point : GlEnum) (x y : Attached) → unnamed x ≡ y → FramebuffersAgree (attach_effect w point x) (attach_effect d point y) given
  agree_attached point x y same =
      subst (λ (z : Attached). FramebuffersAgree (attach_effect w point x) (attach_effect d point z) given) same
      (subst (λ (f : Option Framebuffer). FramebuffersAgree (attach_effect w point x) (attach_by d point (unnamed x) f) given) same_bound_framebuffer (attached_by point x (table.get w.objects w.bound) refl))

  detached_by : (texture : Bool) (number : ℕ) (f : Option Framebuffer) → table.get w.objects w.bound ≡ f → FramebuffersAgree (detach_by w texture number f) (detach_by d texture number (unnamed_at f)) given
  detached_by texture number None e = a
  detached_by texture number (Some f) e = changed f (without_attached texture number f) (without_attached texture number (unnamed_framebuffer f)) e (same_without texture number f)

  -- an object is deleted, and detached from the framebuffer that is bound
  pub agree_detached : (texture : Bool) (number : ℕ) → FramebuffersAgree (detach w texture number) (detach d texture number) given
  agree_detached texture number = subst (λ (f : Option Framebuffer). FramebuffersAgree (detach w texture number) (detach_by d texture number f) given) same_bound_framebuffer (detached_by texture number (table.get w.objects w.bound) refl)
