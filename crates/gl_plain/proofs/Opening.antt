-- At the opening the service and its driver agree.
use Rattle.std.proofs.Common.{◌≡◌, ℕ, ◌+◌, ◌*◌, ◌==◌, ◌&&◌, nat_le, if◌then◌else◌, Bool, true, false, refl, sym, ap, ◌∙◌, subst, inl, replicate, slice_index_or, Option, None, Some}
use Prim.Native.Nat.{zero, suc}
use Rattle.std.specs.FinMap as map
use Rattle.std.specs.Ordering.{nat_cmp}
use Rattle.std.specs.FinSet as set
use Rattle.gl_plain.specs.declared.objects.Name.{Name}
use Rattle.gl_plain.specs.declared.programs.Program.{Program}
use Rattle.gl_base.specs.declared.gl_enum.GlEnum.{GlEnum}
use Rattle.gl_base.specs.declared.limits.TheConstants.{LAST_LEVEL}
use Rattle.gl_plain.specs.declared.textures.LevelView.{LevelView}
use Rattle.gl_plain.specs.declared.textures.ImagePlace.{ImagePlace}
use Rattle.gl_plain.specs.declared.textures.Texture.{Texture}
use Rattle.gl_plain.specs.declared.textures.TextureUnit.{TextureUnit}
use Rattle.gl_plain.specs.subjects.Levels.{is_cube_face, suits, face_count, level_index, level_of, level_in, new_texture}
use Rattle.gl_plain.specs.subjects.Textures.{no_textures, default_texture, level_at, no_binding, no_bindings, unit_at, bound_in, texture_at, IsOfKind, AreTexturesSound}
use Rattle.gl_plain.specs.declared.targets.Framebuffer.{Framebuffer}
use Rattle.gl_plain.specs.declared.targets.Renderbuffer.{Renderbuffer}
use Rattle.gl_plain.specs.subjects.Targets.{AreObjectsSound, no_objects, unnamed_at, renderbuffer_image, renderbuffer_at}
use Rattle.gl_plain.specs.subjects.Images.{Undefined, IsCovered, IsMarked, no_covers, no_marks, no_rect}
use Rattle.gl_plain.specs.subjects.Names.{NamesAgree}
use Rattle.gl_plain.specs.subjects.Programs.{AreInverse, AreAlike}
use Rattle.gl_plain.specs.State.{Surface, opening_wire, opening_driver}
use Rattle.gl_plain.specs.Agreement.{Agrees}

absent : (key : ℕ) (x : Name) → map.get (map.empty {R = nat_cmp}) key ≡ Some x → ⊥
absent key x e = let none : map.get (map.empty {X = Name} {R = nat_cmp}) key ≡ None = map.get-empty nat_cmp key in cc

no_number : (key id : ℕ) → map.get (map.empty {R = nat_cmp}) key ≡ Some id → ⊥
no_number key id e = let none : map.get (map.empty {X = ℕ} {R = nat_cmp}) key ≡ None = map.get-empty nat_cmp key in cc

-- no name stands for anything
no_names : NamesAgree (map.empty {X = Name} {R = nat_cmp}) (map.empty {X = Name} {R = nat_cmp}) set.empty
no_names = record {
  live = λ id x e. absurd (absent id x e);
  used = λ n x e. absurd (absent n x e);
  one = λ id other x y e f same. absurd (absent id x e);
  own = λ n x e. absurd (absent n x e);
  given_once = λ n x e. absurd (absent n x e);
  no_zero = map.get-empty nat_cmp 0;
  no_zero_id = map.get-empty nat_cmp 0;
}

no_owners : AreInverse (map.empty {X = Name} {R = nat_cmp}) (map.empty {X = ℕ} {R = nat_cmp})
no_owners = record { named = λ id x e. absurd (absent id x e); owned = λ n id e. absurd (no_number n id e) }

-- no program is there
no_programs_alike : (n : ℕ) → AreAlike (map.get (map.empty {X = Program} {R = nat_cmp}) n) (map.get (map.empty {X = Program} {R = nat_cmp}) n)
no_programs_alike n = rw (map.get-empty {X = Program} nat_cmp n) tt

abbrev no_view : Option LevelView
no_view = None

-- a list of none has none at every place
none_at : (n k : ℕ) → slice_index_or (replicate n no_view) k no_view ≡ no_view
none_at zero k = refl
none_at (suc n) zero = refl
none_at (suc n) (suc k) = none_at n k

-- no level is among them
pub no_view_at : (n k : ℕ) (v : LevelView) → slice_index_or (replicate n no_view) k no_view ≡ Some v → ⊥
no_view_at n k v e = let none = none_at n k in cc

if_there : (b : Bool) (level : Option LevelView) → level ≡ None → (if b then level else None) ≡ None
if_there true level e = e
if_there false level e = refl

-- a texture opens without images
pub no_level : (cube : Bool) (face : GlEnum) (level : ℕ) → level_of (new_texture cube) face level ≡ None
no_level cube face level = if_there (suits cube face && nat_le level LAST_LEVEL) _ (none_at (face_count cube * (LAST_LEVEL + 1)) (level_index face level))

bindings : (n k : ℕ) → slice_index_or (replicate n no_binding) k no_binding ≡ no_binding
bindings zero k = refl
bindings (suc n) zero = refl
bindings (suc n) (suc k) = bindings n k

default_kind : (cube : Bool) → IsOfKind cube (texture_at no_textures.objects (bound_in no_binding cube) cube)
default_kind true = refl
default_kind false = refl

no_level_by : (b cube : Bool) (number : ℕ) (face : GlEnum) (level : ℕ)
    → level_in (if b then Some (default_texture no_textures.objects cube) else map.get (map.empty {X = Texture} {R = nat_cmp}) number) face level ≡ None
no_level_by true true number face level = no_level true face level
no_level_by true false number face level = no_level false face level
no_level_by false cube number face level = ap (λ t. level_in t face level) (map.get-empty {X = Texture} nat_cmp number)

-- nothing is written of any image
nothing_written : (place : ImagePlace) → IsCovered (level_at no_textures.objects place) (no_covers place) (λ x y. Undefined)
nothing_written place =
    subst (λ v. IsCovered v no_rect (λ x y. Undefined)) (sym (no_level_by (place.texture == 0) (is_cube_face place.face) place.texture place.face place.level)) refl

no_texture : (key : ℕ) (x : Texture) → map.get (map.empty {R = nat_cmp}) key ≡ Some x → ⊥
no_texture key x e = let none : map.get (map.empty {X = Texture} {R = nat_cmp}) key ≡ None = map.get-empty nat_cmp key in cc

-- all units bind the default textures
no_binding_at : (unit : ℕ) → unit_at no_bindings unit ≡ no_binding
no_binding_at unit = bindings 8 unit

no_textures_sound : AreTexturesSound no_textures
no_textures_sound = record {
  made = λ id name e. absurd (absent id name e);
  owned = λ n x e. absurd (no_texture n x e);
  sized = λ n x e. absurd (no_texture n x e);
  flat_sized = record { count = refl; sides = λ at v e. absurd (no_view_at 12 at v e) };
  cube_sized = record { count = refl; sides = λ at v e. absurd (no_view_at 72 at v e) };
  flat_kind = refl;
  cube_kind = refl;
  bound = λ unit cube. subst (λ (u : TextureUnit). IsOfKind cube (texture_at no_textures.objects (bound_in u cube) cube)) (sym (no_binding_at unit)) (default_kind cube);
}

-- no renderbuffer and no framebuffer is there
no_object : (X : Type 0) (key : ℕ) (x : X) → map.get (map.empty {X = X} {R = nat_cmp}) key ≡ Some x → ⊥
no_object X key x e = let none : map.get (map.empty {X = X} {R = nat_cmp}) key ≡ None = map.get-empty nat_cmp key in cc

nothing_sound : {X : Type 0} → AreObjectsSound (no_objects {X = X})
nothing_sound {X} = record {
  made = λ id name e. absurd (absent id name e);
  owned = λ n x e. absurd (no_object X n x e);
  bound = inl refl;
}

nothing_attached : (n : ℕ) → unnamed_at (map.get (map.empty {X = Framebuffer} {R = nat_cmp}) n) ≡ map.get (map.empty {X = Framebuffer} {R = nat_cmp}) n
nothing_attached n = ap unnamed_at (map.get-empty {X = Framebuffer} nat_cmp n) ∙ sym (map.get-empty {X = Framebuffer} nat_cmp n)

nothing_marked : (n : ℕ) → IsMarked (renderbuffer_at (map.empty {X = Renderbuffer} {R = nat_cmp}) n) (no_marks n) (λ x y. Undefined)
nothing_marked n = subst (λ r. IsMarked (renderbuffer_image r) false (λ x y. Undefined)) (sym (map.get-empty {X = Renderbuffer} nat_cmp n)) refl

-- no name is in use, and no image but those of the default framebuffer is there
pub opening_agrees : (surface : Surface) → Agrees (opening_wire surface) (opening_driver surface)
opening_agrees surface = record {
  tables = record {
    surface = refl;
    buffers = record {
      names = no_names;
      objects = refl;
      array = refl;
      element = refl;
    };
    textures = record {
      names = no_names;
      objects = refl;
      sound = no_textures_sound;
    };
    renderbuffers = record { names = no_names; objects = refl; bound = refl; sound = nothing_sound };
    framebuffers = record { names = no_names; attached = λ n. nothing_attached n; bound = refl; sound = nothing_sound };
    attribs = refl;
    raster = refl;
    programs = record {
      names = no_names;
      ids = no_owners;
      own_ids = no_owners;
      shaders = refl;
      programs = no_programs_alike;
      current = refl;
      installed = refl;
    };
  };
  images = record { covers = nothing_written; marks = nothing_marked; screen = λ i x y. refl };
  aligned = record { unpack = refl; pack = refl };
}
