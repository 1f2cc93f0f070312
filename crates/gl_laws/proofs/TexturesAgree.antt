-- The textures of a service and of its driver stay alike as names and objects come and go.
use Rattle.std.proofs.Common.{◌≡◌, ◌≢◌, ℕ, Bool, true, false, ◌&&◌, if◌then◌else◌, refl, sym, ap, ◌∙◌, None, Some}
use Rattle.std.specs.FinMap as table
use Rattle.std.specs.FinSet as set
use Rattle.std.specs.Ordering.{nat_cmp}
use Rattle.gl_base.specs.declared.gl_enum.GlEnum.{GlEnum}
use Rattle.gl_plain.specs.declared.objects.Name.{Name}
use Rattle.gl_plain.specs.subjects.Names.{IsFresh, made_object, NamesAgree}
use Rattle.gl_plain.specs.subjects.Levels.{is_cube_target, new_texture}
use Rattle.gl_plain.specs.subjects.Textures.{TextureTables, TextureObjects, TexturesAgree, gen_textures_effect, has_other_target, is_of_other_target, with_bound, with_object, bind_texture_by, bind_texture_effect, all_unbound, without_texture, delete_textures_effect}
use Rattle.gl_plain.proofs.NamesAgree.{agree-named, agree-made, agree-removed}
use Rattle.gl_plain.proofs.SoundTextures.{sound_named, sound_bound, sound_deleted}

module _ (w d : TextureTables) (given : set.FinSet nat_cmp) (a : TexturesAgree w d given) where
  -- GenTextures
  pub agree_texture_named : (id n : ℕ) → table.get w.names id ≡ None → id ≢ 0 → IsFresh given n → TexturesAgree (gen_textures_effect w id n) (gen_textures_effect d n n) (set.insert given n)
  agree_texture_named id n free positive fresh = record { names = agree-named w.names d.names given a.names id n free positive fresh; objects = a.objects; sound = sound_named w a.sound id n free }

  -- a texture whose first target is the other one is so on both sides
  pub same_target : (cube : Bool) (id : ℕ) (x : Name) → table.get w.names id ≡ Some x → is_of_other_target d cube (table.get d.names x.number) ≡ is_of_other_target w cube (Some x)
  same_target cube id x there =
      ap (is_of_other_target d cube) (a.names.live id x there) ∙ ap (λ (t : TextureObjects). x.is_object && has_other_target (table.get t.by_number x.number) cube) (sym a.objects)

  -- the names of a name's object, once it is there
  names_with : (id : ℕ) (x : Name) (cube : Bool) → table.get w.names id ≡ Some x → NamesAgree (with_object w id cube x).names (with_object d x.number cube x).names given
  names_with id x cube there = elim x.is_object as (λ b. NamesAgree
      (if b then w else record w { names = made_object w.names id x; objects = record w.objects { by_number = table.insert w.objects.by_number x.number (new_texture cube) } }).names
      (if b then d else record d { names = made_object d.names x.number x; objects = record d.objects { by_number = table.insert d.objects.by_number x.number (new_texture cube) } }).names given) [
        | true ↦ a.names
        | false ↦ agree-made w.names d.names given a.names id x there
      ]

  -- the objects with it
  objects_with : (id : ℕ) (x : Name) (cube : Bool) → (with_object w id cube x).objects ≡ (with_object d x.number cube x).objects
  objects_with id x cube = elim x.is_object as (λ b.
      (if b then w else record w { names = made_object w.names id x; objects = record w.objects { by_number = table.insert w.objects.by_number x.number (new_texture cube) } }).objects
      ≡ (if b then d else record d { names = made_object d.names x.number x; objects = record d.objects { by_number = table.insert d.objects.by_number x.number (new_texture cube) } }).objects) [
        | true ↦ a.objects
        | false ↦ ap (λ (t : TextureObjects). record t { by_number = table.insert t.by_number x.number (new_texture cube) }) a.objects
      ]

  -- the units with another binding
  same_binding : (x y : TextureObjects) (cube : Bool) (number : ℕ) → x ≡ y → record x { units = with_bound x.units cube number } ≡ record y { units = with_bound y.units cube number }
  same_binding x y cube number e = ap (λ (t : TextureObjects). record t { units = with_bound t.units cube number }) e

  agree_known : (cube : Bool) (id : ℕ) (x : Name) → table.get w.names id ≡ Some x → is_of_other_target w cube (Some x) ≡ false → TexturesAgree (bind_texture_by w cube id (Some x)) (bind_texture_by d cube x.number (Some x)) given
  agree_known cube id x there fair = record {
    names = names_with id x cube there;
    objects = same_binding (with_object w id cube x).objects (with_object d x.number cube x).objects cube x.number (objects_with id x cube);
    sound = sound_bound w a.sound a.names.one cube id (Some x) there fair;
  }

  agree_default : (cube : Bool) (id : ℕ) → table.get w.names id ≡ None → TexturesAgree (bind_texture_by w cube id None) (bind_texture_by d cube 0 None) given
  agree_default cube id free = record { names = a.names; objects = same_binding w.objects d.objects cube 0 a.objects; sound = sound_bound w a.sound a.names.one cube id None free refl }

  -- BindTexture, of a name in use that is of no other target
  pub agree_texture_bound : (target : GlEnum) (id : ℕ) (x : Name) → table.get w.names id ≡ Some x → is_of_other_target w (is_cube_target target) (Some x) ≡ false
      → TexturesAgree (bind_texture_effect w target id) (bind_texture_effect d target x.number) given
  agree_texture_bound target id x there fair = rw (there, a.names.live id x there) (agree_known (is_cube_target target) id x there fair)

  -- BindTexture, of 0
  pub agree_texture_unbound : (target : GlEnum) → TexturesAgree (bind_texture_effect w target 0) (bind_texture_effect d target 0) given
  agree_texture_unbound target = rw (a.names.no_zero_id, a.names.no_zero) (agree_default (is_cube_target target) 0 a.names.no_zero_id)

  -- DeleteTextures
  pub agree_texture_deleted : (id : ℕ) (x : Name) → table.get w.names id ≡ Some x → TexturesAgree (without_texture w id x.number) (delete_textures_effect d x.number) given
  agree_texture_deleted id x there = rw (a.names.live id x there) record {
    names = agree-removed w.names d.names given a.names id x there;
    objects = ap (λ (t : TextureObjects). record t { by_number = table.remove t.by_number x.number; units = all_unbound t.units x.number }) a.objects;
    sound = sound_deleted w a.sound a.names.one id x there;
  }
