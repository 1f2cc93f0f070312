-- The buffers of a service and of its driver stay alike.
use Rattle.std.proofs.Common.{◌≡◌, ◌≢◌, ℕ, true, false, refl, sym, ◌∙◌, ap, subst, List, Option, None, Some, if◌then◌else◌, ◌==◌}
use Rattle.std.specs.FinMap as map
use Rattle.std.specs.FinSet as set
use Rattle.gl_plain.specs.declared.objects.Name.{Name}
use Rattle.gl_plain.specs.declared.objects.Buffer.{Buffer}
use Rattle.gl_base.specs.declared.gl_enum.GlEnum.{GlEnum}
use Rattle.std.specs.Ordering.{nat_cmp}
use Rattle.gl_base.specs.declared.enums.TheConstants.{ARRAY_BUFFER}
use Rattle.gl_plain.specs.subjects.Names.{IsFresh, made_object, unbound}
use Rattle.gl_plain.specs.subjects.Buffers.{BufferTables, BuffersAgree, empty_buffer, binding, bound, with_binding, gen_buffers_effect, with_buffer, bind_buffer_effect, with_bound, buffer_sub_data_by, buffer_sub_data_effect, delete_buffers_effect, without_buffer}
use Rattle.gl_plain.proofs.NamesAgree.{agree-named, agree-made, agree-removed}

module _ (w d : BufferTables) (given : set.FinSet nat_cmp) (a : BuffersAgree w d given) where
  pub agree_named : (id n : ℕ) → map.get w.names id ≡ None → id ≢ 0 → IsFresh given n → BuffersAgree (gen_buffers_effect w id n) (gen_buffers_effect d n n) (set.insert given n)
  agree_named id n free positive fresh = record { names = agree-named w.names d.names given a.names id n free positive fresh; objects = a.objects; array = a.array; element = a.element }

  agree_binding : (target : GlEnum) (n : ℕ) → BuffersAgree (with_binding w target n) (with_binding d target n) given
  agree_binding target n = elim (target.0 == ARRAY_BUFFER.0) as (λ b. BuffersAgree (if b then record w { array = n } else record w { element = n }) (if b then record d { array = n } else record d { element = n }) given) [
    | true ↦ record { names = a.names; objects = a.objects; array = refl; element = a.element }
    | false ↦ record { names = a.names; objects = a.objects; array = a.array; element = refl }
  ]

module _ (w d : BufferTables) (given : set.FinSet nat_cmp) (a : BuffersAgree w d given) where
  agree_buffer : (id : ℕ) (x : Name) → map.get w.names id ≡ Some x → BuffersAgree (with_buffer w id x) (with_buffer d x.number x) given
  agree_buffer id x there = elim x.is_object as (λ b. BuffersAgree
      (if b then w else record w { names = made_object w.names id x; objects = map.insert w.objects x.number empty_buffer })
      (if b then d else record d { names = made_object d.names x.number x; objects = map.insert d.objects x.number empty_buffer }) given) [
        | true ↦ a
        | false ↦ record { names = agree-made w.names d.names given a.names id x there; objects = ap (λ m. map.insert m x.number empty_buffer) a.objects; array = a.array; element = a.element }
      ]

  pub agree_bind : (target : GlEnum) (id : ℕ) (x : Name) → map.get w.names id ≡ Some x → BuffersAgree (bind_buffer_effect w target id) (bind_buffer_effect d target x.number) given
  agree_bind target id x there = rw (there, a.names.live id x there)
      (agree_binding (with_buffer w id x) (with_buffer d x.number x) given (agree_buffer id x there) target x.number)

  pub agree_unbind : (target : GlEnum) → BuffersAgree (bind_buffer_effect w target 0) (bind_buffer_effect d target 0) given
  agree_unbind target = rw (a.names.no_zero_id, a.names.no_zero) (agree_binding w d given a target 0)

  pub same_binding : (target : GlEnum) → binding w target ≡ binding d target
  same_binding target = elim (target.0 == ARRAY_BUFFER.0) as (λ b. (if b then w.array else w.element) ≡ (if b then d.array else d.element)) [ true ↦ a.array | false ↦ a.element ]

  pub same_bound : (target : GlEnum) → bound w target ≡ bound d target
  same_bound target = ap (λ m. map.get m (binding w target)) a.objects ∙ ap (map.get d.objects) (same_binding target)

  pub agree_stored : (target : GlEnum) (buffer : Buffer) → BuffersAgree (with_bound w target buffer) (with_bound d target buffer) given
  agree_stored target buffer = record {
    names = a.names;
    objects = ap (λ m. map.insert m (binding w target) buffer) a.objects ∙ ap (λ n. map.insert d.objects n buffer) (same_binding target);
    array = a.array;
    element = a.element;
  }

  agree_changed_by : (target : GlEnum) (offset : ℕ) (bytes : List ℕ) (there : Option Buffer) → BuffersAgree (buffer_sub_data_by w target offset bytes there) (buffer_sub_data_by d target offset bytes there) given
  agree_changed_by target offset bytes None = a
  agree_changed_by target offset bytes (Some buffer) = agree_stored target _

  pub agree_changed : (target : GlEnum) (offset : ℕ) (bytes : List ℕ) → BuffersAgree (buffer_sub_data_effect w target offset bytes) (buffer_sub_data_effect d target offset bytes) given
  agree_changed target offset bytes =
      subst (λ there. BuffersAgree (buffer_sub_data_by w target offset bytes there) (buffer_sub_data_effect d target offset bytes) given) (sym (same_bound target)) (agree_changed_by target offset bytes (bound d target))

  pub agree_deleted : (id : ℕ) (x : Name) → map.get w.names id ≡ Some x → BuffersAgree (without_buffer w id x.number) (delete_buffers_effect d x.number) given
  agree_deleted id x there = rw (a.names.live id x there) record {
    names = agree-removed w.names d.names given a.names id x there;
    objects = ap (λ m. map.remove m x.number) a.objects;
    array = ap (unbound x.number) a.array;
    element = ap (unbound x.number) a.element;
  }
