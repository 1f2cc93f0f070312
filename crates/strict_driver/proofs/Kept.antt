-- The buffers of the tables, beside the journal that has their bytes.
use Rattle.std.proofs.Common.{◌≡◌, ◌<◌, ℕ, List, [], ◌∷◌, ◌++◌, length, length-append, refl, sym, ◌∙◌, ap, arith, Option, None, Some, IsSome, Result, Ok, Err, OnOk}
use Rattle.std.proofs.lemmas.Option.{slice_get-get_or}
use Rattle.std.proofs.Math.Seq.{get_or-append_seam}
use Rattle.std.specs.FinMap as map
use Rattle.std.specs.Option.{option_map}
use Rattle.gl_base.specs.declared.gl_enum.GlEnum.{GlEnum}
use Rattle.gl_plain.specs.declared.driver_calls.DriverEntry.{DriverEntry}
use Rattle.gl_plain.specs.subjects.Buffers.{BufferTables, binding, bound, buffer_sub_data_by, buffer_sub_data_effect, changed}
use Rattle.strict_driver.specs.declared.buffers.KeptBuffer.{KeptBuffer}
use Rattle.strict_driver.specs.declared.buffers.Buffers.{Buffers}
use Rattle.strict_driver.specs.KeptBuffers.{bytes_at, bytes_stored, entry_bytes, buffer_in, buffers_of}
use Rattle.strict_driver.proofs.Tabulated.{get-map_values, map_values-insert}

-- the entry behind a journal stores its own bytes
pub bytes_behind : (js : List DriverEntry) (e : DriverEntry) (more : List DriverEntry) → bytes_at (js ++ e ∷ more) (length js) ≡ bytes_stored e.call
bytes_behind js e more =
    let within : length js < length (js ++ e ∷ more) = omega (arith, length-append js (e ∷ more)) in
    ap entry_bytes (slice_get-get_or (js ++ e ∷ more) (length js) e within ∙ ap Some (get_or-append_seam js e more e))

some_mapped : {X Y Z : Type 0} (f : X → Y) (g : X → Z) (o : Option X) → IsSome (option_map f o) → IsSome (option_map g o)
some_mapped f g None h = h
some_mapped f g (Some x) h = refl

-- what is bound beside one journal is bound beside any
pub bound_beside : (js j : List DriverEntry) (t : Buffers) (target : GlEnum) → IsSome (bound (buffers_of js t) target) → IsSome (bound (buffers_of j t) target)
bound_beside js j t target h =
    rw get-map_values (some_mapped (buffer_in js) (buffer_in j) (map.get t.names.objects (binding (buffers_of [] t) target)) (rw get-map_values at h))

-- the buffer that the target binds is another one
abbrev pub with_kept : Buffers → GlEnum → KeptBuffer → Buffers
with_kept t target kept = record t { names = record t.names { objects = map.insert t.names.objects (binding (buffers_of [] t) target) kept } }

module _ (js more : List DriverEntry) (t : Buffers) (target : GlEnum) (offset : ℕ) (bytes : List ℕ) (was now : KeptBuffer) (there : map.get t.names.objects (binding (buffers_of [] t) target) ≡ Some was)
    (settled : buffers_of (js ++ more) t ≡ buffers_of js t) where
  -- the buffer is bound, whatever comes behind the journal
  is_bound : (j : List DriverEntry) → bound (buffers_of j t) target ≡ Some (buffer_in j was)
  is_bound j = get-map_values (buffer_in j) t.names.objects (binding (buffers_of j t) target) ∙ ap (option_map (buffer_in j)) there

  stays : bound (buffers_of (js ++ more) t) target ≡ Some (buffer_in js was)
  stays = ap (λ (d : BufferTables). bound d target) settled ∙ is_bound js

  pub changed_kept : buffer_in (js ++ more) now ≡ changed (buffer_in js was) offset bytes → buffers_of (js ++ more) (with_kept t target now) ≡ buffer_sub_data_effect (buffers_of (js ++ more) t) target offset bytes
  changed_kept is =
      (λ i. record (buffers_of (js ++ more) t) {
        objects = (map_values-insert (buffer_in (js ++ more)) t.names.objects (binding (buffers_of [] t) target) now ∙ ap (map.insert (buffers_of (js ++ more) t).objects (binding (buffers_of [] t) target)) is) i;
      })
      ∙ sym (ap (buffer_sub_data_by (buffers_of (js ++ more) t) target offset bytes) stays)

pub where_ok : {T E : Type 0} {P Q : Type 0} (r : Result T E) → (P → Q) → OnOk r P → OnOk r Q
where_ok (Ok x) f p = f p
where_ok (Err e) f p = tt
