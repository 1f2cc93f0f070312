-- The objects of a name space stay sound as names and objects come and go.
use Rattle.std.proofs.Common.{◌≡◌, ◌≢◌, ◌⊎◌, inl, inr, ℕ, Bool, true, false, ◌==◌, if◌then◌else◌, refl, sym, ap, ◌∙◌, subst, Option, None, Some, IsSome}
use Rattle.std.specs.FinMap as table
use Rattle.std.specs.FinSet as set
use Rattle.std.specs.Ordering.{nat_cmp}
use Rattle.std.proofs.lemmas.Bool.Decides.{eqb_tells}
use Rattle.gl_base.proofs.Found.{get-insert_here, get-insert_other, found-insert, get-remove_other, found-remove, test}
use Rattle.gl_plain.specs.declared.objects.Name.{Name}
use Rattle.gl_plain.specs.subjects.Names.{Names, NamesAgree, new_name, named, made_object, unbound}
use Rattle.gl_plain.specs.subjects.Textures.{IsOwned}
use Rattle.gl_plain.specs.subjects.Targets.{BoundObjects, AreObjectsSound, with_object, binding, bind_by, without_object}
use Rattle.gl_plain.proofs.NamesAgree.{agree-made}

-- names have numbers of their own
abbrev pub AreOne : Names → Type 0
AreOne names = (id other : ℕ) (x y : Name) → table.get names id ≡ Some x → table.get names other ≡ Some y → x.number ≡ y.number → id ≡ other

same_name : (x y : Name) → Some x ≡ Some y → x ≡ y
same_name x y e = cc

-- what is equal to something is there
pub there_is : {X : Type 0} (o : Option X) (x : X) → o ≡ Some x → IsSome o
there_is {X} o x e = subst (λ (y : Option X). IsSome y) (sym e) refl

-- what is bound behind a deletion is 0, or what was bound and is another
pub unbound_tells : (number bound : ℕ) → (unbound number bound ≡ 0) ⊎ ((bound ≢ number) × (unbound number bound ≡ bound))
unbound_tells number bound = elim (eqb_tells bound number) [
  | inl p ↦ inl (ap (λ (b : Bool). if b then 0 else bound) p.0)
  | inr p ↦ inr (p.1, ap (λ (b : Bool). if b then 0 else bound) p.0)
]

module _ {X : Type 0} (t : BoundObjects X) (s : AreObjectsSound t) where
  -- a new name
  pub objects_named : (id n : ℕ) → table.get t.names id ≡ None → AreObjectsSound (record t { names = named t.names id n })
  objects_named id n free = record {
    made = λ i x e is. elim (found-insert t.names id (new_name n) i x e) [
      | inl p ↦ let no : x.is_object ≡ false = ap (λ (y : Name). y.is_object) (sym p.1) in absurd (cc)
      | inr p ↦ s.made i x p.1 is
    ];
    owned = λ q x e. let o = s.owned q x e in record {
      id = o.id;
      name = o.name;
      there = get-insert_other t.names id (new_name n) o.id (λ is. let some : table.get t.names id ≡ Some o.name = ap (table.get t.names) (sym is) ∙ o.there in cc) ∙ o.there;
      number_is = o.number_is;
      made = o.made;
    };
    bound = s.bound;
  }

  -- an object that is there is bound, or none is
  pub objects_binding : (n : ℕ) → (n ≡ 0) ⊎ IsSome (table.get t.objects n) → AreObjectsSound (binding t n)
  objects_binding n there = record { made = s.made; owned = s.owned; bound = there }

  -- an object that is there is replaced
  pub objects_changed : (n : ℕ) (old new : X) → table.get t.objects n ≡ Some old → AreObjectsSound (record t { objects = table.insert t.objects n new })
  objects_changed n old new there = record {
    made = λ i x e is. kept x.number (s.made i x e is);
    owned = λ q x e. elim (found-insert t.objects n new q x e) [
      | inl p ↦ subst (IsOwned t.names) (sym p.0) (s.owned n old there)
      | inr p ↦ s.owned q x p.1
    ];
    bound = elim s.bound [ inl p ↦ inl p | inr p ↦ inr (kept t.bound p) ];
  }
    where
      kept : (q : ℕ) → IsSome (table.get t.objects q) → IsSome (table.get (table.insert t.objects n new) q)
      kept q is = elim (test q n) [
        | inl p ↦ subst (λ (k : ℕ). IsSome (table.get (table.insert t.objects n new) k)) (sym p.0) (there_is _ new (get-insert_here t.objects n new))
        | inr p ↦ subst (λ (o : Option X). IsSome o) (sym (get-insert_other t.objects n new q p.0)) is
      ]

  module _ (one : AreOne t.names) (id : ℕ) (x : Name) (there : table.get t.names id ≡ Some x) where
    -- the object of a name is made, and bound
    made_and_bound : (new : X) → AreObjectsSound (record { names = made_object t.names id x; objects = table.insert t.objects x.number new; bound = x.number })
    made_and_bound new = record {
      made = λ i y e is. elim (found-insert t.names id (record { number = x.number; is_object = true }) i y e) [
        | inl p ↦ subst (λ (z : Name). IsSome (table.get (table.insert t.objects x.number new) z.number)) p.1 (there_is _ new (get-insert_here t.objects x.number new))
        | inr p ↦ subst (λ (o : Option X). IsSome o) (sym (get-insert_other t.objects x.number new y.number (λ same. p.0 (one i id y x p.1 there same)))) (s.made i y p.1 is)
      ];
      owned = λ n y e. elim (found-insert t.objects x.number new n y e) [
        | inl p ↦ record { id = id; name = record { number = x.number; is_object = true }; there = get-insert_here t.names id _; number_is = sym p.0; made = refl }
        | inr p ↦ let o = s.owned n y p.1 in record {
          id = o.id;
          name = o.name;
          there = get-insert_other t.names id _ o.id (λ is. p.0 (sym o.number_is ∙ ap (λ (z : Name). z.number) (same_name o.name x (sym o.there ∙ ap (table.get t.names) is ∙ there)))) ∙ o.there;
          number_is = o.number_is;
          made = o.made;
        }
      ];
      bound = inr (there_is _ new (get-insert_here t.objects x.number new));
    }

    -- a name in use is bound
    pub objects_bound : (new : X) → AreObjectsSound (bind_by new t id (Some x))
    objects_bound new = elim x.is_object as (λ b. x.is_object ≡ b → AreObjectsSound (binding (if b then t else record { names = made_object t.names id x; objects = table.insert t.objects x.number new; bound = t.bound }) x.number)) [
      | true ↦ λ is. objects_binding x.number (inr (s.made id x there is))
      | false ↦ λ is. made_and_bound new
    ] refl

    -- a name in use is deleted
    pub objects_deleted : AreObjectsSound (without_object t id x.number)
    objects_deleted = record {
      made = λ i y e is. let p = found-remove t.names id i y e in
          subst (λ (o : Option X). IsSome o) (sym (get-remove_other t.objects x.number y.number (λ same. p.0 (one i id y x p.1 there same)))) (s.made i y p.1 is);
      owned = λ n y e. let p = found-remove t.objects x.number n y e in let o = s.owned n y p.1 in record {
        id = o.id;
        name = o.name;
        there = get-remove_other t.names id o.id (λ is. p.0 (sym o.number_is ∙ ap (λ (z : Name). z.number) (same_name o.name x (sym o.there ∙ ap (table.get t.names) is ∙ there)))) ∙ o.there;
        number_is = o.number_is;
        made = o.made;
      };
      bound = elim (unbound_tells x.number t.bound) [
        | inl p ↦ inl p
        | inr p ↦ elim s.bound [
          | inl q ↦ inl (p.1 ∙ q)
          | inr q ↦ inr (subst (λ (k : ℕ). IsSome (table.get (table.remove t.objects x.number) k)) (sym p.1) (subst (λ (o : Option X). IsSome o) (sym (get-remove_other t.objects x.number t.bound p.0)) q))
        ]
      ];
    }

-- the names behind the first bind of a name, on both sides
pub object_names : {X : Type 0} (new : X) (w d : BoundObjects X) (given : set.FinSet nat_cmp) → NamesAgree w.names d.names given → (id : ℕ) (x : Name) → table.get w.names id ≡ Some x → NamesAgree (with_object new w id x).names (with_object new d x.number x).names given
object_names new w d given names id x there = elim x.is_object as (λ b. NamesAgree
    (if b then w else record { names = made_object w.names id x; objects = table.insert w.objects x.number new; bound = w.bound }).names
    (if b then d else record { names = made_object d.names x.number x; objects = table.insert d.objects x.number new; bound = d.bound }).names given) [
      | true ↦ names
      | false ↦ agree-made w.names d.names given names id x there
    ]
