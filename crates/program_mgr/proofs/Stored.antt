-- That what is given for an element has room among the values.
use Prim.Native.Nat.{zero, suc}
use Rattle.std.proofs.Common.{◌≡◌, ◌≤◌, ◌<◌, ◌⊎◌, inl, inr, ℕ, ℤ, pos, negsuc, ◌+◌, ◌*◌, ◌-◌, List, length, Bool, true, false, not, ◌==◌, ◌||◌, ◌&&◌, if◌then◌else◌, Option, None, Some, refl, sym, ◌∙◌, ap, subst, arith}
use Rattle.std.proofs.Math.Nat.{mul_comm}
use Rattle.std.proofs.lemmas.Nat.{mul-le}
use Rattle.std.proofs.lemmas.Bool.{leb-true}
use Rattle.std.proofs.lemmas.Bool.Decides.{eqb_tells}
use Rattle.gl_base.specs.declared.gl_enum.GlEnum.{GlEnum}
use Rattle.gl_plain.specs.declared.errors.GlError.{GlError}
use Rattle.gl_plain.specs.declared.programs.Executable.{Executable}
use Rattle.gl_plain.specs.declared.programs.Uniform.{Uniform}
use Rattle.gl_plain.specs.Bytes.{overwritten}
use Rattle.gl_plain.specs.subjects.Links.{words_of, words_in, is_sampler}
use Rattle.gl_plain.specs.subjects.Uniforms.{ElementPlace, place_of, place_refusal, element_refusal, is_nowhere, is_given_kind, is_matrix, given_words, own_type, boolean_type, suits, stored_count, words_stored, values_by, with_uniform}
use Rattle.program_mgr.proofs.Locations.{place_bound, words_some}

-- what holds of each kind
each_kind : (P : ℕ → Type 0) → P 0 → P 1 → P 2 → P 3 → P 4 → P 5 → P 6 → P 7 → P 8 → P 9 → P 10 → P 11 → (k : ℕ) → k < 12 → P k
each_kind P a b c d e f g h i j k l zero lt = a
each_kind P a b c d e f g h i j k l (suc zero) lt = b
each_kind P a b c d e f g h i j k l (suc (suc zero)) lt = c
each_kind P a b c d e f g h i j k l (suc (suc (suc zero))) lt = d
each_kind P a b c d e f g h i j k l (suc (suc (suc (suc zero)))) lt = e
each_kind P a b c d e f g h i j k l (suc (suc (suc (suc (suc zero))))) lt = f
each_kind P a b c d e f g h i j k l (suc (suc (suc (suc (suc (suc zero)))))) lt = g
each_kind P a b c d e f g h i j k l (suc (suc (suc (suc (suc (suc (suc zero))))))) lt = h
each_kind P a b c d e f g h i j k l (suc (suc (suc (suc (suc (suc (suc (suc zero)))))))) lt = i
each_kind P a b c d e f g h i j k l (suc (suc (suc (suc (suc (suc (suc (suc (suc zero))))))))) lt = j
each_kind P a b c d e f g h i j k l (suc (suc (suc (suc (suc (suc (suc (suc (suc (suc zero)))))))))) lt = k
each_kind P a b c d e f g h i j k l (suc (suc (suc (suc (suc (suc (suc (suc (suc (suc (suc zero))))))))))) lt = l
each_kind P a b c d e f g h i j k l (suc (suc (suc (suc (suc (suc (suc (suc (suc (suc (suc (suc n)))))))))))) lt = absurd (omega arith)

own_fits : (k : ℕ) → k < 12 → given_words k ≤ words_of (own_type k)
own_fits = each_kind (λ k. given_words k ≤ words_of (own_type k)) (omega arith) (omega arith) (omega arith) (omega arith) (omega arith) (omega arith) (omega arith) (omega arith) (omega arith) (omega arith) (omega arith) (omega arith)

boolean_fits : (k : ℕ) → k < 12 → is_matrix k ≡ false → given_words k ≤ words_of (boolean_type k)
boolean_fits = each_kind (λ k. is_matrix k ≡ false → given_words k ≤ words_of (boolean_type k)) (λ e. omega arith) (λ e. omega arith) (λ e. omega arith) (λ e. omega arith) (λ e. omega arith) (λ e. omega arith) (λ e. omega arith) (λ e. omega arith) (λ e. omega arith) (λ e. absurd (cc)) (λ e. absurd (cc)) (λ e. absurd (cc))

same_type : (a b : GlEnum) → (a.0 == b.0) ≡ true → a ≡ b
same_type a b e = elim (eqb_tells a.0 b.0) [ inl p ↦ (λ i. record { 0 = p.1 i }) | inr p ↦ absurd (cc) ]

or_cases : (a b : Bool) → (a || b) ≡ true → (a ≡ true) ⊎ (b ≡ true)
or_cases true b e = inl refl
or_cases false b e = inr e

pub and_cases : (a b : Bool) → (a && b) ≡ true → (a ≡ true) × (b ≡ true)
and_cases true b e = (refl, e)
and_cases false b e = absurd (cc)

not_true : (b : Bool) → not b ≡ true → b ≡ false
not_true true e = absurd (cc)
not_true false e = refl

pub kind_fits : (kind : ℕ) (uniform : GlEnum) → kind < 12 → suits kind uniform ≡ true → given_words kind ≤ words_of uniform
kind_fits kind uniform lt e = elim (or_cases _ _ e) [
  | inl p ↦ elim (or_cases _ _ p) [
    | inl own ↦ subst (λ (u : GlEnum). given_words kind ≤ words_of u) (sym (same_type uniform (own_type kind) own)) (own_fits kind lt)
    | inr b ↦ let q = and_cases (not (is_matrix kind)) (uniform.0 == (boolean_type kind).0) b in
        subst (λ (u : GlEnum). given_words kind ≤ words_of u) (sym (same_type uniform (boolean_type kind) q.1)) (boolean_fits kind lt (not_true (is_matrix kind) q.0))
  ]
  | inr s ↦ let q = and_cases (kind == 5) (is_sampler uniform) s in sampled q.0
] where
  sampled : (kind == 5) ≡ true → given_words kind ≤ words_of uniform
  sampled is = elim (eqb_tells kind 5) [ inl p ↦ subst (λ k. given_words k ≤ words_of uniform) (sym p.1) (words_some uniform) | inr p ↦ absurd (cc) ]

not_refused : (b : Bool) (e : GlError) (rest : Option GlError) → (if not b then Some e else rest) ≡ None → b ≡ true
not_refused true e rest is = refl
not_refused false e rest is = absurd (cc)

pub has_room : (us : List Uniform) (values : List ℕ) (location : ℤ) (kind : ℕ) (count : ℤ) (bytes : List ℕ) (p : ElementPlace) → place_of us location ≡ Some p
    → (is_nowhere location ≡ true) ⊎ (place_refusal (place_of us location) kind count bytes ≡ None) → kind < 12 → length values ≡ words_in us → p.word + given_words kind * stored_count p count ≤ length values
has_room us values (negsuc n) kind count bytes p is taken lt len = absurd (cc)
has_room us values (pos l) kind count bytes p is (inl e) lt len = absurd (cc)
has_room us values (pos l) kind count bytes p is (inr none) lt len =
    let refused : element_refusal p kind count bytes ≡ None = subst (λ (o : Option ElementPlace). place_refusal o kind count bytes ≡ None) is none in
    let fits : given_words kind ≤ words_of p.uniform.kind = kind_fits kind p.uniform.kind lt (not_refused (suits kind p.uniform.kind) _ _ refused) in
    let part : given_words kind * stored_count p count ≤ words_of p.uniform.kind * (p.uniform.size - p.element) = mul-le _ _ _ _ fits (omega arith) in
    let all : p.word + (p.uniform.size - p.element) * words_of p.uniform.kind ≤ 0 + words_in us = place_bound us l 0 p is in
    omega (arith, part, all, len, mul_comm (words_of p.uniform.kind) (p.uniform.size - p.element))

pub stored_is : (e : Executable) (location : ℤ) (kind : ℕ) (count : ℤ) (bytes : List ℕ) (p : ElementPlace) (values : List ℕ) → place_of e.answer.uniforms location ≡ Some p
    → values ≡ overwritten e.values p.word (words_stored p kind count bytes) → record e { values = values } ≡ with_uniform location kind count bytes e
stored_is e location kind count bytes p values is made =
    ap {B = Executable} (λ (vs : List ℕ). record e { values = vs }) (made ∙ sym (ap (λ (o : Option ElementPlace). values_by o kind count bytes e.values) is))

pub known_kind : (kind : ℕ) → is_given_kind kind ≡ true → kind < 12
known_kind kind e = omega (arith, leb-true kind 11 (and_cases _ _ e).1)
