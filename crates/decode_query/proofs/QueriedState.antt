-- What the queries of state answer and what they are refused with.
use Rattle.std.proofs.Common.{◌≡◌, ◌≤◌, ℕ, Bool, true, false, ◌&&◌, ◌||◌, not, nat_lt, if◌then◌else◌, Option, None, Some, sym, ap, ◌∙◌, arith}
use Rattle.std.proofs.lemmas.Bool.Decides.{nat_tests}
use Rattle.gl_base.specs.declared.gl_enum.GlEnum.{GlEnum}
use Rattle.gl_base.specs.declared.limits.TheConstants.{LAST_ATTRIBUTE}
use Rattle.gl_plain.specs.declared.errors.GlError.{GlError}
use Rattle.gl_plain.specs.declared.errors.GlError.TheVariants.{InvalidEnum, InvalidValue}
use Rattle.gl_plain.specs.subjects.Parameters.{get_vertex_attrib_refusal, is_array_parameter, is_constant_value}
use Rattle.gl_laws.proofs.Refusals.{not_refused_by}

-- refused where one of two is so
abbrev pub refused_where : Bool → Bool → Option GlError
refused_where a b = if a || b then Some InvalidEnum else None

pub by_first : (a b r : Bool) → r ≡ a → r ≡ true → Some InvalidEnum ≡ refused_where a b
by_first a b r is yes' = ap (λ (x : Bool). refused_where x b) (sym yes' ∙ is)

pub by_second : (a b r q : Bool) → r ≡ a → r ≡ false → q ≡ b → q ≡ true → Some InvalidEnum ≡ refused_where a b
by_second a b r q is no' so yes' = λ i. refused_where ((sym no' ∙ is) i) ((sym yes' ∙ so) i)

pub by_neither : (a b r q : Bool) → r ≡ a → r ≡ false → q ≡ b → q ≡ false → None ≡ refused_where a b
by_neither a b r q is no' so none = λ i. refused_where ((sym no' ∙ is) i) ((sym none ∙ so) i)

-- an attribute that is not refused is one of the sixteen
pub attribute_within : (index : ℕ) (pname : GlEnum) (float : Bool) → get_vertex_attrib_refusal index pname float ≡ None → index ≤ LAST_ATTRIBUTE
attribute_within index pname float is =
    let known = not_refused_by (not (is_array_parameter pname || (float && is_constant_value pname))) InvalidEnum _ is in
    let within = not_refused_by (nat_lt LAST_ATTRIBUTE index) InvalidValue None known.1 in
    grind (arith, nat_tests, within.0)
