-- What is so where nothing is malformed or refused, by the tests alone.
use Rattle.std.proofs.Common.{◌≡◌, Bool, true, false, not, ◌||◌, if◌then◌else◌, Option, None, Some, is_some, is_none, IsSome, refl}
use Rattle.gl_plain.specs.declared.errors.GlError.{GlError}
use Rattle.gl_plain.specs.declared.objects.Name.{Name}

pub or_false : (p q : Bool) → (p || q) ≡ false → (p ≡ false) × (q ≡ false)
or_false true q h = absurd (cc)
or_false false q h = (refl, h)

pub not_false : (b : Bool) → not b ≡ false → b ≡ true
not_false true h = refl
not_false false h = absurd (cc)

-- a name that is not in use
pub none_of : (o : Option Name) → is_some o ≡ false → o ≡ None
none_of None h = refl
none_of (Some x) h = absurd (cc)

-- what is not missing is there
pub some_of : {X : Type 0} (o : Option X) → is_none o ≡ false → IsSome o
some_of None h = absurd (cc)
some_of (Some x) h = refl

-- neither of two refusals
pub none_refused : (b c : Bool) (e f : GlError) → (if b then Some e else if c then Some f else None) ≡ None → (b ≡ false) × (c ≡ false)
none_refused true c e f h = absurd (cc)
none_refused false true e f h = absurd (cc)
none_refused false false e f h = (refl, refl)

-- what is not refused by a test and what follows is refused by neither
pub not_refused_by : (b : Bool) (e : GlError) (rest : Option GlError) → (if b then Some e else rest) ≡ None → (b ≡ false) × (rest ≡ None)
not_refused_by true e rest h = absurd (cc)
not_refused_by false e rest h = (refl, h)
