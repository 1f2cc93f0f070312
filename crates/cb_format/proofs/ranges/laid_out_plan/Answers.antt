-- GetBucketData has five words.
use Rattle.std.proofs.Common.{◌≡◌, ℕ, List, length, sym, subst}
use Rattle.std.specs.Option.{IsSomeAnd}
use Rattle.cb_format.specs.Layouts.{layout_of}
use Rattle.cb_format.specs.Plans.{IsLaidOut}
use Rattle.cb_format.proofs.ranges.laid_out_plan.Goals as goal

bucket_words : (number : ℕ) (words : List ℕ) → IsLaidOut number words → number ≡ 5 → length words ≡ 5
unfolding layout_of
bucket_words number words h e = let at_five : IsLaidOut 5 words = subst (λ n. IsLaidOut n words) e h in at_five

pub bucket_range-requires : goal.bucket_range-requires
bucket_range-requires c = bucket_words c.args.number c.args.words.now (subst (λ o. IsSomeAnd o (λ l. length c.args.words.now ≡ l.words)) (sym c.requires.found) c.requires.words) c.if-number-eq-GET_BUCKET_DATA.true
