-- That the keys stay those of the list, also where one of both had no memory.
use Rattle.gl_plain.proofs.Keys.{keys_push, keys_back}
use Rattle.gl_plain.proofs.distinct.DistinctNumbers.add.Goals as goal

pub invariant_of-self-in-Err : goal.invariant_of-self-in-Err
invariant_of-self-in-Err c =
    rw c.in-Err.ensures.err (rw c.remove.ensures.rest (rw c.in-Ok.ensures.ok (keys_back c.self.inside.keys c.self.inside.listed c.from-key.result _ c.self.invariant (cc))))

pub invariant_of-self-in_default-push : goal.invariant_of-self-in_default-push
invariant_of-self-in_default-push c =
    rw c.in_default-push.ensures.ok (rw c.in-Ok.ensures.ok (rw c.from-key.ensures (keys_push c.self.inside.keys c.self.inside.listed c.args.number _ c.self.invariant)))
