-- The commands that are left up to put.
use Prim.Native.Nat.{suc}
use Rattle.std.proofs.Common.{◌≡◌, ◌≢◌, ◌<◌, ℕ, ◌+◌, [], refl, arith, true, false, eqb, Option, None, Some}
use Rattle.std.proofs.lemmas.Grind.{common_steps}
use Rattle.std.proofs.lemmas.Bool.Decides.{nat_tests}
use Rattle.gl_plain.specs.declared.commands.Malformed.{Malformed}
use Rattle.cb_format.specs.Ring.{size_in, next_get, first_fault}
use Rattle.cb_fetch.specs.Seen.{Reads, Seen, header_read, command_at, copies_at, fault_at, seen_from, seen_first}

unequal : (a b : ℕ) → a ≢ b → eqb a b ≡ false
unequal a b apart = grind (arith, common_steps)

equal : (a b : ℕ) → a ≡ b → eqb a b ≡ true
equal a b same = grind (arith, common_steps)

module _ (reads : Reads) (sizes : ℕ → Option ℕ) (entries put n k get : ℕ) (then : ℕ → Seen) where
  -- the next command is the one at get, whose tests hold
  pub left_next : get ≢ put → fault_at reads sizes entries put n get ≡ None
      → seen_from reads sizes entries put (suc k) n get then ≡ seen_first None (command_at reads n get) (seen_from reads sizes entries put k (n + copies_at reads n get) (next_get entries get (size_in (header_read reads n get))) then)
  left_next apart fair = rw (unequal get put apart, fair) refl

  -- or none, since a test fails
  pub left_bad : (kind : Malformed) (place : ℕ) → get ≢ put → fault_at reads sizes entries put n get ≡ Some kind → place ≡ get
      → seen_from reads sizes entries put (suc k) n get then ≡ record { commands = []; stop = Some (record { kind = kind; place = place }) }
  unfolding command_at
  left_bad kind place apart bad is = rw (unequal get put apart, bad, is) refl

  -- or what comes behind put
  pub left_none : get ≡ put → seen_from reads sizes entries put (suc k) n get then ≡ then n
  left_none same = rw (equal get put same) refl

  -- a command whose tests hold stands where put is below the entries
  pub put_below : fault_at reads sizes entries put n get ≡ None → put < entries
  unfolding fault_at first_fault
  put_below fair = grind (arith, nat_tests, common_steps)
