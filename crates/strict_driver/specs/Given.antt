-- The answers that a strict driver gives, in order.
use Rattle.std.specs.Prelude.{◌≤◌, ◌⊎◌, ℕ, Bool, false, ◌+◌, ◌^◌, ◌==◌, Option, None, Some, slice_get}
use Prim.Native.Nat.{zero, suc}
use Rattle.std.specs.Ordering.{nat_cmp}
use Rattle.std.specs.FinSet as set
use Rattle.gl_plain.specs.declared.driver_calls.Answers.{Answers}
use Rattle.gl_plain.specs.Oracle.{Oracle, compile_in, counted_from, link_in, pixels_in, stored_at, validate_in}
use Rattle.gl_plain.specs.State.{NamesGiven}
use Rattle.strict_driver.specs.declared.counts.Counts.{Counts}

-- nothing was given, and nothing was asked
abbrev pub no_counts : Counts
no_counts = record { buffers = 0; textures = 0; renderbuffers = 0; framebuffers = 0; programs = 0; compiles = 0; links = 0; validates = 0; reads = 0; stores = 0 }

-- what it will answer from these counts on
abbrev pub answers_from : Answers → Counts → Oracle
answers_from loaded n = record {
  buffers = counted_from (n.buffers + 1);
  textures = counted_from (n.textures + 1);
  renderbuffers = counted_from (n.renderbuffers + 1);
  framebuffers = counted_from (n.framebuffers + 1);
  programs = counted_from (n.programs + 1);
  compile = λ k. compile_in (slice_get loaded.compile (n.compiles + k));
  link = λ k. link_in (slice_get loaded.link (n.links + k));
  validate = λ k. validate_in (slice_get loaded.validate (n.validates + k));
  pixels = λ k. pixels_in (slice_get loaded.pixels (n.reads + k));
  stored = λ k. stored_at loaded.oom (n.stores + k);
}

-- a count is the last of its type
abbrev pub IsLast : ℕ → Type 0
IsLast count = 2 ^ 64 ≤ count + 1

-- one of the counts of names is
abbrev pub HasLastName : Counts → Type 0
HasLastName n = (IsLast n.buffers ⊎ (IsLast n.textures ⊎ IsLast n.programs)) ⊎ (IsLast n.renderbuffers ⊎ IsLast n.framebuffers)

-- one of the counts is the last of its type
abbrev pub HasLast : Counts → Type 0
HasLast n = HasLastName n ⊎ ((IsLast n.compiles ⊎ IsLast n.links) ⊎ (IsLast n.validates ⊎ (IsLast n.reads ⊎ IsLast n.stores)))

-- the names 1 to n
abbrev pub up_to : ℕ → set.FinSet nat_cmp
up_to zero = set.empty
up_to (suc n) = set.insert (up_to n) (suc n)

-- the names that were given so far
abbrev pub given_by : Counts → NamesGiven
given_by n = record {
  buffers = up_to n.buffers;
  textures = up_to n.textures;
  renderbuffers = up_to n.renderbuffers;
  framebuffers = up_to n.framebuffers;
  programs = up_to n.programs;
}

-- the driver is lost at the next call, once so many were made
abbrev pub is_lost_at : Option ℕ → ℕ → Bool
is_lost_at None made = false
is_lost_at (Some calls) made = made == calls
