-- What each status says, and when it comes, where the source tells what it has.
use Rattle.std.proofs.Common.{rules, ◌≡◌, ◌⊎◌, inl, inr, IsTrue, ℕ, ◌≤◌, List, [], Option, None, Some, Ok, Err, length-append, length, arith, ap}
use Rattle.std.specs.Option.{unwrap_or}
use Rattle.std.specs.Io.KnownBytes.{Consumes}
use Rattle.gl_plain.specs.declared.commands.Stop.{Stop}
use Rattle.cb_shm.specs.declared.script.Script.{Script}
use Rattle.ring_script.specs.Script.{script_in}
use Rattle.report_text.specs.declared.end.End.{End}
use Rattle.report_text.specs.declared.end.End.TheVariants as ends
use Rattle.gles2_run.specs.declared.desk.Desk.{Desk}
use Rattle.gles2_run.specs.Desks.{new_desk}
use Rattle.gles2_run.specs.Ends.{INPUT_LIMIT, HasBadLine, IsInput, IsRing, IsToldRing, IsTooLong, Means, Closes, RanLost, RanShort, RanTo, UnlessCut, UnlessLost, is_run, ring_run}

-- what was read whole is what the source told
same_input : {ended : Type 0} (words : List (List ℕ)) (before now : Option (List ℕ)) (was is : ℕ) (told read : List ℕ) → IsToldRing words before was is told → IsInput before now ended read → read ≡ told
same_input words before now was is told read t r = search rules

-- what was read is no longer than what the source told
no_longer : (before now : Option (List ℕ)) (told read : List ℕ) → before ≡ Some told → Consumes before now read → length read ≤ length told
no_longer None now told read e c = cc
no_longer (Some xs) None told read e c = absurd c
no_longer (Some xs) (Some ys) told read e c =
    let same : xs ≡ told = ap (λ (o : Option (List ℕ)). unwrap_or o []) e in
    omega (arith, ap length c, ap length same, length-append read ys)

module _ (words : List (List ℕ)) (before now : Option (List ℕ)) (ended : Type 0) (was is : ℕ) (desk : Desk) (status : ℕ) (held holds : Option (List ℕ)) (wrote writes : ℕ)
    (input : List ℕ) (told : IsToldRing words before was is input) (short : length input ≤ INPUT_LIMIT) where
  pub is_done : (end : End) (script : Script) → Means end words before now ended was is desk → Closes end desk status held holds wrote writes → script_in input ≡ Ok script → (ring_run script).stop ≡ None → UnlessLost (status ≡ 0) status
  is_done ends.Done script means closes text stop = search rules
  is_done ends.Usage script means closes text stop = search rules
  is_done ends.ReadFault script means closes text stop = search rules
  is_done ends.TooLong script means closes text stop = absurd (omega (arith, short, means.1.2, no_longer before now input means.1.0 told.told means.1.1))
  is_done (ends.BadLine number) script means closes text stop = search rules
  is_done (ends.Stopped at) script means closes text stop = search rules
  is_done ends.Lost script means closes text stop = search rules
  is_done ends.NoMemory script means closes text stop = search rules

  pub is_bad_line : (end : End) (number : ℕ) → Means end words before now ended was is desk → Closes end desk status held holds wrote writes → script_in input ≡ Err number → UnlessCut (status ≡ 3) status
  is_bad_line ends.TooLong number means closes text = absurd (omega (arith, short, means.1.2, no_longer before now input means.1.0 told.told means.1.1))
  is_bad_line ends.Done number means closes text = search rules
  is_bad_line ends.Usage number means closes text = search rules
  is_bad_line ends.ReadFault number means closes text = search rules
  is_bad_line (ends.BadLine n) number means closes text = search rules
  is_bad_line (ends.Stopped at) number means closes text = search rules
  is_bad_line ends.Lost number means closes text = search rules
  is_bad_line ends.NoMemory number means closes text = search rules

  pub is_stopped : (end : End) (script : Script) (stop : Stop) → Means end words before now ended was is desk → Closes end desk status held holds wrote writes → script_in input ≡ Ok script → (ring_run script).stop ≡ Some stop → UnlessLost (status ≡ 6) status
  is_stopped ends.TooLong script stop means closes text stopped = absurd (omega (arith, short, means.1.2, no_longer before now input means.1.0 told.told means.1.1))
  is_stopped ends.Done script stop means closes text stopped = search rules
  is_stopped ends.Usage script stop means closes text stopped = search rules
  is_stopped ends.ReadFault script stop means closes text stopped = search rules
  is_stopped (ends.BadLine n) script stop means closes text stopped = search rules
  is_stopped (ends.Stopped at) script stop means closes text stopped = search rules
  is_stopped ends.Lost script stop means closes text stopped = search rules
  is_stopped ends.NoMemory script stop means closes text stopped = search rules

-- what a status says of the words, of the source and of the desk
pub record Said (words : List (List ℕ)) (before now : Option (List ℕ)) (ended : Type 0) (desk : Desk) (status : ℕ) : Type 0 where
  pub ring_run : IsTrue (is_run status) → (stop : Option Stop) × RanTo before now ended stop desk
  pub done : status ≡ 0 → IsRing words × RanTo before now ended None desk
  pub bad_line : status ≡ 3 → IsRing words × ((number : ℕ) × HasBadLine before now ended number)
  pub stopped : status ≡ 6 → IsRing words × ((stop : Stop) × RanTo before now ended (Some stop) desk)
  pub lost : status ≡ 8 → IsRing words × RanLost before now ended desk
  pub cut_short : status ≡ 7 → (desk ≡ new_desk) ⊎ RanShort before now ended desk ⊎ RanLost before now ended desk ⊎ ((stop : Option Stop) × RanTo before now ended stop desk)
  pub too_long : status ≡ 9 → IsRing words × IsTooLong before now

-- what each status says
module _ (words : List (List ℕ)) (before now : Option (List ℕ)) (ended : Type 0) (was is : ℕ) (desk : Desk) (status : ℕ) (held holds : Option (List ℕ)) (wrote writes : ℕ) where
  -- the script was run
  ran : (end : End) → Means end words before now ended was is desk → Closes end desk status held holds wrote writes → IsTrue (is_run status) → (stop : Option Stop) × RanTo before now ended stop desk
  ran ends.Done means closes h = (None, means.1)
  ran ends.Usage means closes h = search rules
  ran ends.ReadFault means closes h = search rules
  ran ends.TooLong means closes h = search rules
  ran (ends.BadLine n) means closes h = search rules
  ran (ends.Stopped at) means closes h = (Some at, means.1)
  ran ends.Lost means closes h = search rules
  ran ends.NoMemory means closes h = search rules

  -- to its end
  ran_to_end : (end : End) → Means end words before now ended was is desk → Closes end desk status held holds wrote writes → status ≡ 0 → IsRing words × RanTo before now ended None desk
  ran_to_end ends.Done means closes h = means
  ran_to_end ends.Usage means closes h = search rules
  ran_to_end ends.ReadFault means closes h = search rules
  ran_to_end ends.TooLong means closes h = search rules
  ran_to_end (ends.BadLine n) means closes h = search rules
  ran_to_end (ends.Stopped at) means closes h = search rules
  ran_to_end ends.Lost means closes h = search rules
  ran_to_end ends.NoMemory means closes h = search rules

  -- a line is none
  has_bad_line : (end : End) → Means end words before now ended was is desk → Closes end desk status held holds wrote writes → status ≡ 3 → IsRing words × ((number : ℕ) × HasBadLine before now ended number)
  has_bad_line ends.Done means closes h = search rules
  has_bad_line ends.Usage means closes h = search rules
  has_bad_line ends.ReadFault means closes h = search rules
  has_bad_line ends.TooLong means closes h = search rules
  has_bad_line (ends.BadLine n) means closes h = (means.0, (n, means.1))
  has_bad_line (ends.Stopped at) means closes h = search rules
  has_bad_line ends.Lost means closes h = search rules
  has_bad_line ends.NoMemory means closes h = search rules

  -- to a malformed command
  ran_to_stop : (end : End) → Means end words before now ended was is desk → Closes end desk status held holds wrote writes → status ≡ 6 → IsRing words × ((stop : Stop) × RanTo before now ended (Some stop) desk)
  ran_to_stop ends.Done means closes h = search rules
  ran_to_stop ends.Usage means closes h = search rules
  ran_to_stop ends.ReadFault means closes h = search rules
  ran_to_stop ends.TooLong means closes h = search rules
  ran_to_stop (ends.BadLine n) means closes h = search rules
  ran_to_stop (ends.Stopped at) means closes h = (means.0, (at, means.1))
  ran_to_stop ends.Lost means closes h = search rules
  ran_to_stop ends.NoMemory means closes h = search rules

  -- to the loss of the driver
  ran_to_loss : (end : End) → Means end words before now ended was is desk → Closes end desk status held holds wrote writes → status ≡ 8 → IsRing words × RanLost before now ended desk
  ran_to_loss ends.Done means closes h = search rules
  ran_to_loss ends.Usage means closes h = search rules
  ran_to_loss ends.ReadFault means closes h = search rules
  ran_to_loss ends.TooLong means closes h = search rules
  ran_to_loss (ends.BadLine n) means closes h = search rules
  ran_to_loss (ends.Stopped at) means closes h = search rules
  ran_to_loss ends.Lost means closes h = means
  ran_to_loss ends.NoMemory means closes h = search rules

  -- to want of memory
  ran_short : (end : End) → Means end words before now ended was is desk → Closes end desk status held holds wrote writes → status ≡ 7 → (desk ≡ new_desk) ⊎ RanShort before now ended desk ⊎ RanLost before now ended desk ⊎ ((stop : Option Stop) × RanTo before now ended stop desk)
  ran_short ends.Done means closes h = inr (inr (inr (None, means.1)))
  ran_short ends.Usage means closes h = inl means.3
  ran_short ends.ReadFault means closes h = inl means.3
  ran_short ends.TooLong means closes h = inl means.2
  ran_short (ends.BadLine n) means closes h = inl means.2
  ran_short (ends.Stopped at) means closes h = inr (inr (inr (Some at, means.1)))
  ran_short ends.Lost means closes h = inr (inr (inl means.1))
  ran_short ends.NoMemory means closes h = elim means.1 [ inl none ↦ inl none | inr front ↦ inr (inl front) ]

  -- the input is too long
  is_too_long : (end : End) → Means end words before now ended was is desk → Closes end desk status held holds wrote writes → status ≡ 9 → IsRing words × IsTooLong before now
  is_too_long ends.Done means closes h = search rules
  is_too_long ends.Usage means closes h = search rules
  is_too_long ends.ReadFault means closes h = search rules
  is_too_long ends.TooLong means closes h = (means.0, means.1)
  is_too_long (ends.BadLine n) means closes h = search rules
  is_too_long (ends.Stopped at) means closes h = search rules
  is_too_long ends.Lost means closes h = search rules
  is_too_long ends.NoMemory means closes h = search rules

  -- all of it
  pub says : (end : End) → Means end words before now ended was is desk → Closes end desk status held holds wrote writes → Said words before now ended desk status
  says end means closes = record {
    ring_run = ran end means closes;
    done = ran_to_end end means closes;
    bad_line = has_bad_line end means closes;
    stopped = ran_to_stop end means closes;
    lost = ran_to_loss end means closes;
    cut_short = ran_short end means closes;
    too_long = is_too_long end means closes;
  }
