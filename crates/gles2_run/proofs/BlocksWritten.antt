-- Text that is written in blocks.
use Rattle.std.proofs.Common.{◌≡◌, ℕ, ◌+◌, ◌<◌, List, [], ◌++◌, length, take, drop, get_or, Option, None, Some, Result, Ok, Err, OnOk, OnErr, ◌⊎◌, inl, inr, refl, sym, ◌∙◌, ap, subst, append_assoc, append-nil}
use Rattle.std.specs.Io.KnownBytes.{Appends}
use Rattle.std.proofs.KnownBytes.{Appends-trans}
use Rattle.io_edge.specs.Causes.{Rose}
use Rattle.io_edge.specs.Pieces.{AppendsFront}
use Rattle.report_text.specs.Ends.{end_text}
use Rattle.report_text.specs.Lines.{lines}
use Rattle.report_text.specs.declared.end.End.TheVariants.{NoMemory}
use Rattle.gles2_run.proofs.LinesSoFar.{lines-more, lines-front}
use Rattle.report_text.specs.declared.statuses.TheConstants.{WRITE_FAULT, NO_MEMORY}
use Rattle.gles2_run.specs.Written.{AppendsCut, AppendsFrontCut, ClosesShort, HasWritten, HasWrittenFront}

-- nothing was written yet
pub none_written : (held : Option (List ℕ)) (waiting : List ℕ) → HasWritten held held waiting waiting
none_written None waiting = record { written = []; whole = refl; gained = tt }
none_written (Some held) waiting = record { written = []; whole = refl; gained = sym (append-nil held) }

-- more text waits
pub written_more : (before after : Option (List ℕ)) (text waiting more : List ℕ) → HasWritten before after text waiting → HasWritten before after (text ++ more) (waiting ++ more)
written_more before after text waiting more so_far = record {
  written = so_far.written;
  whole = ap (λ (t : List ℕ). t ++ more) so_far.whole ∙ append_assoc so_far.written waiting more;
  gained = so_far.gained;
}

module _ (before between after : Option (List ℕ)) (text waiting : List ℕ) (so_far : HasWritten before between text waiting) where
  -- of what waited some was written
  pub written_further : (left : List ℕ) → HasWritten between after waiting left → HasWritten before after text left
  written_further left next = record {
    written = so_far.written ++ next.written;
    whole = so_far.whole ∙ ap (λ (w : List ℕ). so_far.written ++ w) next.whole ∙ sym (append_assoc so_far.written next.written left);
    gained = Appends-trans before between after so_far.written next.written so_far.gained next.gained;
  }

  -- all that waited was written
  pub written_whole : Appends between after waiting → Appends before after text
  written_whole gained = rw so_far.whole (Appends-trans before between after so_far.written waiting so_far.gained gained)

  -- of what waited a front was written
  pub written_front : AppendsFront between after waiting → AppendsFront before after text
  written_front part = (
    so_far.written ++ part.0,
    part.1,
    so_far.whole ∙ ap (λ (w : List ℕ). so_far.written ++ w) part.2 ∙ sym (append_assoc so_far.written part.0 part.1),
    Appends-trans before between after so_far.written part.0 so_far.gained part.3,
  )

  -- of what waited a front was written or waits
  pub written_front_further : (left : List ℕ) → HasWrittenFront between after waiting left → HasWrittenFront before after text left
  written_front_further left next = (
    so_far.written ++ next.0,
    next.1,
    so_far.whole ∙ ap (λ (w : List ℕ). so_far.written ++ w) next.2 ∙ sym (append_assoc so_far.written next.0 next.1),
    record {
      written = so_far.written ++ next.3.written;
      whole = ap (λ (w : List ℕ). so_far.written ++ w) next.3.whole ∙ sym (append_assoc so_far.written next.3.written left);
      gained = Appends-trans before between after so_far.written next.3.written so_far.gained next.3.gained;
    },
  )

-- a text is a front of itself
pub whole_front : (before after : Option (List ℕ)) (text waiting : List ℕ) → HasWritten before after text waiting → HasWrittenFront before after text waiting
whole_front before after text waiting so_far = (text, [], sym (append-nil text), so_far)

-- a front of a text is one of what is longer
pub written_front_more : (before after : Option (List ℕ)) (text waiting more : List ℕ) → HasWrittenFront before after text waiting → HasWrittenFront before after (text ++ more) waiting
written_front_more before after text waiting more part =
    (part.0, part.1 ++ more, ap (λ (t : List ℕ). t ++ more) part.2 ∙ append_assoc part.0 part.1 more, part.3)

-- the same of a front that the sink gained
pub gained_front_more : (before after : Option (List ℕ)) (text more : List ℕ) → AppendsFront before after text → AppendsFront before after (text ++ more)
gained_front_more before after text more part =
    (part.0, part.1 ++ more, ap (λ (t : List ℕ). t ++ more) part.2 ∙ append_assoc part.0 part.1 more, part.3)

module _ {T : Type 0} (line : ℕ → T → List ℕ) (items : List T) (before after : Option (List ℕ)) (front waiting : List ℕ) (k : ℕ) where
  -- one line more waits
  pub one_line : (item : T) → k < length items → item ≡ get_or items k item → HasWritten before after (front ++ lines line 0 (take k items)) waiting
      → HasWritten before after (front ++ lines line 0 (take (k + 1) items)) (waiting ++ line k item)
  one_line item inside is so_far =
      let more = written_more before after (front ++ lines line 0 (take k items)) waiting (line k item) so_far in
      let same : (front ++ lines line 0 (take k items)) ++ line k item ≡ front ++ lines line 0 (take (k + 1) items) =
      append_assoc front (lines line 0 (take k items)) (line k item) ∙ ap (λ (t : List ℕ). front ++ t) (sym (lines-more line items item k inside is)) in
      subst (λ (t : List ℕ). HasWritten before after t (waiting ++ line k item)) same more

  -- the lines so far are a front of all
  pub all_lines : front ++ lines line 0 items ≡ (front ++ lines line 0 (take k items)) ++ lines line (length (take k items)) (drop k items)
  all_lines = ap (λ (t : List ℕ). front ++ t) (lines-front line items k) ∙ sym (append_assoc front (lines line 0 (take k items)) _)

-- behind a text the line that there was no memory, or a front of it
pub cut_behind : {E : Type 0} (before between after : Option (List ℕ)) (text line : List ℕ) (result : Result (Unit {0}) E) → Appends before between text → line ≡ end_text NoMemory
    → OnOk result (Appends between after line) → OnErr result (AppendsFront between after line) → AppendsCut before after text
cut_behind before between after text line (Ok u) gained is whole part = (line, [], sym is ∙ sym (append-nil line), Appends-trans before between after text line gained whole)
cut_behind before between after text line (Err e) gained is whole part = (part.0, part.1, sym is ∙ part.2, Appends-trans before between after text part.0 gained part.3)

-- The replies are written, then the journal, then the end. What waits at first is empty, what waits behind the replies is w1, and behind
-- the journal w2.
module _ (before first : Option (List ℕ)) (w0 replies journal ending : List ℕ) (empty : w0 ≡ []) where
  behind_none : w0 ++ replies ≡ replies
  behind_none = ap (λ (w : List ℕ). w ++ replies) empty

  -- there was no memory for a reply's line
  pub replies_short : (left : List ℕ) → HasWrittenFront before first (w0 ++ replies) left → HasWrittenFront before first (replies ++ journal) left
  replies_short left part = written_front_more before first replies left journal (subst (λ (t : List ℕ). HasWrittenFront before first t left) behind_none part)

  -- a write of replies failed
  pub replies_fault : AppendsFront before first (w0 ++ replies) → AppendsFront before first ((replies ++ journal) ++ ending)
  replies_fault part = gained_front_more before first (replies ++ journal) ending (gained_front_more before first replies journal (subst (AppendsFront before first) behind_none part))

  module _ (second : Option (List ℕ)) (w1 : List ℕ) (one : HasWritten before first (w0 ++ replies) w1) where
    -- the replies wait or are written, and the journal waits
    both_wait : HasWritten before first (replies ++ journal) (w1 ++ journal)
    both_wait = written_more before first replies w1 journal (subst (λ (t : List ℕ). HasWritten before first t w1) behind_none one)

    -- there was no memory for the line of a driver call
    pub journal_short : (left : List ℕ) → HasWrittenFront first second (w1 ++ journal) left → HasWrittenFront before second (replies ++ journal) left
    journal_short left part = written_front_further before first second (replies ++ journal) (w1 ++ journal) both_wait left part

    -- a write of the journal failed
    pub journal_fault : AppendsFront first second (w1 ++ journal) → AppendsFront before second ((replies ++ journal) ++ ending)
    journal_fault part = gained_front_more before second (replies ++ journal) ending (written_front before first second (replies ++ journal) (w1 ++ journal) both_wait part)

    module _ (last : Option (List ℕ)) (w2 : List ℕ) (two : HasWritten first second (w1 ++ journal) w2) where
      -- what was done waits or is written
      all_wait : HasWritten before second (replies ++ journal) w2
      all_wait = written_further before first second (replies ++ journal) (w1 ++ journal) both_wait w2 two

      -- there was no memory for the end
      pub end_short : HasWrittenFront before second (replies ++ journal) w2
      end_short = whole_front before second (replies ++ journal) w2 all_wait

      -- all that waits behind the end, too
      all_text : HasWritten before second ((replies ++ journal) ++ ending) (w2 ++ ending)
      all_text = written_more before second (replies ++ journal) w2 ending all_wait

      -- a write of the end failed
      pub end_fault : (bytes : List ℕ) → bytes ≡ w2 ++ ending → AppendsFront second last bytes → AppendsFront before last ((replies ++ journal) ++ ending)
      end_fault bytes is part = written_front before second last ((replies ++ journal) ++ ending) (w2 ++ ending) all_text (subst (AppendsFront second last) is part)

      -- all is written
      pub end_written : (bytes : List ℕ) → bytes ≡ w2 ++ ending → Appends second last bytes → Appends before last ((replies ++ journal) ++ ending)
      end_written bytes is gained = written_whole before second last ((replies ++ journal) ++ ending) (w2 ++ ending) all_text (subst (Appends second last) is gained)

module _ (before between after : Option (List ℕ)) (text ending waiting : List ℕ) (part : HasWrittenFront before between text waiting) where
  -- behind the lines that were made the sink gained a front of the line that there was no memory
  short_cut : AppendsCut between after waiting → AppendsFrontCut before after text
  short_cut cut =
      let gained = written_whole before between after (part.0 ++ cut.0) (waiting ++ cut.0) (written_more before between part.0 waiting cut.0 part.3) cut.3 in
      (part.0, part.1, part.2, (cut.0, cut.1, cut.2, gained))

  -- a write of the lines that were made failed
  short_fault : AppendsFront between after waiting → AppendsFront before after (text ++ ending)
  short_fault fault =
      let front = gained_front_more before after part.0 part.1 (written_front before between after part.0 waiting part.3 fault) in
      gained_front_more before after text ending (subst (AppendsFront before after) (sym part.2) front)

  -- how a run closes that had no memory for a line
  pub closes_short : {Whole : Type 0} (status was kept is : ℕ) → kept ≡ was → ClosesShort waiting status between after kept is
      → Whole ⊎ ((status ≡ WRITE_FAULT) × Rose was is × AppendsFront before after (text ++ ending)) ⊎ ((status ≡ NO_MEMORY) × AppendsFrontCut before after text)
  closes_short status was kept is same (inl cut) = inr (inr (cut.0, short_cut cut.1))
  closes_short status was kept is same (inr fault) = inr (inl (fault.0, subst (λ (n : ℕ). Rose n is) same fault.1, short_fault fault.2))
