-- The laws of a command: its zeroings, and then its own calls.
use Rattle.std.proofs.Common.{◌≡◌, inl, inr, ℕ, false, List, [], ◌∷◌, ◌++◌, Option, None, Some, refl, sym, ap, ◌∙◌, subst}
use Rattle.gl_plain.specs.declared.calls.Reply.{Reply}
use Rattle.gl_plain.specs.declared.errors.GlError.{GlError}
use Rattle.gl_plain.specs.declared.commands.Command.{Command}
use Rattle.gl_plain.specs.declared.commands.Command.TheVariants.{Noop, SetToken, Bucket, Object, Image, Draw, Query}
use Rattle.gl_plain.specs.declared.commands.QueryCommand.{QueryCommand}
use Rattle.gl_plain.specs.declared.commands.ObjectCommand.{ObjectCommand}
use Rattle.gl_plain.specs.declared.commands.ImageCommand.{ImageCommand}
use Rattle.gl_plain.specs.declared.commands.DrawCommand.{DrawCommand}
use Rattle.gl_laws.proofs.Stored.{whole_first_stored}
use Rattle.gl_plain.specs.declared.driver_calls.DriverCall.{DriverCall}
use Rattle.gl_plain.specs.declared.driver_calls.DriverEntry.{DriverEntry}
use Rattle.gl_plain.specs.subjects.Images.{Contents, AreWritten, read_contents}
use Rattle.gl_plain.specs.subjects.Raster.{IsAligned}
use Rattle.gl_plain.specs.Oracle.{Oracle, default_answers}
use Rattle.gl_plain.specs.State.{WireState, DriverTables, DriverState}
use Rattle.gl_plain.specs.driver.Allowed.{IsAllowed}
use Rattle.gl_plain.specs.driver.Answers.{told}
use Rattle.gl_plain.specs.Covers.{zeroings}
use Rattle.gl_plain.specs.Outcome.{Outcome}
use Rattle.gl_plain.specs.Wire.{is_bad, IsCommandData, command_refusal, whole_first, zeroed, own_step, step_by, wire_step, calls_by, own_calls, command_calls}
use Rattle.gl_plain.specs.Journal.{IsLegal, state_after, records_in}
use Rattle.gl_plain.specs.Parts.{calls_in}
use Rattle.gl_plain.specs.Records.{own_contents, own_records, contents_by, records_by, contents_after, step_records}
use Rattle.gl_plain.specs.Agreement.{TablesAgree, ImagesAgree, Agrees}
use Rattle.gl_plain.specs.Lawful.{Keeps}
use Rattle.gl_plain.proofs.Journals.{state_after-append, told-append}
use Rattle.gl_laws.specs.Laws.{MayGoOn, Left, Leaves}
use Rattle.gl_laws.proofs.Lists.{not_nil, no_entry, legal_split, records-append}
use Rattle.gl_laws.proofs.Tables.{with_errors}
use Rattle.gl_laws.proofs.Objects.{object_may, object_leaves}
use Rattle.gl_laws.proofs.ObjectImages.{object_images}
use Rattle.gl_laws.proofs.ImageCommands.{ImageLaws, image_may, image_leaves}
use Rattle.gl_laws.proofs.Draws.{draw_may, draw_leaves}
use Rattle.gl_laws.proofs.Aligned.{draw_aligned, image_alignments, object_alignments}
use Rattle.gl_laws.proofs.Queries.{query_may, query_leaves}
use Rattle.gl_laws.proofs.Copies.{copy_laws, copy_part_laws}
use Rattle.gl_laws.proofs.Mipmaps.{mipmap_laws}
use Rattle.gl_laws.proofs.Joined.{Behind, OwnLaws, OwnLeft, may_by, left_by, no_call}

-- Own calls, behind the zeroings

module _ (w : WireState) (aligned : IsAligned w.es.alignments) where
  -- what a command leaves that makes no call
  left_alone : (c : Command) (payload : List ℕ) (d : DriverState) → ((o : Oracle) → OwnLeft w d c payload o o []) → (o : Oracle) (es : List DriverEntry) → calls_in es ≡ [] → OwnLeft w d c payload (told es o) o es
  left_alone c payload d left o es h = no_entry (λ (gs : List DriverEntry). OwnLeft w d c payload (told gs o) o gs) (left o) es h

  -- the laws of a command that makes no driver call, and changes nothing that the driver has
  quiet : (c : Command) (payload : List ℕ) → ((o : Oracle) → own_calls w c payload o ≡ []) → ((d : DriverState) → Behind w d c → (o : Oracle) → OwnLeft w d c payload o o []) → OwnLaws w c payload
  quiet c payload none left = record {
    may = λ given d b o es next more l h. no_call es next more d (h ∙ none (told es o));
    leaves = λ d b o es l h. left_alone c payload d (left d b) o es (h ∙ none (told es o));
  }

  object_laws : (c : ObjectCommand) (payload : List ℕ) → is_bad w (Object c) ≡ false → command_refusal w.es (Object c) payload ≡ None → OwnLaws w (Object c) payload
  object_laws c payload fair allowed = record {
    may = λ given d b o es next more l h. object_may w.es d b.tables c payload fair allowed given o es next more l h;
    leaves = λ d b o es l h.
        let left = object_leaves w.es d b.tables c payload fair allowed o es l h in
        record {
          asked = left.asked;
          agrees = record {
            tables = left.agrees;
            images = subst (λ (k : Contents). ImagesAgree (own_step w (Object c) payload (told es o)).state.es.textures.objects (own_step w (Object c) payload (told es o)).state.es.renderbuffers.objects
                (own_step w (Object c) payload (told es o)).state.covers (own_step w (Object c) payload (told es o)).state.marks k) (sym left.contents)
                (object_images w.es d b.tables w.covers w.marks b.images c payload o es l h);
            aligned = subst IsAligned (sym (object_alignments w.es c payload (told es o))) aligned;
          };
          contents = ap read_contents left.contents;
          records = left.records;
        };
  }

  image_laws : (c : ImageCommand) (payload : List ℕ) → is_bad w (Image c) ≡ false → command_refusal w.es (Image c) payload ≡ None → OwnLaws w (Image c) payload
  image_laws c payload fair allowed = record {
    may = λ given d b o es next more l h. image_may w.es d b.tables w.covers w.marks (λ copy. copy_laws w.es d b.tables w.covers w.marks copy) (λ copy. copy_part_laws w.es d b.tables w.covers w.marks copy)
        (λ target. mipmap_laws w.es d b.tables w.covers w.marks target) b.images.screen aligned.unpack c payload b.written fair allowed given es next more h;
    leaves = λ d b o es l h.
        let left = image_leaves w.es d b.tables w.covers w.marks (λ copy. copy_laws w.es d b.tables w.covers w.marks copy) (λ copy. copy_part_laws w.es d b.tables w.covers w.marks copy)
        (λ target. mipmap_laws w.es d b.tables w.covers w.marks target) c payload b.written allowed b.images o es l h in
        record {
          asked = left.asked;
          agrees = record { tables = left.tables; images = left.images; aligned = subst IsAligned (sym (image_alignments w.es c payload (told es o))) aligned };
          contents = left.contents;
          records = left.records;
        };
  }

  draw_laws : (c : DrawCommand) (payload : List ℕ) → command_refusal w.es (Draw c) payload ≡ None → OwnLaws w (Draw c) payload
  draw_laws c payload allowed = record {
    may = λ given d b o es next more l h. draw_may w.es d (zeroed w (Draw c)).covers (zeroed w (Draw c)).marks b.tables b.images c allowed b.written es next more h;
    leaves = λ d b o es l h.
        let left = draw_leaves w.es d (zeroed w (Draw c)).covers (zeroed w (Draw c)).marks b.tables b.images c (whole_first_stored w (Draw c) payload allowed) b.written o es h in
        record { asked = left.asked; agrees = record { tables = left.tables; images = left.images; aligned = draw_aligned w.es c aligned allowed }; contents = left.contents; records = left.records };
  }

  query_laws : (c : QueryCommand) (payload : List ℕ) → command_refusal w.es (Query c) payload ≡ None → OwnLaws w (Query c) payload
  query_laws c payload allowed = record {
    may = λ given d b o es next more l h. query_may w.es d b.tables aligned c allowed b.images.screen b.written es next more h;
    leaves = λ d b o es l h.
        let left = query_leaves w.es d b.tables aligned c allowed (zeroed w (Query c)).covers (zeroed w (Query c)).marks b.images b.written o es l h in
        record { asked = left.asked; agrees = record { tables = left.tables; images = left.images; aligned = subst IsAligned (sym left.aligned) aligned }; contents = left.contents; records = left.records };
  }

  pub own_laws : (c : Command) (payload : List ℕ) → is_bad w c ≡ false → command_refusal w.es c payload ≡ None → OwnLaws w c payload
  own_laws Noop payload fair allowed = quiet Noop payload (λ o. refl) (λ d b o. record { asked = refl; agrees = record { tables = b.tables; images = b.images; aligned = aligned }; contents = refl; records = refl })
  own_laws (SetToken token) payload fair allowed =
      quiet (SetToken token) payload (λ o. refl) (λ d b o. record { asked = refl; agrees = record { tables = b.tables; images = b.images; aligned = aligned }; contents = refl; records = refl })
  own_laws (Bucket c) payload fair allowed = quiet (Bucket c) payload (λ o. refl) (λ d b o. record { asked = refl; agrees = record { tables = b.tables; images = b.images; aligned = aligned }; contents = refl; records = refl })
  own_laws (Object c) payload fair allowed = object_laws c payload fair allowed
  own_laws (Image c) payload fair allowed = image_laws c payload fair allowed
  own_laws (Draw c) payload fair allowed = draw_laws c payload allowed
  own_laws (Query c) payload fair allowed = query_laws c payload allowed

-- With the zeroings

module _ (w : WireState) (d : DriverState) (a : Agrees w d) where
  -- each driver call of a command may be made
  pub may_go_on : (c : Command) (payload : List ℕ) → is_bad w c ≡ false → IsCommandData c payload → MayGoOn w d c payload
  may_go_on c payload fair given o es next more l h = may_by w d a c payload (own_laws w a.aligned c payload fair) given (command_refusal w.es c payload) refl o es next more l h

  -- what a command leaves
  pub leaves_it : (c : Command) (payload : List ℕ) → is_bad w c ≡ false → Leaves w d c payload
  leaves_it c payload fair o es l h =
      let left = left_by w d a c payload (own_laws w a.aligned c payload fair) (command_refusal w.es c payload) refl o es l h in
      record { asked = left.asked; agrees = left.agrees; contents = left.contents; records = left.records }

  -- a command that was one step with the answers of these entries, which are its part, keeps to the laws
  pub keeps : (c : Command) (payload : List ℕ) → is_bad w c ≡ false → (w2 : WireState) (d2 : DriverState) (es : List DriverEntry) (reply : Reply) → IsLegal d es → d2 ≡ state_after d es
      → ((rest : Oracle) → wire_step w c payload (told es rest) ≡ record { state = w2; oracle = rest; reply = reply }) → ((rest : Oracle) → calls_in es ≡ command_calls w c payload (told es rest)) → Keeps (contents_after w.es c payload) (step_records w.es c payload) d es w2 d2
  keeps c payload fair w2 d2 es reply l driven step calls =
      let left : (rest : Oracle) → Left w d c payload (told es rest) rest es = λ rest. leaves_it c payload fair rest es l (calls rest) in
      subst (λ (z : DriverState). Keeps (contents_after w.es c payload) (step_records w.es c payload) d es w2 z) (sym driven) record {
        agrees = subst (λ (out : Outcome WireState). Agrees out.state (state_after d es)) (step default_answers) (left default_answers).agrees;
        contents_are = λ rest. (left rest).contents;
        records_are = λ rest. (left rest).records;
      }
