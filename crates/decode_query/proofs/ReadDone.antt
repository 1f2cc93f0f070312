-- ReadPixels where it is not refused: its zeroings, and the read behind them.
use Rattle.std.proofs.Common.{◌≡◌, ◌≢◌, ◌==◌, ℕ, Bool, true, false, ◌||◌, arith, if◌then◌else◌, List, [], ◌∷◌, Option, None, Some, is_none, Result, Ok, Err, refl, sym, ap, ◌∙◌, subst}
use Rattle.std.proofs.lemmas.List.{take_at}
use Rattle.std.specs.Prelude.{replicate}
use Rattle.std.proofs.lemmas.Bool.Decides.{nat_tests}
use Rattle.std.specs.Option.{IsSome}
use Rattle.std.specs.Result.{IsErrAnd}
use Rattle.std.specs.FinMap as table
use Rattle.gl_plain.specs.declared.calls.Reply.{Reply}
use Rattle.gl_plain.specs.declared.calls.Reply.TheVariants as reply
use Rattle.gl_plain.specs.declared.commands.Command.TheVariants.{Query}
use Rattle.gl_plain.specs.declared.commands.QueryCommand.{QueryCommand}
use Rattle.gl_plain.specs.declared.commands.QueryCommand.TheVariants.{ReadPixels}
use Rattle.gl_plain.specs.declared.driver_calls.DriverCall.{DriverCall}
use Rattle.gl_plain.specs.declared.driver_calls.DriverCall.TheVariants as driver
use Rattle.gl_plain.specs.declared.driver_calls.ImageDriver.TheVariants as calls
use Rattle.gl_plain.specs.declared.driver_calls.DriverEntry.{DriverEntry}
use Rattle.gl_plain.specs.declared.driver_calls.Answer.TheVariants.{Pixels}
use Rattle.gl_plain.specs.declared.errors.Errors.{Errors}
use Rattle.gl_plain.specs.declared.image_words.ReadWords.{ReadWords}
use Rattle.gl_plain.specs.declared.stop.ExecStop.{ExecStop}
use Rattle.gl_plain.specs.declared.targets.AnyImage.{AnyImage}
use Rattle.gl_plain.specs.declared.targets.AnyImage.TheVariants as any
use Rattle.gl_plain.specs.declared.targets.Renderbuffer.{Renderbuffer}
use Rattle.gl_plain.specs.declared.targets.Target.{Target}
use Rattle.gl_plain.specs.declared.targets.Target.TheVariants as target
use Rattle.gl_plain.specs.Words.{is_negative, natural}
use Rattle.gl_plain.specs.subjects.Targets.{Drawable, target_of, colour_images, image_list, colour_view, colour_view_by, is_incomplete, renderbuffer_image, renderbuffer_at}
use Rattle.gl_plain.specs.subjects.Copies.{reads_nothing, is_any_pixel, is_over_data_limit, is_read_format, read_bytes, read_count, fitted}
use Rattle.gl_plain.specs.Oracle.{Oracle, behind, first, default_answers}
use Rattle.gl_plain.specs.Stops.{no_memory}
use Rattle.gl_plain.specs.driver.Answers.{told}
use Rattle.gl_plain.specs.Outcome.{Outcome}
use Rattle.gl_plain.specs.State.{Surface, WireState, DriverState}
use Rattle.gl_plain.specs.driver.Allowed.{IsAllowed}
use Rattle.gl_plain.specs.query.Refusal.{query_command_refusal}
use Rattle.gl_plain.specs.Covers.{zeroings, all_filled, all_marked}
use Rattle.gl_plain.specs.Wire.{zeroed, on_wire, whole_first, calls_by, command_calls}
use Rattle.gl_driver.specs.History.{History, Served, Caused}
use Rattle.gl_driver.specs.Performed.{Acts, Made, StoppedIn, MayMake}
use Rattle.gl_driver.specs.Stops.{stop_of_driver}
use Rattle.gl_driver.specs.declared.stop.DriverStop.{DriverStop}
use Rattle.gl_driver.proofs.Exits.{ends_alone, ends_done, passes_stop, passes_short, ends_own, ends_zeroed, own_means, passes_zeroing_stop}
use Rattle.gl_driver.proofs.Zeroed.{zeroings_may, own_may_behind}
use Rattle.texture_mgr.specs.declared.textures.Textures.{Textures}
use Rattle.texture_mgr.specs.Tables.{tables, covers}
use Rattle.target_mgr.specs.declared.targets.Targets.{Targets}
use Rattle.target_mgr.specs.Tables.{renderbuffers, framebuffers, marks}
use Rattle.svc_raster.specs.declared.raster.Raster.{Raster}
use Rattle.whole_images.specs.Views.{drawable}
use Rattle.whole_images.specs.Whole.{image_zeroings, MakesImagesWhole, IsColourThere}
use Rattle.whole_images.proofs.There.{colours_anyway, colours_there}
use Rattle.decode_query.specs.States.{IsReady, queries_in, means, own_part}
use Rattle.decode_query.proofs.Refused.{by_tests}

-- What it means that it is not refused

-- colours are there
has_colours : (any column row over incomplete readable none : Bool) → by_tests any column row over incomplete readable none ≡ None → none ≡ false
has_colours any column row over incomplete readable false h = refl
has_colours false column row over incomplete readable true h = absurd (cc)
has_colours true true row over incomplete readable true h = absurd (cc)
has_colours true false true over incomplete readable true h = absurd (cc)
has_colours true false false true incomplete readable true h = absurd (cc)
has_colours true false false false true readable true h = absurd (cc)
has_colours true false false false false false true h = absurd (cc)
has_colours true false false false false true true h = absurd (cc)

-- There is something to read, or nothing

pub no_side : (n m : ℕ) → n ≡ m → n ≡ 0 → (m == 0) ≡ true
no_side n m same none = grind (arith, nat_tests)

pub some_side : (n m : ℕ) → n ≡ m → n ≢ 0 → (m == 0) ≡ false
some_side n m same some = grind (arith, nat_tests)

-- there is something
pub some_pixels : (words : ReadWords) (w h : ℕ) → w ≡ natural words.width → h ≡ natural words.height → w ≢ 0 → h ≢ 0 → reads_nothing words ≡ false
some_pixels words w h width height columns rows = λ i. some_side w (natural words.width) width columns i || some_side h (natural words.height) height rows i

module _ (words : ReadWords) (bucket : ℕ) (x : Textures) (g : Targets) (r : Raster) (e : Errors) where
  abbrev the_command : QueryCommand
  the_command = ReadPixels words bucket

  abbrev before : WireState → WireState
  before = queries_in x g r e

  abbrev the_target : Target
  the_target = target_of (framebuffers g)

  abbrev the_read : DriverCall
  the_read = driver.Image (calls.ReadPixels words.x words.y words.width words.height)

  -- what it leaves, by whether there is nothing to read
  abbrev outcome_by : Bool → WireState → Oracle → Outcome WireState
  outcome_by nothing s o = on_wire (before s) (if nothing then record { state = (before s).es; oracle = o; reply = reply.Bytes [] } else record {
    state = (before s).es;
    oracle = record o { pixels = behind o.pixels };
    reply = reply.Bytes (read_bytes r.alignments.pack words (fitted (read_count (natural words.width) (natural words.height)) (first o.pixels)));
  })

  abbrev read_entry : List ℕ → List DriverEntry
  read_entry bytes = record { call = the_read; answer = Pixels bytes } ∷ []

  makes_read : reads_nothing words ≡ false → the_read ∷ [] ≡ (if reads_nothing words then [] else the_read ∷ [])
  makes_read some = sym (ap (λ (b : Bool). if b then [] else the_read ∷ []) some)

  -- The read itself, of at least one pixel
  module _ {D : Type 0} {history : D → History} {grown : D → D → Type 0} {v v2 : D} (some : reads_nothing words ≡ false) where
    -- the driver stopped at it, and `?` passes its stop on
    pub own_stops : {T : Type 0} {stop : DriverStop} (result : Result Reply ExecStop) → IsErrAnd result (λ e. e ≡ stop_of_driver stop) → Served history grown v v2 [] → Caused {T = T} (history v) (history v2) (Err stop) → Acts history grown (own_part the_command) before before v v2 result
    own_stops result passed served caused = passes_stop {m = own_part the_command} result passed served caused (λ s. refl) (λ s. makes_read some)

    -- there was no memory for the rows
    pub own_short : (bytes : List ℕ) (result : Result Reply ExecStop) → IsErrAnd result (λ e. e ≡ no_memory) → Served history grown v v2 (read_entry bytes) → Acts history grown (own_part the_command) before before v v2 result
    own_short bytes result passed served = passes_short {m = own_part the_command} result passed served (λ s. refl) (λ s. (default_answers, [], makes_read some))

    -- the reply has the rows
    pub own_done : (bytes rows : List ℕ) → Served history grown v v2 (read_entry bytes) → (history v2).stop ≡ (history v).stop → rows ≡ read_bytes r.alignments.pack words bytes → Acts history grown (own_part the_command) before before v v2 (Ok (reply.Bytes rows))
    own_done bytes rows served going is =
        let count : ℕ = read_count (natural words.width) (natural words.height) in
        let all : fitted count bytes ≡ bytes = take_at bytes (replicate count 0) count served.legal.0.answered in
        ends_done {m = own_part the_command} served going (λ s. refl) (λ s o. makes_read some)
        (λ s o. ap (λ (b : Bool). outcome_by b s (told (read_entry bytes) o)) some
        ∙ (λ i. record { state = before s; oracle = o; reply = reply.Bytes ((ap (read_bytes r.alignments.pack words) all ∙ sym is) i) }))

  module _ {d : DriverState} (ready : IsReady the_command before d) where
    taken : (s : WireState) → query_command_refusal (before s).es the_command ≡ None
    taken s =
        ap (λ (none : Bool). by_tests (is_any_pixel words.format words.kind) (is_negative words.width) (is_negative words.height) (is_over_data_limit r.alignments.pack words) (is_incomplete (drawable s.es.surface x g)) (is_read_format words.format words.kind) none)
        (colours_anyway x g s.es.surface ready.others.es.surface the_target)
        ∙ ready.taken

    -- so what it reads is there
    pub read_is_there : IsColourThere (renderbuffers g).objects the_target
    read_is_there =
        let b : Drawable = drawable ready.others.es.surface x g in
        colours_there b the_target
        (has_colours (is_any_pixel words.format words.kind) (is_negative words.width) (is_negative words.height) (is_over_data_limit r.alignments.pack words) (is_incomplete b) (is_read_format words.format words.kind) (is_none (colour_view b)) ready.taken)

    -- of no pixel it makes no call, and has no bytes
    pub reads_none : {D : Type 0} {history : D → History} {grown : D → D → Type 0} {v : D} {bytes : List ℕ} → ((a : D) → grown a a) → ((a b c : D) → grown a b → grown b c → grown a c) → reads_nothing words ≡ true → bytes ≡ [] → Acts history grown (means the_command) before before v v (Ok (reply.Bytes bytes))
    reads_none {bytes = bytes} itself further none empty =
        ends_own (Query the_command) [] itself further (λ s. ap (λ (b : Bool). if b then [] else colour_images the_target) none) (λ s. refl) taken
        (ends_alone {m = own_means (Query the_command) []} itself (λ s. refl) (λ s o. sym (ap (λ (b : Bool). if b then [] else the_read ∷ []) none))
        (λ s o. ap (λ (b : Bool). outcome_by b s o) none ∙ (λ i. record { state = before s; oracle = o; reply = reply.Bytes (sym empty i) })))

    module _ (some : reads_nothing words ≡ false) where
      same_images : (s : WireState) → colour_images the_target ≡ whole_first (before s) (Query the_command)
      same_images s = sym (ap (λ (b : Bool). if b then [] else colour_images the_target) some)

      same_calls : (s : WireState) → image_zeroings x g (colour_images the_target) ≡ zeroings (before s).es.textures.objects (before s).covers (before s).marks (whole_first (before s) (Query the_command))
      same_calls s = ap (image_zeroings x g) (same_images s)

      -- what it zeroes may be zeroed
      pub read_may_zero : MayMake d (image_zeroings x g (colour_images the_target))
      read_may_zero = subst (MayMake d) (sym (same_calls ready.others)) (zeroings_may (before ready.others) (Query the_command) [] ready.taken ready.may)

  module _ {D : Type 0} {history : D → History} {grown : D → D → Type 0} {v : D} (ready : IsReady the_command before (history v).state) (some : reads_nothing words ≡ false) where
    -- the driver stopped there, and `?` passes its stop on
    pub read_stops : {after : WireState → WireState} {v1 : D} {stop : DriverStop} (result : Result Reply ExecStop) → IsErrAnd result (λ e. e ≡ stop_of_driver stop) → StoppedIn history grown v v1 (image_zeroings x g (colour_images the_target)) stop
        → Acts history grown (means the_command) before after v v1 result
    read_stops result passed stopped = passes_zeroing_stop (Query the_command) [] result passed stopped (λ s. refl) (taken ready) (same_calls ready some)

    module _ {v1 : D} {x1 : Textures} {g1 : Targets} (whole : MakesImagesWhole history grown v v1 x x1 g g1 (colour_images the_target) (Ok tt)) where
      -- behind them it may be made
      pub read_allowed : IsAllowed (history v1).state the_read
      read_allowed =
          own_may_behind (before ready.others) (Query the_command) [] ready.taken ready.may (subst (Made history grown v v1) (same_calls ready some ready.others) whole.calls) the_read []
          (λ o. ap (λ (b : Bool). if b then [] else the_read ∷ []) some)

      -- and then it is done
      pub read_done : ((a b c : D) → grown a b → grown b c → grown a c) → {v2 : D} (result : Result Reply ExecStop) → Acts history grown (own_part the_command) (queries_in x1 g1 r e) (queries_in x1 g1 r e) v1 v2 result
          → Acts history grown (means the_command) before (queries_in x1 g1 r e) v v2 result
      read_done further {v2} result acts =
          let covers_are : (s : WireState) → covers x1 ≡ all_filled (tables x).objects (covers x) (whole_first (before s) (Query the_command)) = λ s. whole.covers_are ∙ ap (all_filled (tables x).objects (covers x)) (same_images ready some s) in
          let marks_are : (s : WireState) → marks g1 ≡ all_marked (marks g) (whole_first (before s) (Query the_command)) = λ s. whole.marks_are ∙ ap (all_marked (marks g)) (same_images ready some s) in
          let same : queries_in x1 g1 r e ≡ (λ s. zeroed (before s) (Query the_command)) =
          λ i s. record (before s) { es = record (before s).es { textures = whole.tables_are i; renderbuffers = whole.renderbuffers_are i; framebuffers = whole.framebuffers_are i }; covers = covers_are s i; marks = marks_are s i } in
          ends_zeroed (Query the_command) [] further result whole.calls (λ s. refl) (taken ready) (same_calls ready some)
          (subst (λ (b : WireState → WireState). Acts history grown (own_means (Query the_command) []) b (queries_in x1 g1 r e) v1 v2 result) same acts)

-- it goes by no code that is recorded
pub ready_anyway : (words : ReadWords) (bucket : ℕ) (x : Textures) (g : Targets) (r : Raster) (e other : Errors) (d : DriverState) → IsReady (ReadPixels words bucket) (queries_in x g r e) d → IsReady (ReadPixels words bucket) (queries_in x g r other) d
ready_anyway words bucket x g r e other d ready =
    let same : (o : Oracle) → command_calls (queries_in x g r other ready.others) (Query (ReadPixels words bucket)) [] o ≡ command_calls (queries_in x g r e ready.others) (Query (ReadPixels words bucket)) [] o =
    λ o. ap (λ refused. calls_by refused (queries_in x g r other ready.others) (Query (ReadPixels words bucket)) [] o) ready.taken
    ∙ sym (ap (λ refused. calls_by refused (queries_in x g r e ready.others) (Query (ReadPixels words bucket)) [] o) ready.taken) in
    record { others = ready.others; taken = ready.taken; may = λ o es next more legal front. ready.may o es next more legal (front ∙ same (told es o)) }
