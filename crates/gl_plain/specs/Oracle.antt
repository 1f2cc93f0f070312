-- The answers that a run is given: for each kind of question a list that goes on for ever, in the order in which the questions are asked.
use Rattle.std.specs.Prelude.{ℕ, ◌+◌, ◌==◌, if◌then◌else◌, List, [], ◌∷◌, Option, None, Some, slice_get}
use Rattle.std.specs.List.{list_any}
use Prim.Native.Nat.{zero, suc}
use Rattle.gl_plain.specs.declared.driver_calls.Answer.{Answer}
use Rattle.gl_plain.specs.declared.driver_calls.Answer.TheVariants as answer
use Rattle.gl_plain.specs.declared.driver_calls.Answers.{Answers}
use Rattle.gl_plain.specs.declared.programs.LinkAnswer.{LinkAnswer}
use Rattle.gl_plain.specs.declared.programs.Verdict.{Verdict}
use Rattle.gl_plain.specs.subjects.Links.{default_verdict, default_link}
use Rattle.gl_plain.specs.declared.driver_calls.Stored.{Stored}
use Rattle.gl_plain.specs.declared.driver_calls.Stored.TheVariants as room

-- the first answer of a list
abbrev pub first : {X : Type 0} → (ℕ → X) → X
first answers = answers 0

-- the answers behind the first
abbrev pub behind : {X : Type 0} → (ℕ → X) → ℕ → X
behind answers k = answers (suc k)

-- this answer, and then the others
abbrev pub led_by : {X : Type 0} → X → (ℕ → X) → ℕ → X
led_by x answers zero = x
led_by x answers (suc k) = answers k

-- the answers behind as many as there are names
abbrev pub behind_all : {X : Type 0} → List ℕ → (ℕ → X) → ℕ → X
behind_all [] answers = answers
behind_all (id ∷ ids) answers = behind_all ids (behind answers)

-- n, n + 1, n + 2 and so on
abbrev pub counted_from : ℕ → ℕ → ℕ
counted_from n k = n + k

-- the lists, one for each kind of question
pub record Oracle : Type 0 where
  -- the numbers that new buffers get
  pub buffers : ℕ → ℕ
  -- the numbers that new textures get
  pub textures : ℕ → ℕ
  -- the numbers that new renderbuffers get
  pub renderbuffers : ℕ → ℕ
  -- the numbers that new framebuffers get
  pub framebuffers : ℕ → ℕ
  -- the numbers that new shaders and programs get
  pub programs : ℕ → ℕ
  -- what compilations, links and validations say
  pub compile : ℕ → Verdict
  pub link : ℕ → LinkAnswer
  pub validate : ℕ → Verdict
  -- the pixels that are read, before they are cut or filled to the length that is asked for
  pub pixels : ℕ → List ℕ
  -- whether there is room for what is to be stored
  pub stored : ℕ → Stored

-- the answers where an input gives none: objects are numbered from 1, all goes well, nothing is said or active, pixels are zero, and there is room
abbrev pub default_answers : Oracle
default_answers = record {
  buffers = counted_from 1;
  textures = counted_from 1;
  renderbuffers = counted_from 1;
  framebuffers = counted_from 1;
  programs = counted_from 1;
  compile = λ k. default_verdict;
  link = λ k. default_link;
  validate = λ k. default_verdict;
  pixels = λ k. [];
  stored = λ k. room.Done;
}

-- all goes well, there is always room, and the driver is never lost
abbrev pub no_answers : Answers
no_answers = record { compile = []; link = []; validate = []; pixels = []; oom = []; lost = None }

-- what a compilation says by the answer that is given for it, if one of that kind is
abbrev pub compile_in : Option Answer → Verdict
compile_in (Some (answer.Compile ok log)) = record { ok = ok; log = log }
compile_in (Some answer.Done) = default_verdict
compile_in (Some (answer.Name n)) = default_verdict
compile_in (Some answer.Oom) = default_verdict
compile_in (Some (answer.Link a)) = default_verdict
compile_in (Some (answer.Validate ok log)) = default_verdict
compile_in (Some (answer.Pixels bytes)) = default_verdict
compile_in None = default_verdict

-- what a link says
abbrev pub link_in : Option Answer → LinkAnswer
link_in (Some (answer.Link a)) = a
link_in (Some answer.Done) = default_link
link_in (Some (answer.Name n)) = default_link
link_in (Some answer.Oom) = default_link
link_in (Some (answer.Compile ok log)) = default_link
link_in (Some (answer.Validate ok log)) = default_link
link_in (Some (answer.Pixels bytes)) = default_link
link_in None = default_link

-- what a validation says
abbrev pub validate_in : Option Answer → Verdict
validate_in (Some (answer.Validate ok log)) = record { ok = ok; log = log }
validate_in (Some answer.Done) = default_verdict
validate_in (Some (answer.Name n)) = default_verdict
validate_in (Some answer.Oom) = default_verdict
validate_in (Some (answer.Compile ok log)) = default_verdict
validate_in (Some (answer.Link a)) = default_verdict
validate_in (Some (answer.Pixels bytes)) = default_verdict
validate_in None = default_verdict

-- the pixels of a read
abbrev pub pixels_in : Option Answer → List ℕ
pixels_in (Some (answer.Pixels bytes)) = bytes
pixels_in (Some answer.Done) = []
pixels_in (Some (answer.Name n)) = []
pixels_in (Some answer.Oom) = []
pixels_in (Some (answer.Compile ok log)) = []
pixels_in (Some (answer.Link a)) = []
pixels_in (Some (answer.Validate ok log)) = []
pixels_in None = []

-- whether there is room where this question is asked, by those that find none
abbrev pub stored_at : List ℕ → ℕ → Stored
stored_at oom question = if list_any (λ n. n == question) oom then room.Oom else room.Done

-- the answers that an input gives
abbrev pub answers_of : Answers → Oracle
answers_of given = record {
  buffers = counted_from 1;
  textures = counted_from 1;
  renderbuffers = counted_from 1;
  framebuffers = counted_from 1;
  programs = counted_from 1;
  compile = λ k. compile_in (slice_get given.compile k);
  link = λ k. link_in (slice_get given.link k);
  validate = λ k. validate_in (slice_get given.validate k);
  pixels = λ k. pixels_in (slice_get given.pixels k);
  stored = stored_at given.oom;
}
