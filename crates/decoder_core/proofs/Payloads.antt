-- The bytes beside a command that was read whole are those that its words name.
use Rattle.std.proofs.Common.{◌≡◌, ℕ, Bool, true, false, not, ◌&&◌, ◌==◌, if◌then◌else◌, List, length, Option, None, Some, refl, sym, ◌∙◌, ap, subst, arith}
use Rattle.std.proofs.lemmas.Bool.Decides.{nat_tests}
use Rattle.gl_plain.specs.declared.numbers.TheConstants.{NOOP, SET_TOKEN, GEN_BUFFERS, BIND_BUFFER, BUFFER_DATA, BUFFER_SUB_DATA, DELETE_BUFFERS, VERTEX_ATTRIB_4F, VERTEX_ATTRIB_POINTER, ENABLE_VERTEX_ATTRIB_ARRAY, DISABLE_VERTEX_ATTRIB_ARRAY, SET_BUCKET_SIZE, SET_BUCKET_DATA, GET_BUCKET_START, GET_BUCKET_DATA, CREATE_SHADER, SHADER_SOURCE, COMPILE_SHADER, DELETE_SHADER, CREATE_PROGRAM, ATTACH_SHADER, DETACH_SHADER, BIND_ATTRIB_LOCATION, LINK_PROGRAM, VALIDATE_PROGRAM, USE_PROGRAM, DELETE_PROGRAM, UNIFORM, GEN_TEXTURES, BIND_TEXTURE, DELETE_TEXTURES, GEN_RENDERBUFFERS, BIND_RENDERBUFFER, DELETE_RENDERBUFFERS, GEN_FRAMEBUFFERS, BIND_FRAMEBUFFER, DELETE_FRAMEBUFFERS, FRAMEBUFFER_TEXTURE_2D, FRAMEBUFFER_RENDERBUFFER, TEX_IMAGE_2D, TEX_SUB_IMAGE_2D, COPY_TEX_IMAGE_2D, COPY_TEX_SUB_IMAGE_2D, TEX_PARAMETERI, GENERATE_MIPMAP, RENDERBUFFER_STORAGE}
use Rattle.gl_plain.specs.declared.commands.Command.{Command}
use Rattle.gl_plain.specs.declared.commands.Command.TheVariants.{Bucket, Object, Image, Draw, Query}
use Rattle.gl_plain.specs.declared.commands.BucketCommand.{BucketCommand}
use Rattle.gl_plain.specs.declared.commands.DataWords.{DataWords}
use Rattle.gl_plain.specs.declared.commands.ObjectCommand.{ObjectCommand}
use Rattle.gl_plain.specs.declared.commands.ImageCommand.{ImageCommand}
use Rattle.gl_plain.specs.declared.commands.DrawCommand.{DrawCommand}
use Rattle.gl_plain.specs.declared.commands.QueryCommand.{QueryCommand}
use Rattle.gl_plain.specs.declared.commands.Fetched.{Fetched}
use Rattle.gl_plain.specs.Words.{data_at}
use Rattle.gl_plain.specs.State.{WireState}
use Rattle.gl_plain.specs.Wire.{data_words, given_to}
use Rattle.gl_plain.specs.subjects.Data.{IsData}
use Rattle.gl_plain.specs.subjects.Buckets.{Buckets, bucket_at, has_bucket, IsBucketData, breaks_bucket_rule, data_given}
use Rattle.gl_plain.specs.object.Commands.{command_or, object_command_in, program_command_in, target_command_in, object_data_words}
use Rattle.gl_plain.specs.object.Arguments.{IsDataOf}
use Rattle.gl_plain.specs.image.Commands.{image_command_in, image_data_words}
use Rattle.gl_plain.specs.Commands.{bucket_command_in, command_by, command_in, command_of}
use Rattle.cb_format.specs.Layouts.{layout_of}
use Rattle.cb_format.specs.Plans.{plan_of, data_plan, data_count}
use Rattle.cb_fetch.specs.Readable.{IsReadable}

-- what holds of each value that a test may choose holds of the one that is chosen
chosen : {A : Type 0} (P : A → Type 0) (b : Bool) (x : A) (rest : Option A) → (b ≡ true → P x) → ((y : A) → rest ≡ Some y → P y) → (y : A) → (if b then Some x else rest) ≡ Some y → P y
chosen P true x rest here there y is = let same : x ≡ y = cc in subst P same (here refl)
chosen P false x rest here there y is = there y is

-- and what holds of either of two commands holds of the one that is there
either : (P : ObjectCommand → Type 0) (o rest : Option ObjectCommand) → ((c : ObjectCommand) → o ≡ Some c → P c) → ((c : ObjectCommand) → rest ≡ Some c → P c) → (c : ObjectCommand) → command_or o rest ≡ Some c → P c
either P (Some x) rest here there c is = here c is
either P None rest here there c is = there c is

is_number : (number n : ℕ) → (number == n) ≡ true → number ≡ n
is_number number n e = grind (arith, nat_tests)

not_false : (b : Bool) → not b ≡ false → b ≡ true
not_false true h = refl
not_false false h = absurd (cc)

-- the bytes beside a command are those that its words name, where they are in shared memory
pub record IsBeside (w : DataWords) (payload : List ℕ) : Type 0 where
  pub shared : w.source ≡ 1 → length payload ≡ w.count
  pub none : w.source ≡ 0 → length payload ≡ 0

abbrev IsBesideOf : Option DataWords → List ℕ → Type 0
IsBesideOf None payload = Unit {0}
IsBesideOf (Some words) payload = IsBeside words payload

-- four words of data, from a place on
is_data : (words : List ℕ) (at : ℕ) (payload : List ℕ) → length payload ≡ data_count (data_plan at words) → IsBeside (data_at words at) payload
is_data words at payload long = record { shared = λ one. rw one at long; none = λ zero. rw zero at long }

plan_buffer_data : (words : List ℕ) → plan_of BUFFER_DATA words ≡ data_plan 3 words
unfolding layout_of
plan_buffer_data words = refl

plan_buffer_sub_data : (words : List ℕ) → plan_of BUFFER_SUB_DATA words ≡ data_plan 3 words
unfolding layout_of
plan_buffer_sub_data words = refl

plan_shader_source : (words : List ℕ) → plan_of SHADER_SOURCE words ≡ data_plan 1 words
unfolding layout_of
plan_shader_source words = refl

plan_bind_attrib_location : (words : List ℕ) → plan_of BIND_ATTRIB_LOCATION words ≡ data_plan 2 words
unfolding layout_of
plan_bind_attrib_location words = refl

plan_uniform : (words : List ℕ) → plan_of UNIFORM words ≡ data_plan 4 words
unfolding layout_of
plan_uniform words = refl

plan_tex_image_2d : (words : List ℕ) → plan_of TEX_IMAGE_2D words ≡ data_plan 8 words
unfolding layout_of
plan_tex_image_2d words = refl

plan_tex_sub_image_2d : (words : List ℕ) → plan_of TEX_SUB_IMAGE_2D words ≡ data_plan 8 words
unfolding layout_of
plan_tex_sub_image_2d words = refl

plan_set_bucket_data : (words : List ℕ) → plan_of SET_BUCKET_DATA words ≡ data_plan 2 words
unfolding layout_of
plan_set_bucket_data words = refl

module _ (number : ℕ) (words payload : List ℕ) (long : length payload ≡ data_count (plan_of number words)) where
  long_by : (n : ℕ) → (number == n) ≡ true → length payload ≡ data_count (plan_of n words)
  long_by n e = long ∙ ap (λ k. data_count (plan_of k words)) (is_number number n e)

  -- the bytes beside a command with data
  beside : (n at : ℕ) → plan_of n words ≡ data_plan at words → (number == n) ≡ true → IsBeside (data_at words at) payload
  beside n at plan e = is_data words at payload (long_by n e ∙ ap data_count plan)

  program_data : (c : ObjectCommand) → program_command_in number words ≡ Some c → IsBesideOf (object_data_words c) payload
  program_data =
      let P : ObjectCommand → Type 0 = λ c. IsBesideOf (object_data_words c) payload in
      chosen P (number == CREATE_SHADER) _ _ (λ e. tt)
      (chosen P (number == SHADER_SOURCE) _ _ (beside SHADER_SOURCE 1 (plan_shader_source words))
      (chosen P (number == COMPILE_SHADER) _ _ (λ e. tt)
      (chosen P (number == DELETE_SHADER) _ _ (λ e. tt)
      (chosen P (number == CREATE_PROGRAM) _ _ (λ e. tt)
      (chosen P (number == ATTACH_SHADER) _ _ (λ e. tt)
      (chosen P (number == DETACH_SHADER) _ _ (λ e. tt)
      (chosen P (number == BIND_ATTRIB_LOCATION) _ _ (beside BIND_ATTRIB_LOCATION 2 (plan_bind_attrib_location words))
      (chosen P (number == LINK_PROGRAM) _ _ (λ e. tt)
      (chosen P (number == VALIDATE_PROGRAM) _ _ (λ e. tt)
      (chosen P (number == USE_PROGRAM) _ _ (λ e. tt)
      (chosen P (number == DELETE_PROGRAM) _ _ (λ e. tt)
      (chosen P (number == UNIFORM) _ None (beside UNIFORM 4 (plan_uniform words)) (λ c is. cc)))))))))))))

  target_data : (c : ObjectCommand) → target_command_in number words ≡ Some c → IsBesideOf (object_data_words c) payload
  target_data =
      let P : ObjectCommand → Type 0 = λ c. IsBesideOf (object_data_words c) payload in
      chosen P (number == GEN_RENDERBUFFERS) _ _ (λ e. tt)
      (chosen P (number == BIND_RENDERBUFFER) _ _ (λ e. tt)
      (chosen P (number == DELETE_RENDERBUFFERS) _ _ (λ e. tt)
      (chosen P (number == GEN_FRAMEBUFFERS) _ _ (λ e. tt)
      (chosen P (number == BIND_FRAMEBUFFER) _ _ (λ e. tt)
      (chosen P (number == DELETE_FRAMEBUFFERS) _ _ (λ e. tt)
      (chosen P (number == FRAMEBUFFER_TEXTURE_2D) _ _ (λ e. tt)
      (chosen P (number == FRAMEBUFFER_RENDERBUFFER) _ None (λ e. tt) (λ c is. cc))))))))

  object_data : (c : ObjectCommand) → object_command_in number words ≡ Some c → IsBesideOf (object_data_words c) payload
  object_data =
      let P : ObjectCommand → Type 0 = λ c. IsBesideOf (object_data_words c) payload in
      chosen P (number == GEN_BUFFERS) _ _ (λ e. tt)
      (chosen P (number == BIND_BUFFER) _ _ (λ e. tt)
      (chosen P (number == BUFFER_DATA) _ _ (beside BUFFER_DATA 3 (plan_buffer_data words))
      (chosen P (number == BUFFER_SUB_DATA) _ _ (beside BUFFER_SUB_DATA 3 (plan_buffer_sub_data words))
      (chosen P (number == DELETE_BUFFERS) _ _ (λ e. tt)
      (chosen P (number == GEN_TEXTURES) _ _ (λ e. tt)
      (chosen P (number == BIND_TEXTURE) _ _ (λ e. tt)
      (chosen P (number == DELETE_TEXTURES) _ _ (λ e. tt)
      (chosen P (number == VERTEX_ATTRIB_4F) _ _ (λ e. tt)
      (chosen P (number == VERTEX_ATTRIB_POINTER) _ _ (λ e. tt)
      (chosen P (number == ENABLE_VERTEX_ATTRIB_ARRAY) _ _ (λ e. tt)
      (chosen P (number == DISABLE_VERTEX_ATTRIB_ARRAY) _ _ (λ e. tt) (either P (target_command_in number words) (program_command_in number words) target_data program_data))))))))))))

  image_data : (c : ImageCommand) → image_command_in number words ≡ Some c → IsBesideOf (image_data_words c) payload
  image_data =
      let P : ImageCommand → Type 0 = λ c. IsBesideOf (image_data_words c) payload in
      chosen P (number == TEX_IMAGE_2D) _ _ (beside TEX_IMAGE_2D 8 (plan_tex_image_2d words))
      (chosen P (number == TEX_SUB_IMAGE_2D) _ _ (beside TEX_SUB_IMAGE_2D 8 (plan_tex_sub_image_2d words))
      (chosen P (number == COPY_TEX_IMAGE_2D) _ _ (λ e. tt)
      (chosen P (number == COPY_TEX_SUB_IMAGE_2D) _ _ (λ e. tt)
      (chosen P (number == TEX_PARAMETERI) _ _ (λ e. tt)
      (chosen P (number == GENERATE_MIPMAP) _ _ (λ e. tt)
      (chosen P (number == RENDERBUFFER_STORAGE) _ None (λ e. tt) (λ c is. cc)))))))

  bucket_data : (c : BucketCommand) → bucket_command_in number words ≡ Some c → IsBucketData c payload
  bucket_data =
      let P : BucketCommand → Type 0 = λ c. IsBucketData c payload in
      chosen P (number == SET_BUCKET_SIZE) _ _ (λ e. tt)
      (chosen P (number == SET_BUCKET_DATA) _ _ (λ e. (beside SET_BUCKET_DATA 2 (plan_set_bucket_data words) e).shared)
      (chosen P (number == GET_BUCKET_START) _ _ (λ e. tt)
      (chosen P (number == GET_BUCKET_DATA) _ None (λ e. tt) (λ c is. cc))))

  -- what is so of the bytes beside a command
  abbrev IsBesideCommand : Command → Type 0
  IsBesideCommand (Object c) = IsBesideOf (object_data_words c) payload
  IsBesideCommand (Image c) = IsBesideOf (image_data_words c) payload
  IsBesideCommand (Bucket c) = IsBucketData c payload
  IsBesideCommand c = Unit {0}

  family_data : (bucket : Option BucketCommand) (object : Option ObjectCommand) (image : Option ImageCommand) (drawing : Option DrawCommand) (query : Option QueryCommand) → ((c : BucketCommand) → bucket ≡ Some c → IsBucketData c payload)
      → ((c : ObjectCommand) → object ≡ Some c → IsBesideOf (object_data_words c) payload) → ((c : ImageCommand) → image ≡ Some c → IsBesideOf (image_data_words c) payload) → (c : Command) → command_by bucket object image drawing query ≡ Some c → IsBesideCommand c
  family_data (Some b) object image drawing query first there last c is = let same : Bucket b ≡ c = cc in subst IsBesideCommand same (first b refl)
  family_data None (Some o) image drawing query first there last c is = let same : Object o ≡ c = cc in subst IsBesideCommand same (there o refl)
  family_data None None (Some i) drawing query first there last c is = let same : Image i ≡ c = cc in subst IsBesideCommand same (last i refl)
  family_data None None None (Some q) query first there last c is = let same : Draw q ≡ c = cc in subst IsBesideCommand same tt
  family_data None None None None (Some q) first there last c is = let same : Query q ≡ c = cc in subst IsBesideCommand same tt
  family_data None None None None None first there last c is = cc

  spelled_data : (c : Command) → command_in number words ≡ Some c → IsBesideCommand c
  spelled_data =
      chosen IsBesideCommand (number == NOOP) _ _ (λ e. tt)
      (chosen IsBesideCommand (number == SET_TOKEN) _ _ (λ e. tt) (family_data _ _ _ _ _ bucket_data object_data image_data))

-- of a command on a bucket
pub readable_bucket : (f : Fetched) → IsReadable f → (c : BucketCommand) → command_of f ≡ Some (Bucket c) → IsBucketData c f.payload
readable_bucket f readable c is = spelled_data f.number f.words.items f.payload readable.payload (Bucket c) is

-- data that is given from a bucket is as long as the words count
given_data : (buckets : Buckets) (words : Option DataWords) (payload : List ℕ) → breaks_bucket_rule buckets words ≡ false → IsBesideOf words payload → IsDataOf words (data_given buckets words payload)
given_data buckets None payload whole beside = tt
given_data buckets (Some w) payload whole beside = by_source (w.source == 2) refl whole
  where
    long : has_bucket buckets w ≡ true → length (bucket_at buckets w.a) ≡ w.count
    long h = grind (arith, nat_tests)

    by_source : (b : Bool) → (w.source == 2) ≡ b → (b && not (has_bucket buckets w)) ≡ false → IsData w (if b then bucket_at buckets w.a else payload)
    by_source true e h = record {
      shared = λ one. let two = is_number w.source 2 e in absurd (omega arith);
      bucket = λ two. long (not_false (has_bucket buckets w) h);
      none = λ zero. let two = is_number w.source 2 e in absurd (omega arith);
    }
    by_source false e h = record { shared = beside.shared; bucket = λ two. let f : (2 == 2) ≡ false = subst (λ n. (n == 2) ≡ false) two e in absurd (cc); none = beside.none }

-- what the execution of a command is given: its data, which breaks no rule of a bucket
pub record IsGiven (f : Fetched) (w : WireState) (c : Command) (payload : List ℕ) : Type 0 where
  pub given : IsDataOf (data_words c) payload
  pub whole : breaks_bucket_rule w.buckets (data_words c) ≡ false
  pub is : payload ≡ given_to w c f.payload

module _ (f : Fetched) (readable : IsReadable f) (w : WireState) where
  given_command : (c : Command) (words : Option DataWords) (beside payload : List ℕ) → IsBesideOf (data_words c) f.payload → words ≡ data_words c → beside ≡ f.payload → breaks_bucket_rule w.buckets words ≡ false → payload ≡ data_given w.buckets words beside
      → IsGiven f w c payload
  given_command c words beside payload lies named same whole from =
      let unbroken : breaks_bucket_rule w.buckets (data_words c) ≡ false = cc in
      let it : payload ≡ data_given w.buckets (data_words c) f.payload = cc in
      record { given = subst (IsDataOf (data_words c)) (sym it) (given_data w.buckets (data_words c) f.payload unbroken lies); whole = unbroken; is = it }

  -- of a command on objects
  pub given_object : (c : ObjectCommand) (words : Option DataWords) (beside payload : List ℕ) → command_of f ≡ Some (Object c) → words ≡ object_data_words c → beside ≡ f.payload → breaks_bucket_rule w.buckets words ≡ false → payload ≡ data_given w.buckets words beside
      → IsGiven f w (Object c) payload
  given_object c words beside payload spelled = given_command (Object c) words beside payload (spelled_data f.number f.words.items f.payload readable.payload (Object c) spelled)

  -- of a command on images
  pub given_image : (c : ImageCommand) (words : Option DataWords) (beside payload : List ℕ) → command_of f ≡ Some (Image c) → words ≡ image_data_words c → beside ≡ f.payload → breaks_bucket_rule w.buckets words ≡ false → payload ≡ data_given w.buckets words beside
      → IsGiven f w (Image c) payload
  given_image c words beside payload spelled = given_command (Image c) words beside payload (spelled_data f.number f.words.items f.payload readable.payload (Image c) spelled)
