-- What a command sees of the pixels that it is answered: nothing, unless it reads pixels.
use Rattle.std.proofs.Common.{◌≡◌, ℕ, Bool, true, false, not, if◌then◌else◌, ◌==◌, List, [], ◌∷◌, ◌++◌, Option, None, Some, is_some, Result, Ok, Err, refl, ap, subst}
use Rattle.std.specs.FinMap as map
use Rattle.std.specs.List.{AllByRecursion}
use Rattle.gl_base.specs.Rects.{is_empty}
use Rattle.gl_plain.specs.declared.commands.Command.{Command}
use Rattle.gl_plain.specs.declared.commands.Command.TheVariants.{Object, Image, Draw, Query}
use Rattle.gl_plain.specs.declared.commands.DrawCommand.{DrawCommand}
use Rattle.gl_plain.specs.declared.commands.DrawCommand.TheVariants.{Clear, DrawArrays, DrawElements}
use Rattle.gl_plain.specs.declared.commands.ImageCommand.{ImageCommand}
use Rattle.gl_plain.specs.declared.commands.ImageCommand.TheVariants.{TexImage2D, CopyTexImage2D, CopyTexSubImage2D, GenerateMipmap, RenderbufferStorage}
use Rattle.gl_plain.specs.declared.commands.ObjectCommand.{ObjectCommand}
use Rattle.gl_plain.specs.declared.commands.ObjectCommand.TheVariants.{BindBuffer, BufferData, BindTexture, BindRenderbuffer, BindFramebuffer, DeleteShader, LinkProgram, ValidateProgram, DeleteProgram}
use Rattle.gl_plain.specs.declared.commands.QueryCommand.{QueryCommand}
use Rattle.gl_plain.specs.declared.commands.QueryCommand.TheVariants.{ReadPixels, GetError, Words, Bytes}
use Rattle.gl_plain.specs.declared.driver_calls.Answer.{Answer}
use Rattle.gl_plain.specs.declared.driver_calls.DriverCall.{DriverCall}
use Rattle.gl_plain.specs.declared.driver_calls.DriverCall.TheVariants as driver
use Rattle.gl_plain.specs.declared.driver_calls.DriverEntry.{DriverEntry}
use Rattle.gl_plain.specs.declared.driver_calls.ImageDriver.TheVariants as calls
use Rattle.gl_plain.specs.declared.driver_calls.Stored.{Stored}
use Rattle.gl_plain.specs.declared.driver_calls.Stored.TheVariants as room
use Rattle.gl_plain.specs.declared.draws.DrawPlan.{DrawPlan}
use Rattle.gl_plain.specs.declared.errors.GlError.{GlError}
use Rattle.gl_plain.specs.declared.objects.Name.{Name}
use Rattle.gl_plain.specs.declared.programs.Program.{Program}
use Rattle.gl_plain.specs.subjects.Buffers.{BufferTables, bind_buffer_effect}
use Rattle.gl_plain.specs.subjects.Copies.{copy_rect, reads_nothing}
use Rattle.gl_plain.specs.subjects.Draws.{check_arrays, check_indexed}
use Rattle.gl_plain.specs.subjects.Images.{Contents, Covers, Marks}
use Rattle.gl_plain.specs.subjects.Programs.{ProgramTables, can_link, delete_program_effect, delete_shader_effect, number_of, program_at}
use Rattle.gl_plain.specs.subjects.Targets.{RenderbufferTables, bind_effect, new_framebuffer, new_renderbuffer}
use Rattle.gl_plain.specs.subjects.Textures.{TextureObjects, bind_texture_effect}
use Rattle.gl_plain.specs.Oracle.{Oracle, first}
use Rattle.gl_plain.specs.State.{DriverState, EsState, WireState, sources_of}
use Rattle.gl_plain.specs.Spaces.{Space, Buffers, Textures, Renderbuffers, Framebuffers}
use Rattle.gl_plain.specs.Outcome.{Outcome}
use Rattle.gl_plain.specs.object.Calls.{bind_buffer_call, bind_calls, bind_framebuffer_call, bind_renderbuffer_call, bind_texture_call, own_object_calls}
use Rattle.gl_plain.specs.object.Covers.{bound_covers, bound_marks, object_covers, object_marks}
use Rattle.gl_plain.specs.object.Step.{bind_outcome, delete_outcome, link_outcome, object_step, store_outcome, validate_outcome, with_object_reply}
use Rattle.gl_plain.specs.image.Covers.{image_covers, image_marks}
use Rattle.gl_plain.specs.image.Step.{image_step, image_stored, storage_stored}
use Rattle.gl_plain.specs.query.Step.{query_step}
use Rattle.gl_plain.specs.Wire.{calls_by, own_calls, own_step, on_wire, step_by, zeroed}
use Rattle.gl_plain.specs.Journal.{entry_after, records_in}
use Rattle.gl_plain.specs.Records.{Record, ReadRecord, call_records, contents_by, draw_records, if_drawn, image_contents, image_records, records_by, records_stored}
use Rattle.gl_laws.proofs.Joined.{zeroings_of}
use Rattle.gl_laws.proofs.PixelAnswers.{with_pixels, IsNoRead, HaveNoRead}

-- the same outcome with other pixels left
abbrev pub on_pixels : {S : Type 0} → (ℕ → List ℕ) → Outcome S → Outcome S
on_pixels p out = record { state = out.state; oracle = with_pixels p out.oracle; reply = out.reply }

-- whether a command reads pixels, by the code that it is refused with, if any
abbrev pub reads_pixels : Option GlError → Command → Bool
reads_pixels None (Query (ReadPixels words bucket)) = not (reads_nothing words)
reads_pixels refusal c = false

-- Steps

module _ (p : ℕ → List ℕ) (o : Oracle) where
  either_blind : {S : Type 0} (b : Bool) (x y seen_x seen_y : Outcome S) → seen_x ≡ on_pixels p x → seen_y ≡ on_pixels p y → (if b then seen_x else seen_y) ≡ on_pixels p (if b then x else y)
  either_blind true x y seen_x seen_y is_x is_y = is_x
  either_blind false x y seen_x seen_y is_x is_y = is_y

  bind_blind : (space : Space) (bind : EsState → EsState) (s : EsState) (id : ℕ) (x : Option Name) → bind_outcome space bind s id (with_pixels p o) x ≡ on_pixels p (bind_outcome space bind s id o x)
  bind_blind space bind s id (Some x) = refl
  bind_blind Buffers bind s id None = either_blind (id == 0) _ _ _ _ refl refl
  bind_blind Textures bind s id None = either_blind (id == 0) _ _ _ _ refl refl
  bind_blind Renderbuffers bind s id None = either_blind (id == 0) _ _ _ _ refl refl
  bind_blind Framebuffers bind s id None = either_blind (id == 0) _ _ _ _ refl refl

  store_blind : (s : EsState) (t : BufferTables) (answer : Stored) → store_outcome s t (with_pixels p o) answer ≡ on_pixels p (store_outcome s t o answer)
  store_blind s t room.Done = refl
  store_blind s t room.Oom = refl

  delete_blind : (delete : ℕ → ProgramTables) (s : EsState) (id : ℕ) → delete_outcome delete s id (with_pixels p o) ≡ on_pixels p (delete_outcome delete s id o)
  delete_blind delete s id = either_blind (id == 0) _ _ _ _ refl refl

  link_blind : (s : EsState) (number : ℕ) (x : Option Program) → link_outcome s number x (with_pixels p o) ≡ on_pixels p (link_outcome s number x o)
  link_blind s number None = refl
  link_blind s number (Some x) = either_blind (can_link s.programs.shaders x.attached) _ _ _ _ refl refl

  validate_blind : (s : EsState) (number : ℕ) (x : Option Program) → validate_outcome s number x (with_pixels p o) ≡ on_pixels p (validate_outcome s number x o)
  validate_blind s number None = refl
  validate_blind s number (Some x) = either_blind (is_some x.executable) _ _ _ _ refl refl

  object_blind : (s : EsState) (c : ObjectCommand) (payload : List ℕ) → object_step s c payload (with_pixels p o) ≡ on_pixels p (object_step s c payload o)
  object_blind s (BindBuffer target id) payload = ap (with_object_reply (BindBuffer target id)) (bind_blind Buffers (λ (t : EsState). record t { buffers = bind_buffer_effect t.buffers target id }) s id (map.get s.buffers.names id))
  object_blind s (BufferData target size usage words) payload = ap (with_object_reply (BufferData target size usage words)) (store_blind s _ (first o.stored))
  object_blind s (BindTexture target id) payload = ap (with_object_reply (BindTexture target id)) (bind_blind Textures (λ (t : EsState). record t { textures = bind_texture_effect t.textures target id }) s id (map.get s.textures.names id))
  object_blind s (BindRenderbuffer target id) payload = ap (with_object_reply (BindRenderbuffer target id)) (bind_blind Renderbuffers (λ (t : EsState). record t { renderbuffers = bind_effect new_renderbuffer t.renderbuffers id }) s id (map.get s.renderbuffers.names id))
  object_blind s (BindFramebuffer target id) payload = ap (with_object_reply (BindFramebuffer target id)) (bind_blind Framebuffers (λ (t : EsState). record t { framebuffers = bind_effect new_framebuffer t.framebuffers id }) s id (map.get s.framebuffers.names id))
  object_blind s (DeleteShader shader) payload = ap (with_object_reply (DeleteShader shader)) (delete_blind (delete_shader_effect s.programs) s shader)
  object_blind s (DeleteProgram program) payload = ap (with_object_reply (DeleteProgram program)) (delete_blind (delete_program_effect s.programs) s program)
  object_blind s (LinkProgram program) payload = ap (with_object_reply (LinkProgram program)) (link_blind s (number_of s.programs program) (program_at s.programs program))
  object_blind s (ValidateProgram program) payload = ap (with_object_reply (ValidateProgram program)) (validate_blind s (number_of s.programs program) (program_at s.programs program))
  object_blind s c payload = refl

  bound_covers_blind : (f : Covers) (id : ℕ) (x : Option Name) → bound_covers f id (with_pixels p o) x ≡ bound_covers f id o x
  bound_covers_blind f id None = refl
  bound_covers_blind f id (Some x) = refl

  bound_marks_blind : (m : Marks) (id : ℕ) (x : Option Name) → bound_marks m id (with_pixels p o) x ≡ bound_marks m id o x
  bound_marks_blind m id None = refl
  bound_marks_blind m id (Some x) = refl

  object_covers_blind : (s : EsState) (c : ObjectCommand) (f : Covers) → object_covers s c (with_pixels p o) f ≡ object_covers s c o f
  object_covers_blind s (BindTexture target id) f = bound_covers_blind f id (map.get s.textures.names id)
  object_covers_blind s c f = refl

  object_marks_blind : (s : EsState) (c : ObjectCommand) (m : Marks) → object_marks s c (with_pixels p o) m ≡ object_marks s c o m
  object_marks_blind s (BindRenderbuffer target id) m = bound_marks_blind m id (map.get s.renderbuffers.names id)
  object_marks_blind s c m = refl

  image_stored_blind : (s : EsState) (t : TextureObjects) (answer : Stored) → image_stored s t (with_pixels p o) answer ≡ on_pixels p (image_stored s t o answer)
  image_stored_blind s t room.Done = refl
  image_stored_blind s t room.Oom = refl

  storage_blind : (s : EsState) (r : RenderbufferTables) (answer : Stored) → storage_stored s r (with_pixels p o) answer ≡ on_pixels p (storage_stored s r o answer)
  storage_blind s r room.Done = refl
  storage_blind s r room.Oom = refl

  image_blind : (s : EsState) (c : ImageCommand) (payload : List ℕ) → image_step s c payload (with_pixels p o) ≡ on_pixels p (image_step s c payload o)
  image_blind s (TexImage2D i words) payload = image_stored_blind s _ (first o.stored)
  image_blind s (CopyTexImage2D copy) payload = image_stored_blind s _ (first o.stored)
  image_blind s (RenderbufferStorage target format width height) payload = storage_blind s _ (first o.stored)
  image_blind s c payload = refl

  image_covers_blind : (s : EsState) (c : ImageCommand) (payload : List ℕ) (f : Covers) → image_covers s c payload (with_pixels p o) f ≡ image_covers s c payload o f
  image_covers_blind s (GenerateMipmap target) payload f = refl
  image_covers_blind s c payload f = refl

  image_marks_blind : (s : EsState) (c : ImageCommand) (m : Marks) → image_marks s c (with_pixels p o) m ≡ image_marks s c o m
  image_marks_blind s (GenerateMipmap target) m = refl
  image_marks_blind s c m = refl

  nothing_read : {S : Type 0} (b : Bool) (x y seen_x seen_y : Outcome S) → not b ≡ false → seen_x ≡ on_pixels p x → (if b then seen_x else seen_y) ≡ on_pixels p (if b then x else y)
  nothing_read true x y seen_x seen_y none is = is
  nothing_read false x y seen_x seen_y none is = absurd (cc)

  query_blind : (s : EsState) (c : QueryCommand) → reads_pixels None (Query c) ≡ false → query_step s c (with_pixels p o) ≡ on_pixels p (query_step s c o)
  query_blind s (ReadPixels words bucket) none = nothing_read (reads_nothing words) _ _ _ _ none refl
  query_blind s GetError none = refl
  query_blind s (Words query) none = refl
  query_blind s (Bytes query bucket) none = refl

  own_blind : (w : WireState) (c : Command) (payload : List ℕ) → reads_pixels None c ≡ false → own_step w c payload (with_pixels p o) ≡ on_pixels p (own_step w c payload o)
  own_blind w (Object c) payload none = λ i. on_wire (record w { covers = object_covers_blind w.es c w.covers i; marks = object_marks_blind w.es c w.marks i }) (object_blind w.es c payload i)
  own_blind w (Image c) payload none = λ i. on_wire (record w { covers = image_covers_blind w.es c payload w.covers i; marks = image_marks_blind w.es c w.marks i }) (image_blind w.es c payload i)
  own_blind w (Query c) payload none = ap (on_wire w) (query_blind w.es c none)
  own_blind w c payload none = refl

  pub step_blind : (r : Option GlError) (w : WireState) (c : Command) (payload : List ℕ) → reads_pixels r c ≡ false → step_by r w c payload (with_pixels p o) ≡ on_pixels p (step_by r w c payload o)
  step_blind (Some e) w c payload none = refl
  step_blind None w c payload none = own_blind (zeroed w c) c payload none

  -- Calls, contents and records, also of a read

  bind_calls_blind : (space : Space) (bind : ℕ → DriverCall) (id : ℕ) (x : Option Name) → bind_calls space bind id (with_pixels p o) x ≡ bind_calls space bind id o x
  bind_calls_blind space bind id (Some x) = refl
  bind_calls_blind Buffers bind id None = refl
  bind_calls_blind Textures bind id None = refl
  bind_calls_blind Renderbuffers bind id None = refl
  bind_calls_blind Framebuffers bind id None = refl

  object_calls_blind : (s : EsState) (c : ObjectCommand) (payload : List ℕ) → own_object_calls s c payload (with_pixels p o) ≡ own_object_calls s c payload o
  object_calls_blind s (BindBuffer target id) payload = bind_calls_blind Buffers (bind_buffer_call target) id (map.get s.buffers.names id)
  object_calls_blind s (BindTexture target id) payload = bind_calls_blind Textures (bind_texture_call target) id (map.get s.textures.names id)
  object_calls_blind s (BindRenderbuffer target id) payload = bind_calls_blind Renderbuffers bind_renderbuffer_call id (map.get s.renderbuffers.names id)
  object_calls_blind s (BindFramebuffer target id) payload = bind_calls_blind Framebuffers bind_framebuffer_call id (map.get s.framebuffers.names id)
  object_calls_blind s c payload = refl

  own_calls_blind : (w : WireState) (c : Command) (payload : List ℕ) → own_calls w c payload (with_pixels p o) ≡ own_calls w c payload o
  own_calls_blind w (Object c) payload = object_calls_blind w.es c payload
  own_calls_blind w c payload = refl

  pub calls_blind : (r : Option GlError) (w : WireState) (c : Command) (payload : List ℕ) → calls_by r w c payload (with_pixels p o) ≡ calls_by r w c payload o
  calls_blind (Some e) w c payload = refl
  calls_blind None w c payload = ap (λ (own : List DriverCall). zeroings_of w c ++ own) (own_calls_blind w c payload)

  image_contents_blind : (s : EsState) (c : ImageCommand) (payload : List ℕ) (k : Contents) → image_contents s c payload (with_pixels p o) k ≡ image_contents s c payload o k
  image_contents_blind s (GenerateMipmap target) payload k = refl
  image_contents_blind s c payload k = refl

  pub contents_blind : (r : Option GlError) (s : EsState) (c : Command) (payload : List ℕ) (k : Contents) → contents_by r s c payload (with_pixels p o) k ≡ contents_by r s c payload o k
  contents_blind (Some e) s c payload k = refl
  contents_blind None s (Image c) payload k = image_contents_blind s c payload k
  contents_blind None s c payload k = refl

  image_records_blind : (s : EsState) (c : ImageCommand) (k : Contents) → image_records s c (with_pixels p o) k ≡ image_records s c o k
  image_records_blind s (GenerateMipmap target) k = refl
  image_records_blind s c k = refl

  pub records_blind : (r : Option GlError) (s : EsState) (c : Command) (payload : List ℕ) (k : Contents) → records_by r s c payload (with_pixels p o) k ≡ records_by r s c payload o k
  records_blind (Some e) s c payload k = refl
  records_blind None s (Image c) payload k = image_records_blind s c k
  records_blind None s c payload k = refl

-- Entries that recorded no read have none

abbrev IsNoReadRecord : Record → Type 0
IsNoReadRecord (ReadRecord read) = ⊥
IsNoReadRecord made = Unit {0}

abbrev pub HaveNoReadRecord : List Record → Type 0
HaveNoReadRecord made = AllByRecursion IsNoReadRecord made

first_not_read : (made more : List Record) → HaveNoReadRecord (made ++ more) → HaveNoReadRecord made
first_not_read [] more h = tt
first_not_read (r ∷ made) more h = (h.0, first_not_read made more h.1)

rest_not_read : (made more : List Record) → HaveNoReadRecord (made ++ more) → HaveNoReadRecord more
rest_not_read [] more h = h
rest_not_read (r ∷ made) more h = rest_not_read made more h.1

is_no_read : (d : DriverState) (call : DriverCall) (answer : Answer) → HaveNoReadRecord (call_records d call answer) → IsNoRead call
is_no_read d (driver.Image (calls.ReadPixels x y width height)) answer h = h.0
is_no_read d call answer h = tt

pub have_no_read : (d : DriverState) (es : List DriverEntry) → HaveNoReadRecord (records_in d es) → HaveNoRead es
have_no_read d [] h = tt
have_no_read d (e ∷ es) h = (
  is_no_read d e.call e.answer (first_not_read (call_records d e.call e.answer) (records_in (entry_after d e) es) h),
  have_no_read (entry_after d e) es (rest_not_read (call_records d e.call e.answer) (records_in (entry_after d e) es) h),
)

-- of entries whose records are the first of these
pub first_have_no_read : (d : DriverState) (es : List DriverEntry) (all : List Record) → HaveNoReadRecord all → ((rest : List Record) × (all ≡ records_in d es ++ rest)) → HaveNoRead es
first_have_no_read d es all h made = have_no_read d es (first_not_read (records_in d es) made.0 (subst HaveNoReadRecord made.1 h))

-- A command that reads no pixels records no read

unless_not_read : (b : Bool) (r : Record) → IsNoReadRecord r → HaveNoReadRecord (if b then [] else r ∷ [])
unless_not_read true r h = tt
unless_not_read false r h = (h, tt)

if_not_read : (b : Bool) (r : Record) → IsNoReadRecord r → HaveNoReadRecord (if b then r ∷ [] else [])
if_not_read true r h = (h, tt)
if_not_read false r h = tt

drawn_not_read : (plan : Result DrawPlan GlError) (r : Record) → IsNoReadRecord r → HaveNoReadRecord (if_drawn plan (r ∷ []) [])
drawn_not_read (Err e) r h = tt
drawn_not_read (Ok plan) r h = if_not_read plan.draw r h

stored_not_read : (made : List Record) (answer : Stored) → HaveNoReadRecord made → HaveNoReadRecord (records_stored made answer)
stored_not_read made room.Done h = h
stored_not_read made room.Oom h = tt

draws_not_read : (s : EsState) (c : DrawCommand) (k : Contents) → HaveNoReadRecord (draw_records s c k)
draws_not_read s (Clear mask) k = unless_not_read (mask == 0) _ tt
draws_not_read s (DrawArrays mode first count) k = drawn_not_read (check_arrays (sources_of s) mode first count) _ tt
draws_not_read s (DrawElements mode count kind offset) k = drawn_not_read (check_indexed (sources_of s) mode count kind offset) _ tt
draws_not_read s c k = tt

images_not_read : (s : EsState) (c : ImageCommand) (o : Oracle) (k : Contents) → HaveNoReadRecord (image_records s c o k)
images_not_read s (CopyTexImage2D copy) o k = stored_not_read _ (first o.stored) (unless_not_read _ _ tt)
images_not_read s (CopyTexSubImage2D copy) o k = unless_not_read (is_empty (copy_rect copy)) _ tt
images_not_read s (GenerateMipmap target) o k = (tt, tt)
images_not_read s c o k = tt

nothing_recorded : (b : Bool) (r : Record) → not b ≡ false → HaveNoReadRecord (if b then [] else r ∷ [])
nothing_recorded true r none = tt
nothing_recorded false r none = absurd (cc)

pub records_not_read : (r : Option GlError) (s : EsState) (c : Command) (payload : List ℕ) (o : Oracle) (k : Contents) → reads_pixels r c ≡ false → HaveNoReadRecord (records_by r s c payload o k)
records_not_read (Some e) s c payload o k none = tt
records_not_read None s (Image c) payload o k none = images_not_read s c o k
records_not_read None s (Draw c) payload o k none = draws_not_read s c k
records_not_read None s (Query (ReadPixels words bucket)) payload o k none = nothing_recorded (reads_nothing words) _ none
records_not_read None s c payload o k none = tt
