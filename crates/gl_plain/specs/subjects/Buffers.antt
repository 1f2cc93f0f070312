-- Buffers and their two bindings (OpenGL ES 2.0.25, section 2.9). The service and the driver have one type of tables: the service's by the
-- client's names, the driver's by its own. Objects and bindings go by number, which is the driver's name; 0 binds nothing.
use Rattle.std.specs.Prelude.{◌≡◌, ◌≤◌, ◌+◌, ◌⊎◌, ℕ, ℤ, pos, Bool, false, not, ◌==◌, ◌&&◌, ◌||◌, nat_lt, if◌then◌else◌, List, [], ◌∷◌, length, Option, None, Some, IsSome, IsTrue, is_some, is_none}
use Rattle.std.specs.Ordering.{nat_cmp}
use Rattle.std.specs.FinMap as map
use Rattle.std.specs.FinSet as set
use Rattle.gl_base.specs.declared.gl_enum.GlEnum.{GlEnum}
use Rattle.gl_base.specs.declared.enums.TheConstants.{ARRAY_BUFFER, ELEMENT_ARRAY_BUFFER, STREAM_DRAW, STATIC_DRAW, DYNAMIC_DRAW}
use Rattle.gl_base.specs.declared.limits.TheConstants.{DATA_LIMIT}
use Rattle.gl_base.specs.Names.{is_ordinary, is_reserved}
use Rattle.gl_plain.specs.declared.objects.Name.{Name}
use Rattle.gl_plain.specs.declared.objects.Buffer.{Buffer}
use Rattle.gl_plain.specs.declared.commands.DataWords.{DataWords}
use Rattle.gl_plain.specs.declared.errors.GlError.{GlError}
use Rattle.gl_plain.specs.declared.errors.GlError.TheVariants.{InvalidEnum, InvalidValue, InvalidOperation, OutOfMemory}
use Rattle.gl_plain.specs.declared.driver_calls.DriverCall.{DriverCall}
use Rattle.gl_plain.specs.declared.driver_calls.DriverCall.TheVariants.{Object}
use Rattle.gl_plain.specs.declared.driver_calls.ObjectDriver.TheVariants as calls
use Rattle.gl_plain.specs.Bytes.{overwritten}
use Rattle.gl_plain.specs.Words.{is_negative, natural}
use Rattle.gl_plain.specs.subjects.Names.{Names, named, made_object, unbound, IsLive, gen_refusal, is_bind_over_limit, NamesAgree}
use Rattle.gl_plain.specs.subjects.Data.{has_no_data, has_needed_data, has_just_needed_data, data_needed}

-- the buffers: their names, the objects by number, and the numbers that the two targets bind
pub record BufferTables : Type 0 where
  pub names : map.FinMap nat_cmp Name
  pub objects : map.FinMap nat_cmp Buffer
  pub array : ℕ
  pub element : ℕ

-- no buffer name is in use, and nothing is bound
abbrev pub no_buffers : BufferTables
no_buffers = record { names = map.empty; objects = map.empty; array = 0; element = 0 }

-- a buffer opens with no bytes and STATIC_DRAW (table 6.3)
abbrev pub empty_buffer : Buffer
empty_buffer = record { bytes = []; usage = STATIC_DRAW }

-- ARRAY_BUFFER or ELEMENT_ARRAY_BUFFER
abbrev pub is_buffer_target : GlEnum → Bool
is_buffer_target target = (target.0 == ARRAY_BUFFER.0) || (target.0 == ELEMENT_ARRAY_BUFFER.0)

-- STREAM_DRAW, STATIC_DRAW or DYNAMIC_DRAW
abbrev pub is_usage : GlEnum → Bool
is_usage usage = (usage.0 == STREAM_DRAW.0) || (usage.0 == STATIC_DRAW.0) || (usage.0 == DYNAMIC_DRAW.0)

-- the number that a target binds
abbrev pub binding : BufferTables → GlEnum → ℕ
binding t target = if target.0 == ARRAY_BUFFER.0 then t.array else t.element

-- the buffer that a target binds, if any
abbrev pub bound : BufferTables → GlEnum → Option Buffer
bound t target = map.get t.objects (binding t target)

-- the target binds this number
abbrev pub with_binding : BufferTables → GlEnum → ℕ → BufferTables
with_binding t target number = if target.0 == ARRAY_BUFFER.0 then record t { array = number } else record t { element = number }

-- GenBuffers

-- the id is ordinary or reserved, and not in use
abbrev pub gen_buffers_is_bad : Names → ℕ → Bool
gen_buffers_is_bad names id = not (is_ordinary id || is_reserved id) || is_some (map.get names id)

-- a reserved name is not counted, so the command for one is never refused
abbrev pub gen_buffers_refusal : BufferTables → ℕ → Option GlError
gen_buffers_refusal t id = if is_reserved id then None else gen_refusal t.names (pos 1)

-- a buffer name comes into use
abbrev pub gen_buffers_effect : BufferTables → ℕ → ℕ → BufferTables
gen_buffers_effect t id number = record t { names = named t.names id number }

-- BindBuffer

-- the id is 0, ordinary or reserved
abbrev pub bind_buffer_is_bad : ℕ → Bool
bind_buffer_is_bad id = not ((id == 0) || is_ordinary id || is_reserved id)

-- a target that is none; too many names
abbrev pub bind_buffer_refusal : BufferTables → GlEnum → ℕ → Option GlError
bind_buffer_refusal t target id =
    if not (is_buffer_target target) then Some InvalidEnum
    else if is_bind_over_limit t.names id then Some OutOfMemory else None

-- the object of a name is there
abbrev pub with_buffer : BufferTables → ℕ → Name → BufferTables
with_buffer t id x =
    if x.is_object then t else record t { names = made_object t.names id x; objects = map.insert t.objects x.number empty_buffer }

-- by what the table has of the name, if anything
abbrev pub bind_buffer_by : BufferTables → GlEnum → ℕ → Option Name → BufferTables
bind_buffer_by t target id None = with_binding t target 0
bind_buffer_by t target id (Some x) = with_binding (with_buffer t id x) target x.number

-- the target binds the object of a name in use, which is made at its first bind, or nothing for the name 0, which is never in use
abbrev pub bind_buffer_effect : BufferTables → GlEnum → ℕ → BufferTables
bind_buffer_effect t target id = bind_buffer_by t target id (map.get t.names id)

-- a name to bind is 0 or live
abbrev pub IsBindBufferAllowed : BufferTables → GlEnum → ℕ → Type 0
IsBindBufferAllowed t target name = IsTrue (is_buffer_target target) × ((name ≡ 0) ⊎ IsLive t.names name)

-- BufferData

-- the words are those of no data, or of as many bytes as are needed
abbrev pub buffer_data_is_bad : ℤ → DataWords → Bool
buffer_data_is_bad size words = not (has_no_data words || has_needed_data words (data_needed size))

-- a target or usage that is none; a negative size; more than the limit; nothing bound
abbrev pub buffer_data_refusal : BufferTables → GlEnum → ℤ → GlEnum → Option GlError
buffer_data_refusal t target size usage =
    if not (is_buffer_target target && is_usage usage) then Some InvalidEnum
    else if is_negative size then Some InvalidValue
    else if nat_lt DATA_LIMIT (natural size) then Some OutOfMemory
    else if is_none (bound t target) then Some InvalidOperation else None

-- the buffer that the target binds is replaced
abbrev pub with_bound : BufferTables → GlEnum → Buffer → BufferTables
with_bound t target buffer = record t { objects = map.insert t.objects (binding t target) buffer }

-- the buffer that the target binds has these bytes and this usage
abbrev pub buffer_data_effect : BufferTables → GlEnum → List ℕ → GlEnum → BufferTables
buffer_data_effect t target bytes usage = with_bound t target (record { bytes = bytes; usage = usage })

-- data needs a bound buffer and stays within the limit
abbrev pub IsBufferDataAllowed : BufferTables → GlEnum → List ℕ → GlEnum → Type 0
IsBufferDataAllowed t target bytes usage =
    IsTrue (is_buffer_target target) × IsTrue (is_usage usage) × IsSome (bound t target) × (length bytes ≤ DATA_LIMIT)

-- BufferSubData

-- the words are those of as many bytes as are needed, or of no data where none are
abbrev pub buffer_sub_data_is_bad : ℤ → DataWords → Bool
buffer_sub_data_is_bad size words = not (has_just_needed_data words (data_needed size))

-- bytes of what is bound, if anything: a range outside it; nothing bound
abbrev pub range_refusal : Option Buffer → ℕ → ℕ → Option GlError
range_refusal None offset size = Some InvalidOperation
range_refusal (Some buffer) offset size = if nat_lt (length buffer.bytes) (offset + size) then Some InvalidValue else None

-- a target that is none; a negative offset or size; a range outside the bound buffer; nothing bound
abbrev pub buffer_sub_data_refusal : BufferTables → GlEnum → ℤ → ℤ → Option GlError
buffer_sub_data_refusal t target offset size =
    if not (is_buffer_target target) then Some InvalidEnum
    else if is_negative offset || is_negative size then Some InvalidValue
    else range_refusal (bound t target) (natural offset) (natural size)

-- the buffer with other bytes from an offset on
abbrev pub changed : Buffer → ℕ → List ℕ → Buffer
changed buffer offset bytes = record buffer { bytes = overwritten buffer.bytes offset bytes }

-- by what the target binds, if anything
abbrev pub buffer_sub_data_by : BufferTables → GlEnum → ℕ → List ℕ → Option Buffer → BufferTables
buffer_sub_data_by t target offset bytes None = t
buffer_sub_data_by t target offset bytes (Some buffer) = with_bound t target (changed buffer offset bytes)

-- the buffer that the target binds has these bytes from an offset on
abbrev pub buffer_sub_data_effect : BufferTables → GlEnum → ℕ → List ℕ → BufferTables
buffer_sub_data_effect t target offset bytes = buffer_sub_data_by t target offset bytes (bound t target)

-- a buffer is there, and the range lies in it
abbrev pub HasRange : Option Buffer → ℕ → ℕ → Type 0
HasRange None offset count = ⊥
HasRange (Some buffer) offset count = offset + count ≤ length buffer.bytes

-- the bytes lie in the bound buffer
abbrev pub IsBufferSubDataAllowed : BufferTables → GlEnum → ℤ → List ℕ → Type 0
IsBufferSubDataAllowed t target offset bytes =
    IsTrue (is_buffer_target target) × (is_negative offset ≡ false) × HasRange (bound t target) (natural offset) (length bytes)

-- DeleteBuffers

-- the name of a buffer and its object are there no more, and nothing binds it
abbrev pub without_buffer : BufferTables → ℕ → ℕ → BufferTables
without_buffer t id number = record {
  names = map.remove t.names id;
  objects = map.remove t.objects number;
  array = unbound number t.array;
  element = unbound number t.element;
}

-- by what the table has of the name, if anything
abbrev pub delete_buffers_by : BufferTables → ℕ → Option Name → BufferTables
delete_buffers_by t id None = t
delete_buffers_by t id (Some x) = without_buffer t id x.number

-- a name in use goes with its buffer; 0 is never in use
abbrev pub delete_buffers_effect : BufferTables → ℕ → BufferTables
delete_buffers_effect t id = delete_buffers_by t id (map.get t.names id)

-- a delete of 0 or of an unused name makes no driver call
abbrev pub delete_buffers_calls : Option Name → List DriverCall
delete_buffers_calls None = []
delete_buffers_calls (Some x) = Object (calls.DeleteBuffer x.number) ∷ []

-- names agree, and objects and bindings are the same
pub record BuffersAgree (w d : BufferTables) (given : set.FinSet nat_cmp) : Type 0 where
  pub names : NamesAgree w.names d.names given
  pub objects : w.objects ≡ d.objects
  pub array : w.array ≡ d.array
  pub element : w.element ≡ d.element
