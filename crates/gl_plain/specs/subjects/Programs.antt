-- Shaders and programs (OpenGL ES 2.0.25, section 2.10). They share one name space. The service and the driver have one type of tables: the
-- service's by the client's names, the driver's by its own. Objects, what is attached and what is current go by number, which is the driver's
-- name; 0 is no program.
use Rattle.std.specs.Prelude.{◌≡◌, ◌+◌, ◌-◌, ℕ, Bool, true, false, not, ◌==◌, ◌&&◌, ◌||◌, nat_lt, nat_le, if◌then◌else◌, List, [], ◌∷◌, ◌++◌, length, filter, replicate, codes, Option, None, Some, is_some, is_none, unwrap_or, nat_eq}
use Rattle.std.specs.List.{list_any, starts_with}
use Rattle.std.specs.Ordering.{nat_cmp}
use Rattle.std.specs.FinMap as map
use Rattle.std.specs.FinSet as set
use Rattle.gl_base.specs.declared.gl_enum.GlEnum.{GlEnum}
use Rattle.gl_base.specs.declared.enums.TheConstants.{VERTEX_SHADER, FRAGMENT_SHADER}
use Rattle.gl_base.specs.declared.limits.TheConstants.{LAST_ATTRIBUTE, NAME_LENGTH_LIMIT}
use Rattle.gl_base.specs.Names.{is_ordinary, is_over_limit}
use Rattle.gl_plain.specs.declared.objects.Name.{Name}
use Rattle.gl_plain.specs.declared.programs.Executable.{Executable}
use Rattle.gl_plain.specs.declared.programs.LinkAnswer.{LinkAnswer}
use Rattle.gl_plain.specs.declared.programs.Program.{Program}
use Rattle.gl_plain.specs.declared.programs.Shader.{Shader}
use Rattle.gl_plain.specs.declared.programs.Verdict.{Verdict}
use Rattle.gl_plain.specs.declared.commands.DataWords.{DataWords}
use Rattle.gl_plain.specs.declared.errors.GlError.{GlError}
use Rattle.gl_plain.specs.declared.errors.GlError.TheVariants.{InvalidEnum, InvalidValue, InvalidOperation, OutOfMemory}
use Rattle.gl_plain.specs.subjects.Names.{Names, NamesAgree}
use Rattle.gl_plain.specs.subjects.Data.{has_just_needed_data}
use Rattle.gl_plain.specs.subjects.Links.{words_in}

-- the names in use, and the name of each object by its number; the objects by number; the number of the current program; and the executable
-- that is in use
pub record ProgramTables : Type 0 where
  pub names : Names
  pub ids : map.FinMap nat_cmp ℕ
  pub shaders : map.FinMap nat_cmp Shader
  pub programs : map.FinMap nat_cmp Program
  pub current : ℕ
  pub installed : Option Executable

-- no name is in use, and no program is current
abbrev pub no_programs : ProgramTables
no_programs = record { names = map.empty; ids = map.empty; shaders = map.empty; programs = map.empty; current = 0; installed = None }

-- the value at a key is changed, if there is one
abbrev pub changed_by : {T : Type 0} → map.FinMap nat_cmp T → ℕ → (T → T) → Option T → map.FinMap nat_cmp T
changed_by m key f None = m
changed_by m key f (Some x) = map.insert m key (f x)

abbrev pub changed_at : {T : Type 0} → map.FinMap nat_cmp T → ℕ → (T → T) → map.FinMap nat_cmp T
changed_at m key f = changed_by m key f (map.get m key)

-- the number of a name, or 0 of one that is not in use
abbrev pub number_in : Option Name → ℕ
number_in None = 0
number_in (Some x) = x.number

abbrev pub number_of : ProgramTables → ℕ → ℕ
number_of t id = number_in (map.get t.names id)

-- the shader of a name in use, if it is a shader's
abbrev pub shader_by : ProgramTables → Option Name → Option Shader
shader_by t None = None
shader_by t (Some x) = map.get t.shaders x.number

abbrev pub shader_at : ProgramTables → ℕ → Option Shader
shader_at t id = shader_by t (map.get t.names id)

-- the program of a name in use, if it is a program's
abbrev pub program_by : ProgramTables → Option Name → Option Program
program_by t None = None
program_by t (Some x) = map.get t.programs x.number

abbrev pub program_at : ProgramTables → ℕ → Option Program
program_at t id = program_by t (map.get t.names id)

-- a shader's name is wanted: INVALID_VALUE for a name that is not in use, INVALID_OPERATION for a program's
abbrev pub shader_refusal : ProgramTables → ℕ → Option GlError
shader_refusal t id =
    if is_none (map.get t.names id) then Some InvalidValue
    else if is_none (shader_at t id) then Some InvalidOperation else None

-- a program's name is wanted: INVALID_VALUE for a name that is not in use, INVALID_OPERATION for a shader's
abbrev pub program_refusal : ProgramTables → ℕ → Option GlError
program_refusal t id =
    if is_none (map.get t.names id) then Some InvalidValue
    else if is_none (program_at t id) then Some InvalidOperation else None

-- CreateShader and CreateProgram

-- the id is ordinary, and not in use
abbrev pub create_is_bad : Names → ℕ → Bool
create_is_bad names id = not (is_ordinary id) || is_some (map.get names id)

-- VERTEX_SHADER or FRAGMENT_SHADER
abbrev pub is_shader_kind : GlEnum → Bool
is_shader_kind kind = (kind.0 == VERTEX_SHADER.0) || (kind.0 == FRAGMENT_SHADER.0)

-- a kind that is none; too many names
abbrev pub create_shader_refusal : ProgramTables → GlEnum → Option GlError
create_shader_refusal t kind =
    if not (is_shader_kind kind) then Some InvalidEnum
    else if is_over_limit t.names 1 then Some OutOfMemory else None

-- too many names
abbrev pub create_program_refusal : ProgramTables → Option GlError
create_program_refusal t = if is_over_limit t.names 1 then Some OutOfMemory else None

-- a name whose object is there at once
abbrev pub object_name : ℕ → Name
object_name number = record { number = number; is_object = true }

-- a shader opens without a source
abbrev pub new_shader : GlEnum → Shader
new_shader kind = record { kind = kind; source = []; compiled = None; is_compiled = false; log = []; is_deleted = false; attachments = 0 }

-- a program opens with nothing attached
abbrev pub new_program : Program
new_program = record { attached = []; bound = []; log = []; executable = None; is_valid = false; is_deleted = false }

-- the name comes into use with this number
abbrev pub with_object : ProgramTables → ℕ → ℕ → ProgramTables
with_object t id number = record t { names = map.insert t.names id (object_name number); ids = map.insert t.ids number id }

-- a shader is there under this name
abbrev pub create_shader_effect : ProgramTables → ℕ → ℕ → GlEnum → ProgramTables
create_shader_effect t id number kind = record (with_object t id number) { shaders = map.insert t.shaders number (new_shader kind) }

-- a program is there under this name
abbrev pub create_program_effect : ProgramTables → ℕ → ℕ → ProgramTables
create_program_effect t id number = record (with_object t id number) { programs = map.insert t.programs number new_program }

-- ShaderSource

-- the words are those of as many bytes as they count
abbrev pub shader_source_is_bad : DataWords → Bool
shader_source_is_bad words = not (has_just_needed_data words words.count)

-- the shader has this source; what was compiled stays as it was
abbrev pub shader_source_effect : ProgramTables → ℕ → List ℕ → ProgramTables
shader_source_effect t number source = record t { shaders = changed_at t.shaders number (λ s. record s { source = source }) }

-- CompileShader

-- the shader keeps its source as it is compiled, and what the compiler says
abbrev pub compile_shader_effect : ProgramTables → ℕ → Verdict → ProgramTables
compile_shader_effect t number said =
    record t { shaders = changed_at t.shaders number (λ s. record s { compiled = Some s.source; is_compiled = said.ok; log = said.log }) }

-- Deletion

-- the name of the object with this number is out of use
abbrev pub names_without : Names → Option ℕ → Names
names_without names None = names
names_without names (Some id) = map.remove names id

abbrev pub unnamed : ProgramTables → ℕ → ProgramTables
unnamed t number = record t { names = names_without t.names (map.get t.ids number); ids = map.remove t.ids number }

-- the shader goes, with its name
abbrev pub without_shader : ProgramTables → ℕ → ProgramTables
without_shader t number = record (unnamed t number) { shaders = map.remove t.shaders number }

-- a program has a shader attached no more; one that is marked for deletion goes with its last attachment
abbrev pub released_by : ProgramTables → ℕ → Option Shader → ProgramTables
released_by t number None = t
released_by t number (Some s) =
    if s.is_deleted && nat_le s.attachments 1 then without_shader t number
    else record t { shaders = map.insert t.shaders number (record s { attachments = s.attachments - 1 }) }

abbrev pub released : ProgramTables → ℕ → ProgramTables
released t number = released_by t number (map.get t.shaders number)

-- the same of each of these shaders, in order
abbrev pub all_released : ProgramTables → List ℕ → ProgramTables
all_released t [] = t
all_released t (number ∷ numbers) = all_released (released t number) numbers

-- the program goes, with its name, and detaches its shaders
abbrev pub without_program_by : ProgramTables → ℕ → Option Program → ProgramTables
without_program_by t number None = t
without_program_by t number (Some p) = all_released (record (unnamed t number) { programs = map.remove t.programs number }) p.attached

abbrev pub without_program : ProgramTables → ℕ → ProgramTables
without_program t number = without_program_by t number (map.get t.programs number)

-- DeleteShader

-- 0 is ignored
abbrev pub delete_shader_refusal : ProgramTables → ℕ → Option GlError
delete_shader_refusal t id = if id == 0 then None else shader_refusal t id

-- a shader that is attached is marked, and any other goes
abbrev pub delete_shader_by : ProgramTables → ℕ → Option Shader → ProgramTables
delete_shader_by t number None = t
delete_shader_by t number (Some s) =
    if s.attachments == 0 then without_shader t number
    else record t { shaders = map.insert t.shaders number (record s { is_deleted = true }) }

abbrev pub delete_shader_effect : ProgramTables → ℕ → ProgramTables
delete_shader_effect t number = delete_shader_by t number (map.get t.shaders number)

-- DeleteProgram

-- 0 is ignored
abbrev pub delete_program_refusal : ProgramTables → ℕ → Option GlError
delete_program_refusal t id = if id == 0 then None else program_refusal t id

-- the current program is marked, and any other goes
abbrev pub delete_program_effect : ProgramTables → ℕ → ProgramTables
delete_program_effect t number =
    if t.current == number then record t { programs = changed_at t.programs number (λ p. record p { is_deleted = true }) }
    else without_program t number

-- AttachShader and DetachShader

-- the shader with this number is of this kind
abbrev pub is_of_kind : GlEnum → Option Shader → Bool
is_of_kind kind None = false
is_of_kind kind (Some s) = s.kind.0 == kind.0

-- the first of these shaders that is of this kind
abbrev pub shader_of_kind : map.FinMap nat_cmp Shader → GlEnum → List ℕ → Option Shader
shader_of_kind shaders kind [] = None
shader_of_kind shaders kind (number ∷ numbers) =
    if is_of_kind kind (map.get shaders number) then map.get shaders number else shader_of_kind shaders kind numbers

-- a shader of this shader's kind, perhaps itself, is attached
abbrev pub has_its_kind : map.FinMap nat_cmp Shader → List ℕ → Shader → Bool
has_its_kind shaders attached s = is_some (shader_of_kind shaders s.kind attached)

-- by what the names are of: a name of the other kind; a shader that is attached, or another of its kind that is
abbrev pub attach_refusal_by : map.FinMap nat_cmp Shader → Option Program → Option Shader → Option GlError
attach_refusal_by shaders None s = Some InvalidOperation
attach_refusal_by shaders (Some p) None = Some InvalidOperation
attach_refusal_by shaders (Some p) (Some s) = if has_its_kind shaders p.attached s then Some InvalidOperation else None

-- a name that is not in use comes before all else
abbrev pub attach_shader_refusal : ProgramTables → ℕ → ℕ → Option GlError
attach_shader_refusal t program shader =
    if is_none (map.get t.names program) || is_none (map.get t.names shader) then Some InvalidValue
    else attach_refusal_by t.shaders (program_at t program) (shader_at t shader)

-- the shader is attached, behind the others
abbrev pub attach_shader_effect : ProgramTables → ℕ → ℕ → ProgramTables
attach_shader_effect t program shader = record t {
  programs = changed_at t.programs program (λ p. record p { attached = p.attached ++ shader ∷ [] });
  shaders = changed_at t.shaders shader (λ s. record s { attachments = s.attachments + 1 });
}

-- the number is among these
abbrev pub is_among : List ℕ → ℕ → Bool
is_among numbers number = list_any (λ n. n == number) numbers

-- by what the names are of: a name of the other kind; a shader that is not attached
abbrev pub detach_refusal_by : Option Program → Option Shader → ℕ → Option GlError
detach_refusal_by None s number = Some InvalidOperation
detach_refusal_by (Some p) None number = Some InvalidOperation
detach_refusal_by (Some p) (Some s) number = if is_among p.attached number then None else Some InvalidOperation

abbrev pub detach_shader_refusal : ProgramTables → ℕ → ℕ → Option GlError
detach_shader_refusal t program shader =
    if is_none (map.get t.names program) || is_none (map.get t.names shader) then Some InvalidValue
    else detach_refusal_by (program_at t program) (shader_at t shader) (number_of t shader)

-- the numbers without this one
abbrev pub without : List ℕ → ℕ → List ℕ
without numbers number = filter (λ n. not (n == number)) numbers

-- the shader is attached no more
abbrev pub detach_shader_effect : ProgramTables → ℕ → ℕ → ProgramTables
detach_shader_effect t program shader =
    released (record t { programs = changed_at t.programs program (λ p. record p { attached = without p.attached shader }) }) shader

-- BindAttribLocation

-- the words are those of as many bytes as they count
abbrev pub bind_attrib_location_is_bad : DataWords → Bool
bind_attrib_location_is_bad words = not (has_just_needed_data words words.count)

-- the name begins with `gl_`
abbrev pub is_built_in : List ℕ → Bool
is_built_in name = starts_with nat_eq name (codes "gl_")

-- a name that is not in use, an attribute past the last, an attribute's name that is too long; a shader's name, a name that begins with `gl_`
abbrev pub bind_attrib_location_refusal : ProgramTables → ℕ → ℕ → List ℕ → Option GlError
bind_attrib_location_refusal t program index name =
    if is_none (map.get t.names program) || nat_lt LAST_ATTRIBUTE index || nat_lt NAME_LENGTH_LIMIT (length name) then Some InvalidValue
    else if is_none (program_at t program) || is_built_in name then Some InvalidOperation else None

-- from the next link on the attribute of this name gets this location
abbrev pub bind_attrib_location_effect : ProgramTables → ℕ → ℕ → List ℕ → ProgramTables
bind_attrib_location_effect t number index name =
    record t { programs = changed_at t.programs number (λ p. record p { bound = p.bound ++ record { name = name; index = index } ∷ [] }) }

-- LinkProgram

-- the shader was compiled well
abbrev pub is_compiled : Option Shader → Bool
is_compiled None = false
is_compiled (Some s) = s.is_compiled

-- a compiled vertex shader and a compiled fragment shader are attached
abbrev pub can_link : map.FinMap nat_cmp Shader → List ℕ → Bool
can_link shaders attached = is_compiled (shader_of_kind shaders VERTEX_SHADER attached) && is_compiled (shader_of_kind shaders FRAGMENT_SHADER attached)

-- the source of a shader as it was compiled last
abbrev pub compiled_source : Option Shader → List ℕ
compiled_source None = []
compiled_source (Some s) = unwrap_or s.compiled []

-- what a link makes where it goes well: all uniforms are zero
abbrev pub executable_of : map.FinMap nat_cmp Shader → Program → LinkAnswer → Executable
executable_of shaders p answer = record {
  vertex = compiled_source (shader_of_kind shaders VERTEX_SHADER p.attached);
  fragment = compiled_source (shader_of_kind shaders FRAGMENT_SHADER p.attached);
  bound = p.bound;
  answer = answer;
  values = replicate (words_in answer.uniforms) 0;
}

-- the executable, where the link went well
abbrev pub linked : map.FinMap nat_cmp Shader → Program → LinkAnswer → Option Executable
linked shaders p answer = if answer.ok then Some (executable_of shaders p answer) else None

-- a failed link leaves the program without an executable; what is in use stays. A good one of the current program is in use at once
abbrev pub link_program_by : ProgramTables → ℕ → LinkAnswer → Option Program → ProgramTables
link_program_by t number answer None = t
link_program_by t number answer (Some p) = record t {
  programs = map.insert t.programs number (record p { log = answer.log; executable = linked t.shaders p answer });
  installed = if answer.ok && (t.current == number) then linked t.shaders p answer else t.installed;
}

abbrev pub link_program_effect : ProgramTables → ℕ → LinkAnswer → ProgramTables
link_program_effect t number answer = link_program_by t number answer (map.get t.programs number)

-- a link without the two shaders fails with an empty log
abbrev pub failed_link : LinkAnswer
failed_link = record { ok = false; log = []; attributes = []; uniforms = [] }

-- ValidateProgram

-- the program was linked well
abbrev pub is_linked : Option Program → Bool
is_linked None = false
is_linked (Some p) = is_some p.executable

-- what a validation of a linked program says
abbrev pub validate_program_effect : ProgramTables → ℕ → Verdict → ProgramTables
validate_program_effect t number said = record t { programs = changed_at t.programs number (λ p. record p { is_valid = said.ok; log = said.log }) }

-- a program that is not linked is not valid, and keeps its log
abbrev pub validate_unlinked_effect : ProgramTables → ℕ → ProgramTables
validate_unlinked_effect t number = record t { programs = changed_at t.programs number (λ p. record p { is_valid = false }) }

-- UseProgram

-- a program that is not linked
abbrev pub unlinked_refusal : ProgramTables → ℕ → Option GlError
unlinked_refusal t id = if is_linked (program_at t id) then None else Some InvalidOperation

-- 0 uses none; a name that is none of a program; a program that is not linked
abbrev pub use_program_refusal : ProgramTables → ℕ → Option GlError
use_program_refusal t id =
    if id == 0 then None
    else if is_none (map.get t.names id) then Some InvalidValue
    else unlinked_refusal t id

-- the executable of a program, if it has one
abbrev pub executable_in : Option Program → Option Executable
executable_in None = None
executable_in (Some p) = p.executable

-- the program was marked for deletion
abbrev pub is_marked : Option Program → Bool
is_marked None = false
is_marked (Some p) = p.is_deleted

-- a program that was marked goes once it is not current
abbrev pub retired : ProgramTables → ℕ → ProgramTables
retired t number = if not (t.current == number) && is_marked (map.get t.programs number) then without_program t number else t

-- the executable of the program with this number, or none for 0
abbrev pub executable_at : ProgramTables → ℕ → Option Executable
executable_at t number = if number == 0 then None else executable_in (map.get t.programs number)

-- the program is current, and its executable is in use; by 0 there is none
abbrev pub use_program_effect : ProgramTables → ℕ → ProgramTables
use_program_effect t number = retired (record t { current = number; installed = executable_at t number }) t.current

-- What the service and the driver have in common

-- Two programs agree: a program that the service has as linked is so in the driver too, with the same log and the same executable. A link
-- without the two shaders and a validation of a program that is not linked are no driver calls, so the rest may differ.
pub record ProgramAgrees (p q : Program) : Type 0 where
  pub attached : p.attached ≡ q.attached
  pub bound : p.bound ≡ q.bound
  pub is_deleted : p.is_deleted ≡ q.is_deleted
  pub linked : is_some p.executable ≡ true → (p.executable ≡ q.executable) × (p.log ≡ q.log)

-- both are there and agree, or neither is there
abbrev pub AreAlike : Option Program → Option Program → Type 0
AreAlike None None = Unit {0}
AreAlike None (Some q) = ⊥
AreAlike (Some p) None = ⊥
AreAlike (Some p) (Some q) = ProgramAgrees p q

-- each name has its object's number, and each object its name
pub record AreInverse (names : Names) (ids : map.FinMap nat_cmp ℕ) : Type 0 where
  pub named : (id : ℕ) (x : Name) → map.get names id ≡ Some x → map.get ids x.number ≡ Some id
  pub owned : (number id : ℕ) → map.get ids number ≡ Some id → map.get names id ≡ Some (object_name number)

-- names agree, shaders, the current program and what is in use are the same, and programs agree
pub record ProgramsAgree (w d : ProgramTables) (given : set.FinSet nat_cmp) : Type 0 where
  pub names : NamesAgree w.names d.names given
  pub ids : AreInverse w.names w.ids
  pub own_ids : AreInverse d.names d.ids
  pub shaders : w.shaders ≡ d.shaders
  pub programs : (number : ℕ) → AreAlike (map.get w.programs number) (map.get d.programs number)
  pub current : w.current ≡ d.current
  pub installed : w.installed ≡ d.installed
