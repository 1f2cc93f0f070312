-- The answers of driver calls: the form of each, what it tells, and what an oracle answers.
use Rattle.std.specs.Prelude.{◌≡◌, ℕ, List, [], ◌∷◌, length, IsTrue}
use Rattle.std.specs.Ordering.{nat_cmp}
use Rattle.std.specs.FinSet as set
use Rattle.gl_plain.specs.declared.driver_calls.Answer.{Answer}
use Rattle.gl_plain.specs.declared.driver_calls.Answer.TheVariants.{Done, Name, Oom, Compile, Link, Validate, Pixels}
use Rattle.gl_plain.specs.declared.driver_calls.Stored.{Stored}
use Rattle.gl_plain.specs.declared.driver_calls.Stored.TheVariants as room
use Rattle.gl_plain.specs.declared.driver_calls.ObjectDriver.{ObjectDriver}
use Rattle.gl_plain.specs.declared.driver_calls.ObjectDriver.TheVariants.{GenBuffer, BindBuffer, BufferData, BufferSubData, DeleteBuffer, GenTexture, BindTexture, DeleteTexture, GenRenderbuffer, BindRenderbuffer, DeleteRenderbuffer, GenFramebuffer, BindFramebuffer, DeleteFramebuffer, FramebufferTexture, FramebufferRenderbuffer, VertexAttrib4, VertexAttribPointer, SetArray}
use Rattle.gl_plain.specs.declared.driver_calls.DriverCall.{DriverCall}
use Rattle.gl_plain.specs.declared.driver_calls.DriverCall.TheVariants.{Object, Image, Program, Draw}
use Rattle.gl_plain.specs.declared.driver_calls.DrawDriver.{DrawDriver}
use Rattle.gl_plain.specs.declared.driver_calls.DrawDriver.TheVariants.{ActiveTexture, SetRaster, Clear, DrawArrays, DrawElements}
use Rattle.gl_plain.specs.declared.driver_calls.ImageDriver.{ImageDriver}
use Rattle.gl_plain.specs.declared.driver_calls.ImageDriver.TheVariants.{TexImage, TexSubImage, ZeroLevel, TexParameter, CopyTexImage, CopyTexSubImage, GenerateMipmap, RenderbufferStorage, ZeroRenderbuffer, ReadPixels}
use Rattle.gl_plain.specs.declared.driver_calls.ProgramDriver.{ProgramDriver}
use Rattle.gl_plain.specs.declared.driver_calls.ProgramDriver.TheVariants.{CreateShader, CreateProgram, DeleteShader, DeleteProgram, ShaderSource, CompileShader, AttachShader, DetachShader, BindAttribLocation, LinkProgram, ValidateProgram, UseProgram, Uniform}
use Rattle.gl_plain.specs.declared.driver_calls.DriverEntry.{DriverEntry}
use Rattle.gl_plain.specs.subjects.Names.{IsFresh}
use Rattle.gl_plain.specs.subjects.Links.{is_log, is_sound_link}
use Rattle.gl_plain.specs.Words.{natural}
use Rattle.gl_plain.specs.subjects.Copies.{read_count, fitted}
use Rattle.gl_plain.specs.State.{DriverState}
use Rattle.gl_plain.specs.Oracle.{Oracle, first, behind, led_by}
use Rattle.gl_plain.specs.Spaces.{Space, Buffers, Textures, Renderbuffers, Framebuffers, numbers_in, with_numbers, given_in}

-- the answer is a new name
abbrev pub IsNewName : set.FinSet nat_cmp → Answer → Type 0
IsNewName given (Name name) = IsFresh given name
IsNewName given Done = ⊥
IsNewName given Oom = ⊥
IsNewName given (Compile ok log) = ⊥
IsNewName given (Link a) = ⊥
IsNewName given (Validate ok log) = ⊥
IsNewName given (Pixels bytes) = ⊥

-- the answer says that it was done
abbrev pub IsDone : Answer → Type 0
IsDone Done = Unit {0}
IsDone (Name name) = ⊥
IsDone Oom = ⊥
IsDone (Compile ok log) = ⊥
IsDone (Link a) = ⊥
IsDone (Validate ok log) = ⊥
IsDone (Pixels bytes) = ⊥

-- the answer says whether there was room
abbrev pub IsStored : Answer → Type 0
IsStored Done = Unit {0}
IsStored Oom = Unit {0}
IsStored (Name name) = ⊥
IsStored (Compile ok log) = ⊥
IsStored (Link a) = ⊥
IsStored (Validate ok log) = ⊥
IsStored (Pixels bytes) = ⊥

-- the answer is what a compiler may say
abbrev pub IsCompiled : Answer → Type 0
IsCompiled (Compile ok log) = IsTrue (is_log log)
IsCompiled Done = ⊥
IsCompiled (Name name) = ⊥
IsCompiled Oom = ⊥
IsCompiled (Link a) = ⊥
IsCompiled (Validate ok log) = ⊥
IsCompiled (Pixels bytes) = ⊥

-- the answer is what a linker may say
abbrev pub IsLinked : Answer → Type 0
IsLinked (Link a) = IsTrue (is_sound_link a)
IsLinked Done = ⊥
IsLinked (Name name) = ⊥
IsLinked Oom = ⊥
IsLinked (Compile ok log) = ⊥
IsLinked (Validate ok log) = ⊥
IsLinked (Pixels bytes) = ⊥

-- the answer is what a validation may say
abbrev pub IsValidated : Answer → Type 0
IsValidated (Validate ok log) = IsTrue (is_log log)
IsValidated (Pixels bytes) = ⊥
IsValidated Done = ⊥
IsValidated (Name name) = ⊥
IsValidated Oom = ⊥
IsValidated (Compile ok log) = ⊥
IsValidated (Link a) = ⊥

-- the answer is so many bytes of pixels
abbrev pub IsPixels : ℕ → Answer → Type 0
IsPixels count (Pixels bytes) = length bytes ≡ count
IsPixels count Done = ⊥
IsPixels count (Name name) = ⊥
IsPixels count Oom = ⊥
IsPixels count (Compile ok log) = ⊥
IsPixels count (Link a) = ⊥
IsPixels count (Validate ok log) = ⊥

-- the form of the answer to a call on objects
abbrev pub IsObjectAnswer : DriverState → ObjectDriver → Answer → Type 0
IsObjectAnswer d GenBuffer answer = IsNewName (given_in Buffers d.tables.given) answer
IsObjectAnswer d (BindBuffer target name) answer = IsDone answer
IsObjectAnswer d (BufferData target bytes usage) answer = IsStored answer
IsObjectAnswer d (BufferSubData target offset bytes) answer = IsDone answer
IsObjectAnswer d (DeleteBuffer name) answer = IsDone answer
IsObjectAnswer d GenTexture answer = IsNewName (given_in Textures d.tables.given) answer
IsObjectAnswer d (BindTexture target name) answer = IsDone answer
IsObjectAnswer d (DeleteTexture name) answer = IsDone answer
IsObjectAnswer d GenRenderbuffer answer = IsNewName (given_in Renderbuffers d.tables.given) answer
IsObjectAnswer d (BindRenderbuffer name) answer = IsDone answer
IsObjectAnswer d (DeleteRenderbuffer name) answer = IsDone answer
IsObjectAnswer d GenFramebuffer answer = IsNewName (given_in Framebuffers d.tables.given) answer
IsObjectAnswer d (BindFramebuffer name) answer = IsDone answer
IsObjectAnswer d (DeleteFramebuffer name) answer = IsDone answer
IsObjectAnswer d (FramebufferTexture attachment textarget name) answer = IsDone answer
IsObjectAnswer d (FramebufferRenderbuffer attachment name) answer = IsDone answer
IsObjectAnswer d (VertexAttrib4 index values) answer = IsDone answer
IsObjectAnswer d (VertexAttribPointer index size kind normalized stride offset) answer = IsDone answer
IsObjectAnswer d (SetArray index on) answer = IsDone answer

-- the form of the answer to a call on images
abbrev pub IsImageAnswer : ImageDriver → Answer → Type 0
IsImageAnswer (TexImage target level format kind width height payload) answer = IsStored answer
IsImageAnswer (TexSubImage part bytes) answer = IsDone answer
IsImageAnswer (ZeroLevel place rect) answer = IsDone answer
IsImageAnswer (TexParameter target pname value) answer = IsDone answer
IsImageAnswer (CopyTexImage target level format x y width height) answer = IsStored answer
IsImageAnswer (CopyTexSubImage copy) answer = IsDone answer
IsImageAnswer (GenerateMipmap target) answer = IsDone answer
IsImageAnswer (RenderbufferStorage format width height) answer = IsStored answer
IsImageAnswer (ZeroRenderbuffer name) answer = IsDone answer
IsImageAnswer (ReadPixels x y width height) answer = IsPixels (read_count (natural width) (natural height)) answer

-- the form of the answer to a call on shaders and programs
abbrev pub IsProgramAnswer : DriverState → ProgramDriver → Answer → Type 0
IsProgramAnswer d (CreateShader kind) answer = IsNewName d.tables.given.programs answer
IsProgramAnswer d CreateProgram answer = IsNewName d.tables.given.programs answer
IsProgramAnswer d (DeleteShader name) answer = IsDone answer
IsProgramAnswer d (DeleteProgram name) answer = IsDone answer
IsProgramAnswer d (ShaderSource name bytes) answer = IsDone answer
IsProgramAnswer d (CompileShader name) answer = IsCompiled answer
IsProgramAnswer d (AttachShader program shader) answer = IsDone answer
IsProgramAnswer d (DetachShader program shader) answer = IsDone answer
IsProgramAnswer d (BindAttribLocation program index name) answer = IsDone answer
IsProgramAnswer d (LinkProgram name) answer = IsLinked answer
IsProgramAnswer d (ValidateProgram name) answer = IsValidated answer
IsProgramAnswer d (UseProgram name) answer = IsDone answer
IsProgramAnswer d (Uniform location kind count bytes) answer = IsDone answer

-- a call on the fixed state, or one that clears or draws, only says that it was done
abbrev pub IsDrawingAnswer : DrawDriver → Answer → Type 0
IsDrawingAnswer (ActiveTexture unit) answer = IsDone answer
IsDrawingAnswer (SetRaster number words) answer = IsDone answer
IsDrawingAnswer (Clear mask) answer = IsDone answer
IsDrawingAnswer (DrawArrays mode first count black) answer = IsDone answer
IsDrawingAnswer (DrawElements mode count kind offset black) answer = IsDone answer

-- the answer is of the call's form
abbrev pub IsAnswer : DriverState → DriverCall → Answer → Type 0
IsAnswer d (Object call) answer = IsObjectAnswer d call answer
IsAnswer d (Image call) answer = IsImageAnswer call answer
IsAnswer d (Program call) answer = IsProgramAnswer d call answer
IsAnswer d (Draw call) answer = IsDrawingAnswer call answer

-- a new name is the next number of its space
abbrev pub told_number : Space → Answer → Oracle → Oracle
told_number space (Name n) o = with_numbers space (led_by n (numbers_in space o)) o
told_number space Done o = o
told_number space Oom o = o
told_number space (Compile ok log) o = o
told_number space (Link a) o = o
told_number space (Validate ok log) o = o
told_number space (Pixels bytes) o = o

-- whether there was room is the next answer of that kind
abbrev pub told_stored : Answer → Oracle → Oracle
told_stored Done o = record o { stored = led_by room.Done o.stored }
told_stored Oom o = record o { stored = led_by room.Oom o.stored }
told_stored (Name n) o = o
told_stored (Compile ok log) o = o
told_stored (Link a) o = o
told_stored (Validate ok log) o = o
told_stored (Pixels bytes) o = o

-- the name of a new shader or program is the next of their numbers
abbrev pub told_program : Answer → Oracle → Oracle
told_program (Name n) o = record o { programs = led_by n o.programs }
told_program Done o = o
told_program Oom o = o
told_program (Compile ok log) o = o
told_program (Link a) o = o
told_program (Validate ok log) o = o
told_program (Pixels bytes) o = o

-- what a compilation says is the next of that kind
abbrev pub told_compile : Answer → Oracle → Oracle
told_compile (Compile ok log) o = record o { compile = led_by (record { ok = ok; log = log }) o.compile }
told_compile Done o = o
told_compile (Name n) o = o
told_compile Oom o = o
told_compile (Link a) o = o
told_compile (Validate ok log) o = o
told_compile (Pixels bytes) o = o

-- what a link says is the next of that kind
abbrev pub told_link : Answer → Oracle → Oracle
told_link (Link a) o = record o { link = led_by a o.link }
told_link Done o = o
told_link (Name n) o = o
told_link Oom o = o
told_link (Compile ok log) o = o
told_link (Validate ok log) o = o
told_link (Pixels bytes) o = o

-- what a validation says is the next of that kind
abbrev pub told_validate : Answer → Oracle → Oracle
told_validate (Validate ok log) o = record o { validate = led_by (record { ok = ok; log = log }) o.validate }
told_validate (Pixels bytes) o = o
told_validate Done o = o
told_validate (Name n) o = o
told_validate Oom o = o
told_validate (Compile ok log) o = o
told_validate (Link a) o = o

-- the pixels that were read are the next
abbrev pub told_pixels : Answer → Oracle → Oracle
told_pixels (Pixels bytes) o = record o { pixels = led_by bytes o.pixels }
told_pixels Done o = o
told_pixels (Name n) o = o
told_pixels Oom o = o
told_pixels (Compile ok log) o = o
told_pixels (Link a) o = o
told_pixels (Validate ok log) o = o

-- what the answer to a call on objects tells, before the other answers
abbrev pub told_object : ObjectDriver → Answer → Oracle → Oracle
told_object GenBuffer answer o = told_number Buffers answer o
told_object (BindBuffer target name) answer o = o
told_object (BufferData target bytes usage) answer o = told_stored answer o
told_object (BufferSubData target offset bytes) answer o = o
told_object (DeleteBuffer name) answer o = o
told_object GenTexture answer o = told_number Textures answer o
told_object (BindTexture target name) answer o = o
told_object (DeleteTexture name) answer o = o
told_object GenRenderbuffer answer o = told_number Renderbuffers answer o
told_object (BindRenderbuffer name) answer o = o
told_object (DeleteRenderbuffer name) answer o = o
told_object GenFramebuffer answer o = told_number Framebuffers answer o
told_object (BindFramebuffer name) answer o = o
told_object (DeleteFramebuffer name) answer o = o
told_object (FramebufferTexture attachment textarget name) answer o = o
told_object (FramebufferRenderbuffer attachment name) answer o = o
told_object (VertexAttrib4 index values) answer o = o
told_object (VertexAttribPointer index size kind normalized stride offset) answer o = o
told_object (SetArray index on) answer o = o

-- what the answer to a call on images tells, before the other answers
abbrev pub told_image : ImageDriver → Answer → Oracle → Oracle
told_image (TexImage target level format kind width height payload) answer o = told_stored answer o
told_image (TexSubImage part bytes) answer o = o
told_image (ZeroLevel place rect) answer o = o
told_image (TexParameter target pname value) answer o = o
told_image (CopyTexImage target level format x y width height) answer o = told_stored answer o
told_image (CopyTexSubImage copy) answer o = o
told_image (GenerateMipmap target) answer o = o
told_image (RenderbufferStorage format width height) answer o = told_stored answer o
told_image (ZeroRenderbuffer name) answer o = o
told_image (ReadPixels x y width height) answer o = told_pixels answer o

-- what the answer to a call on shaders and programs tells, before the other answers
abbrev pub told_of_program : ProgramDriver → Answer → Oracle → Oracle
told_of_program (CreateShader kind) answer o = told_program answer o
told_of_program CreateProgram answer o = told_program answer o
told_of_program (DeleteShader name) answer o = o
told_of_program (DeleteProgram name) answer o = o
told_of_program (ShaderSource name bytes) answer o = o
told_of_program (CompileShader name) answer o = told_compile answer o
told_of_program (AttachShader program shader) answer o = o
told_of_program (DetachShader program shader) answer o = o
told_of_program (BindAttribLocation program index name) answer o = o
told_of_program (LinkProgram name) answer o = told_link answer o
told_of_program (ValidateProgram name) answer o = told_validate answer o
told_of_program (UseProgram name) answer o = o
told_of_program (Uniform location kind count bytes) answer o = o

-- and tells nothing
abbrev pub told_drawing : DrawDriver → Oracle → Oracle
told_drawing (ActiveTexture unit) o = o
told_drawing (SetRaster number words) o = o
told_drawing (Clear mask) o = o
told_drawing (DrawArrays mode first count black) o = o
told_drawing (DrawElements mode count kind offset black) o = o

-- what the answer to a call tells
abbrev pub told_call : DriverCall → Answer → Oracle → Oracle
told_call (Object call) answer o = told_object call answer o
told_call (Image call) answer o = told_image call answer o
told_call (Program call) answer o = told_of_program call answer o
told_call (Draw call) answer o = told_drawing call o

-- what the entries of a journal answered, and then the answers of o
abbrev pub told : List DriverEntry → Oracle → Oracle
told [] o = o
told (e ∷ es) o = told_call e.call e.answer (told es o)

-- whether there was room, as an answer
abbrev pub stored_answer : Stored → Answer
stored_answer room.Done = Done
stored_answer room.Oom = Oom

-- what an oracle answers to a call on objects
abbrev pub object_answer : Oracle → ObjectDriver → Answer
object_answer o GenBuffer = Name (first (numbers_in Buffers o))
object_answer o (BindBuffer target name) = Done
object_answer o (BufferData target bytes usage) = stored_answer (first o.stored)
object_answer o (BufferSubData target offset bytes) = Done
object_answer o (DeleteBuffer name) = Done
object_answer o GenTexture = Name (first (numbers_in Textures o))
object_answer o (BindTexture target name) = Done
object_answer o (DeleteTexture name) = Done
object_answer o GenRenderbuffer = Name (first (numbers_in Renderbuffers o))
object_answer o (BindRenderbuffer name) = Done
object_answer o (DeleteRenderbuffer name) = Done
object_answer o GenFramebuffer = Name (first (numbers_in Framebuffers o))
object_answer o (BindFramebuffer name) = Done
object_answer o (DeleteFramebuffer name) = Done
object_answer o (FramebufferTexture attachment textarget name) = Done
object_answer o (FramebufferRenderbuffer attachment name) = Done
object_answer o (VertexAttrib4 index values) = Done
object_answer o (VertexAttribPointer index size kind normalized stride offset) = Done
object_answer o (SetArray index on) = Done

-- what an oracle answers to a call on images
abbrev pub image_answer : Oracle → ImageDriver → Answer
image_answer o (TexImage target level format kind width height payload) = stored_answer (first o.stored)
image_answer o (TexSubImage part bytes) = Done
image_answer o (ZeroLevel place rect) = Done
image_answer o (TexParameter target pname value) = Done
image_answer o (CopyTexImage target level format x y width height) = stored_answer (first o.stored)
image_answer o (CopyTexSubImage copy) = Done
image_answer o (GenerateMipmap target) = Done
image_answer o (RenderbufferStorage format width height) = stored_answer (first o.stored)
image_answer o (ZeroRenderbuffer name) = Done
image_answer o (ReadPixels x y width height) = Pixels (fitted (read_count (natural width) (natural height)) (first o.pixels))

-- what an oracle answers to a call on shaders and programs
abbrev pub program_answer : Oracle → ProgramDriver → Answer
program_answer o (CreateShader kind) = Name (first o.programs)
program_answer o CreateProgram = Name (first o.programs)
program_answer o (DeleteShader name) = Done
program_answer o (DeleteProgram name) = Done
program_answer o (ShaderSource name bytes) = Done
program_answer o (CompileShader name) = Compile (first o.compile).ok (first o.compile).log
program_answer o (AttachShader program shader) = Done
program_answer o (DetachShader program shader) = Done
program_answer o (BindAttribLocation program index name) = Done
program_answer o (LinkProgram name) = Link (first o.link)
program_answer o (ValidateProgram name) = Validate (first o.validate).ok (first o.validate).log
program_answer o (UseProgram name) = Done
program_answer o (Uniform location kind count bytes) = Done

-- what is answered to a call on the fixed state, or to one that clears or draws
abbrev pub drawing_answer : DrawDriver → Answer
drawing_answer (ActiveTexture unit) = Done
drawing_answer (SetRaster number words) = Done
drawing_answer (Clear mask) = Done
drawing_answer (DrawArrays mode first count black) = Done
drawing_answer (DrawElements mode count kind offset black) = Done

-- what an oracle answers to a call
abbrev pub answer_to : Oracle → DriverCall → Answer
answer_to o (Object call) = object_answer o call
answer_to o (Image call) = image_answer o call
answer_to o (Program call) = program_answer o call
answer_to o (Draw call) = drawing_answer call

-- the answers that are left behind a call on objects
abbrev pub behind_object : ObjectDriver → Oracle → Oracle
behind_object GenBuffer o = with_numbers Buffers (behind (numbers_in Buffers o)) o
behind_object (BindBuffer target name) o = o
behind_object (BufferData target bytes usage) o = record o { stored = behind o.stored }
behind_object (BufferSubData target offset bytes) o = o
behind_object (DeleteBuffer name) o = o
behind_object GenTexture o = with_numbers Textures (behind (numbers_in Textures o)) o
behind_object (BindTexture target name) o = o
behind_object (DeleteTexture name) o = o
behind_object GenRenderbuffer o = with_numbers Renderbuffers (behind (numbers_in Renderbuffers o)) o
behind_object (BindRenderbuffer name) o = o
behind_object (DeleteRenderbuffer name) o = o
behind_object GenFramebuffer o = with_numbers Framebuffers (behind (numbers_in Framebuffers o)) o
behind_object (BindFramebuffer name) o = o
behind_object (DeleteFramebuffer name) o = o
behind_object (FramebufferTexture attachment textarget name) o = o
behind_object (FramebufferRenderbuffer attachment name) o = o
behind_object (VertexAttrib4 index values) o = o
behind_object (VertexAttribPointer index size kind normalized stride offset) o = o
behind_object (SetArray index on) o = o

-- the answers that are left behind a call on images
abbrev pub behind_image : ImageDriver → Oracle → Oracle
behind_image (TexImage target level format kind width height payload) o = record o { stored = behind o.stored }
behind_image (TexSubImage part bytes) o = o
behind_image (ZeroLevel place rect) o = o
behind_image (TexParameter target pname value) o = o
behind_image (CopyTexImage target level format x y width height) o = record o { stored = behind o.stored }
behind_image (CopyTexSubImage copy) o = o
behind_image (GenerateMipmap target) o = o
behind_image (RenderbufferStorage format width height) o = record o { stored = behind o.stored }
behind_image (ZeroRenderbuffer name) o = o
behind_image (ReadPixels x y width height) o = record o { pixels = behind o.pixels }

-- the answers that are left behind a call on shaders and programs
abbrev pub behind_program : ProgramDriver → Oracle → Oracle
behind_program (CreateShader kind) o = record o { programs = behind o.programs }
behind_program CreateProgram o = record o { programs = behind o.programs }
behind_program (DeleteShader name) o = o
behind_program (DeleteProgram name) o = o
behind_program (ShaderSource name bytes) o = o
behind_program (CompileShader name) o = record o { compile = behind o.compile }
behind_program (AttachShader program shader) o = o
behind_program (DetachShader program shader) o = o
behind_program (BindAttribLocation program index name) o = o
behind_program (LinkProgram name) o = record o { link = behind o.link }
behind_program (ValidateProgram name) o = record o { validate = behind o.validate }
behind_program (UseProgram name) o = o
behind_program (Uniform location kind count bytes) o = o

-- the answers that are left behind such a call
abbrev pub behind_drawing : DrawDriver → Oracle → Oracle
behind_drawing (ActiveTexture unit) o = o
behind_drawing (SetRaster number words) o = o
behind_drawing (Clear mask) o = o
behind_drawing (DrawArrays mode first count black) o = o
behind_drawing (DrawElements mode count kind offset black) o = o

-- the answers that are left behind a call
abbrev pub behind_call : DriverCall → Oracle → Oracle
behind_call (Object call) o = behind_object call o
behind_call (Image call) o = behind_image call o
behind_call (Program call) o = behind_program call o
behind_call (Draw call) o = behind_drawing call o

-- each entry has the answer that the oracle gives to its call, in order
abbrev pub AreAnsweredBy : Oracle → List DriverEntry → Type 0
AreAnsweredBy o [] = Unit {0}
AreAnsweredBy o (e ∷ es) = (e.answer ≡ answer_to o e.call) × AreAnsweredBy (behind_call e.call o) es

-- the answers that are left behind these entries
abbrev pub behind_entries : List DriverEntry → Oracle → Oracle
behind_entries [] o = o
behind_entries (e ∷ es) o = behind_entries es (behind_call e.call o)
