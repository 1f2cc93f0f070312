-- What a call adds to a journal.
use Rattle.std.specs.Prelude.{[], ◌∷◌, ◌++◌}
use Rattle.gl_plain.specs.declared.driver_calls.Answer.{Answer}
use Rattle.gl_plain.specs.declared.driver_calls.Answer.TheVariants.{Done, Pixels}
use Rattle.gl_plain.specs.declared.driver_calls.DriverCall.{DriverCall}
use Rattle.gl_plain.specs.declared.driver_calls.DriverCall.TheVariants.{Object, Image, Program, Draw}
use Rattle.gl_plain.specs.declared.driver_calls.DriverEntry.{DriverEntry}
use Rattle.gl_plain.specs.declared.driver_calls.ObjectDriver.TheVariants as objects
use Rattle.gl_plain.specs.declared.driver_calls.ImageDriver.TheVariants as images
use Rattle.gl_plain.specs.declared.driver_calls.ProgramDriver.TheVariants as programs
use Rattle.gl_plain.specs.declared.driver_calls.DrawDriver.TheVariants as drawing
use Rattle.gl_driver.specs.Payloads.{payload_given}
use Rattle.counting_driver.specs.declared.journal.Journal.{Journal}
use Rattle.counting_driver.specs.declared.journal.Made.{Made}
use Rattle.counting_driver.specs.declared.journal.Made.TheVariants.{BufferData, BufferSubData, TexImage, TexSubImage, ShaderSource, BindAttribLocation, Uniform, SetRaster, ReadPixels, Plain}

-- the call that was made
abbrev pub call_made : Made → DriverCall
call_made (BufferData target bytes usage) = Object (objects.BufferData target bytes.now usage)
call_made (BufferSubData target offset bytes) = Object (objects.BufferSubData target offset bytes.now)
call_made (TexImage target level format kind width height bytes) = Image (images.TexImage target level format kind width height (payload_given bytes))
call_made (TexSubImage part bytes) = Image (images.TexSubImage part bytes.now)
call_made (ShaderSource name bytes) = Program (programs.ShaderSource name bytes.now)
call_made (BindAttribLocation program index name) = Program (programs.BindAttribLocation program index name.now)
call_made (Uniform location kind count bytes) = Program (programs.Uniform location kind count bytes.now)
call_made (SetRaster number words) = Draw (drawing.SetRaster number words.now)
call_made (ReadPixels x y width height pixels) = Image (images.ReadPixels x y width height)
call_made (Plain call answer) = call.now

-- its answer
abbrev pub answer_made : Made → Answer
answer_made (BufferData target bytes usage) = Done
answer_made (BufferSubData target offset bytes) = Done
answer_made (TexImage target level format kind width height bytes) = Done
answer_made (TexSubImage part bytes) = Done
answer_made (ShaderSource name bytes) = Done
answer_made (BindAttribLocation program index name) = Done
answer_made (Uniform location kind count bytes) = Done
answer_made (SetRaster number words) = Done
answer_made (ReadPixels x y width height pixels) = Pixels pixels.now
answer_made (Plain call answer) = answer.now

-- both, as a journal has them
abbrev pub entry_made : Made → DriverEntry
entry_made made = record { call = call_made made; answer = answer_made made }

-- a journal of no call
abbrev pub no_entries : Journal
no_entries = record { entries = [] }

-- the journal with one more call
abbrev pub with_entry : Journal → Made → Journal
with_entry journal made = record journal { entries = journal.entries ++ entry_made made ∷ [] }
