-- A driver call and its answer as they are printed.
use Rattle.std.specs.Prelude.{ℕ, Bool, if◌then◌else◌, List, [], ◌∷◌, ◌++◌, map, codes}
use Rattle.std.specs.Fmt.{decimal, signed_decimal}
use Rattle.gl_plain.specs.declared.driver_calls.ObjectDriver.{ObjectDriver}
use Rattle.gl_plain.specs.declared.driver_calls.ObjectDriver.TheVariants.{GenBuffer, BindBuffer, BufferData, BufferSubData, DeleteBuffer, GenTexture, BindTexture, DeleteTexture, GenRenderbuffer, BindRenderbuffer, DeleteRenderbuffer, GenFramebuffer, BindFramebuffer, DeleteFramebuffer, FramebufferTexture, FramebufferRenderbuffer, VertexAttrib4, VertexAttribPointer, SetArray}
use Rattle.gl_plain.specs.declared.driver_calls.DriverCall.{DriverCall}
use Rattle.gl_plain.specs.declared.driver_calls.DriverCall.TheVariants.{Object, Image, Program, Draw}
use Rattle.gl_plain.specs.declared.driver_calls.ImageDriver.{ImageDriver}
use Rattle.gl_plain.specs.declared.driver_calls.ImageDriver.TheVariants.{TexImage, TexSubImage, ZeroLevel, TexParameter, CopyTexImage, CopyTexSubImage, GenerateMipmap, RenderbufferStorage, ZeroRenderbuffer, ReadPixels}
use Rattle.gl_plain.specs.declared.driver_calls.DrawDriver.{DrawDriver}
use Rattle.gl_plain.specs.declared.driver_calls.DrawDriver.TheVariants.{ActiveTexture, SetRaster, Clear, DrawArrays, DrawElements}
use Rattle.gl_plain.specs.declared.driver_calls.ProgramDriver.{ProgramDriver}
use Rattle.gl_plain.specs.declared.driver_calls.ProgramDriver.TheVariants.{CreateShader, CreateProgram, DeleteShader, DeleteProgram, ShaderSource, CompileShader, AttachShader, DetachShader, BindAttribLocation, LinkProgram, ValidateProgram, UseProgram, Uniform}
use Rattle.gl_plain.specs.declared.driver_calls.Answer.{Answer}
use Rattle.gl_plain.specs.declared.driver_calls.Answer.TheVariants.{Done, Name, Oom, Compile, Link, Validate, Pixels}
use Rattle.report_text.specs.Lines.{spaced}
use Rattle.report_text.specs.Values.{enum_text, pattern_text, flag_text, bytes_text, payload_text}

-- a call on an object is its name and its arguments
unfoldable pub object_text : ObjectDriver → List ℕ
object_text GenBuffer = codes "gen_buffer"
object_text (BindBuffer target name) = codes "bind_buffer" ++ spaced (enum_text target.0 ∷ decimal name ∷ [])
object_text (BufferData target bytes usage) = codes "buffer_data" ++ spaced (enum_text target.0 ∷ bytes_text bytes ∷ enum_text usage.0 ∷ [])
object_text (BufferSubData target offset bytes) =
    codes "buffer_sub_data" ++ spaced (enum_text target.0 ∷ signed_decimal offset ∷ bytes_text bytes ∷ [])
object_text (DeleteBuffer name) = codes "delete_buffer" ++ spaced (decimal name ∷ [])
object_text GenTexture = codes "gen_texture"
object_text (BindTexture target name) = codes "bind_texture" ++ spaced (enum_text target.0 ∷ decimal name ∷ [])
object_text (DeleteTexture name) = codes "delete_texture" ++ spaced (decimal name ∷ [])
object_text GenRenderbuffer = codes "gen_renderbuffer"
object_text (BindRenderbuffer name) = codes "bind_renderbuffer" ++ spaced (decimal name ∷ [])
object_text (DeleteRenderbuffer name) = codes "delete_renderbuffer" ++ spaced (decimal name ∷ [])
object_text GenFramebuffer = codes "gen_framebuffer"
object_text (BindFramebuffer name) = codes "bind_framebuffer" ++ spaced (decimal name ∷ [])
object_text (DeleteFramebuffer name) = codes "delete_framebuffer" ++ spaced (decimal name ∷ [])
object_text (FramebufferTexture attachment textarget name) = codes "framebuffer_texture" ++ spaced (enum_text attachment.0 ∷ enum_text textarget.0 ∷ decimal name ∷ [])
object_text (FramebufferRenderbuffer attachment name) = codes "framebuffer_renderbuffer" ++ spaced (enum_text attachment.0 ∷ decimal name ∷ [])
object_text (VertexAttrib4 index values) = codes "vertex_attrib_4" ++ spaced (decimal index ∷ map pattern_text values)
object_text (VertexAttribPointer index size kind normalized stride offset) =
    codes "vertex_attrib_pointer" ++ spaced (decimal index ∷ signed_decimal size ∷ enum_text kind.0 ∷ flag_text normalized ∷ signed_decimal stride ∷ decimal offset ∷ [])
object_text (SetArray index on) = codes "set_array" ++ spaced (decimal index ∷ flag_text on ∷ [])

-- a call on an image, or one that reads pixels, is its name and its arguments
unfoldable pub image_text : ImageDriver → List ℕ
image_text (TexImage target level format kind width height payload) =
    codes "tex_image" ++ spaced (enum_text target.0 ∷ signed_decimal level ∷ enum_text format.0 ∷ enum_text kind.0 ∷ signed_decimal width ∷ signed_decimal height ∷ payload_text payload ∷ [])
image_text (TexSubImage part bytes) =
    codes "tex_sub_image" ++ spaced (enum_text part.target.0 ∷ signed_decimal part.level ∷ signed_decimal part.x ∷ signed_decimal part.y ∷ signed_decimal part.width ∷ signed_decimal part.height
    ∷ enum_text part.format.0 ∷ enum_text part.kind.0 ∷ bytes_text bytes ∷ [])
image_text (ZeroLevel place rect) =
    codes "zero_level" ++ spaced (decimal place.texture ∷ enum_text place.face.0 ∷ decimal place.level ∷ decimal rect.x ∷ decimal rect.y ∷ decimal rect.width ∷ decimal rect.height ∷ [])
image_text (TexParameter target pname value) = codes "tex_parameter" ++ spaced (enum_text target.0 ∷ enum_text pname.0 ∷ enum_text value.0 ∷ [])
image_text (CopyTexImage target level format x y width height) =
    codes "copy_tex_image" ++ spaced (enum_text target.0 ∷ signed_decimal level ∷ enum_text format.0 ∷ signed_decimal x ∷ signed_decimal y ∷ signed_decimal width ∷ signed_decimal height ∷ [])
image_text (CopyTexSubImage copy) =
    codes "copy_tex_sub_image" ++ spaced (enum_text copy.target.0 ∷ signed_decimal copy.level ∷ signed_decimal copy.xoffset ∷ signed_decimal copy.yoffset
    ∷ signed_decimal copy.x ∷ signed_decimal copy.y ∷ signed_decimal copy.width ∷ signed_decimal copy.height ∷ [])
image_text (GenerateMipmap target) = codes "generate_mipmap" ++ spaced (enum_text target.0 ∷ [])
image_text (RenderbufferStorage format width height) = codes "renderbuffer_storage" ++ spaced (enum_text format.0 ∷ signed_decimal width ∷ signed_decimal height ∷ [])
image_text (ZeroRenderbuffer name) = codes "zero_renderbuffer" ++ spaced (decimal name ∷ [])
image_text (ReadPixels x y width height) = codes "read_pixels" ++ spaced (signed_decimal x ∷ signed_decimal y ∷ signed_decimal width ∷ signed_decimal height ∷ [])

-- a call on a shader or a program is its name and its arguments
unfoldable pub program_text : ProgramDriver → List ℕ
program_text (CreateShader kind) = codes "create_shader" ++ spaced (enum_text kind.0 ∷ [])
program_text CreateProgram = codes "create_program"
program_text (DeleteShader name) = codes "delete_shader" ++ spaced (decimal name ∷ [])
program_text (DeleteProgram name) = codes "delete_program" ++ spaced (decimal name ∷ [])
program_text (ShaderSource name bytes) = codes "shader_source" ++ spaced (decimal name ∷ bytes_text bytes ∷ [])
program_text (CompileShader name) = codes "compile_shader" ++ spaced (decimal name ∷ [])
program_text (AttachShader program shader) = codes "attach_shader" ++ spaced (decimal program ∷ decimal shader ∷ [])
program_text (DetachShader program shader) = codes "detach_shader" ++ spaced (decimal program ∷ decimal shader ∷ [])
program_text (BindAttribLocation program index name) = codes "bind_attrib_location" ++ spaced (decimal program ∷ decimal index ∷ bytes_text name ∷ [])
program_text (LinkProgram name) = codes "link_program" ++ spaced (decimal name ∷ [])
program_text (ValidateProgram name) = codes "validate_program" ++ spaced (decimal name ∷ [])
program_text (UseProgram name) = codes "use_program" ++ spaced (decimal name ∷ [])
program_text (Uniform location kind count bytes) = codes "uniform" ++ spaced (signed_decimal location ∷ decimal kind ∷ signed_decimal count ∷ bytes_text bytes ∷ [])

-- a call on the active unit or the fixed state, or one that clears or draws, is its name and its arguments; words of the fixed state are printed as float patterns are
unfoldable pub drawing_text : DrawDriver → List ℕ
drawing_text (ActiveTexture unit) = codes "active_texture" ++ spaced (decimal unit ∷ [])
drawing_text (SetRaster number words) = codes "set_raster" ++ spaced (decimal number ∷ map pattern_text words)
drawing_text (Clear mask) = codes "clear" ++ spaced (decimal mask ∷ [])
drawing_text (DrawArrays mode first count black) = codes "draw_arrays" ++ spaced (enum_text mode.0 ∷ signed_decimal first ∷ signed_decimal count ∷ decimal black ∷ [])
drawing_text (DrawElements mode count kind offset black) =
    codes "draw_elements" ++ spaced (enum_text mode.0 ∷ signed_decimal count ∷ enum_text kind.0 ∷ decimal offset ∷ decimal black ∷ [])

-- a call is printed as those of its kind are
unfoldable pub call_text : DriverCall → List ℕ
call_text (Object call) = object_text call
call_text (Image call) = image_text call
call_text (Program call) = program_text call
call_text (Draw call) = drawing_text call

-- whether it went well
abbrev pub outcome_text : Bool → List ℕ
outcome_text ok = if ok then codes " -> ok" else codes " -> fail"

-- an answer adds the name that it gives, the word `oom`, whether a compilation, a link or a validation went well, or the pixels that were read, and
-- else nothing; logs and lists are not printed
unfoldable pub answer_text : Answer → List ℕ
answer_text Done = []
answer_text (Name name) = codes " -> " ++ decimal name
answer_text Oom = codes " -> oom"
answer_text (Compile ok log) = outcome_text ok
answer_text (Link a) = outcome_text a.ok
answer_text (Validate ok log) = outcome_text ok
answer_text (Pixels bytes) = codes " -> " ++ bytes_text bytes
