-- The condition of every driver call.
use Rattle.std.specs.Prelude.{◌≡◌, ◌≤◌, ◌⊎◌, pos, true, false, length, Option, None, Some, IsSome, IsTrue}
use Rattle.std.specs.FinMap as map
use Rattle.gl_base.specs.declared.limits.TheConstants.{LAST_ATTRIBUTE, LAST_UNIT, NAME_LENGTH_LIMIT}
use Rattle.gl_plain.specs.declared.driver_calls.ObjectDriver.{ObjectDriver}
use Rattle.gl_plain.specs.declared.driver_calls.ObjectDriver.TheVariants.{GenBuffer, BindBuffer, BufferData, BufferSubData, DeleteBuffer, GenTexture, BindTexture, DeleteTexture, GenRenderbuffer, BindRenderbuffer, DeleteRenderbuffer, GenFramebuffer, BindFramebuffer, DeleteFramebuffer, FramebufferTexture, FramebufferRenderbuffer, VertexAttrib4, VertexAttribPointer, SetArray}
use Rattle.gl_plain.specs.declared.driver_calls.DriverCall.{DriverCall}
use Rattle.gl_plain.specs.declared.driver_calls.DriverCall.TheVariants.{Object, Image, Program, Draw}
use Rattle.gl_plain.specs.declared.driver_calls.DrawDriver.{DrawDriver}
use Rattle.gl_plain.specs.declared.driver_calls.DrawDriver.TheVariants.{ActiveTexture, SetRaster, Clear, DrawArrays, DrawElements}
use Rattle.gl_plain.specs.declared.driver_calls.ImageDriver.{ImageDriver}
use Rattle.gl_plain.specs.declared.driver_calls.ImageDriver.TheVariants.{TexImage, TexSubImage, ZeroLevel, TexParameter, CopyTexImage, CopyTexSubImage, GenerateMipmap, RenderbufferStorage, ZeroRenderbuffer, ReadPixels}
use Rattle.gl_plain.specs.declared.driver_calls.ProgramDriver.{ProgramDriver}
use Rattle.gl_plain.specs.declared.driver_calls.ProgramDriver.TheVariants.{CreateShader, CreateProgram, DeleteShader, DeleteProgram, ShaderSource, CompileShader, AttachShader, DetachShader, BindAttribLocation, LinkProgram, ValidateProgram, UseProgram, Uniform}
use Rattle.gl_plain.specs.declared.programs.Program as programs
use Rattle.gl_plain.specs.subjects.Names.{IsLive}
use Rattle.gl_plain.specs.subjects.Buffers.{IsBindBufferAllowed, IsBufferDataAllowed, IsBufferSubDataAllowed}
use Rattle.gl_plain.specs.subjects.Textures.{IsBindTextureAllowed, tex_parameter_refusal, level_at}
use Rattle.gl_plain.specs.subjects.Images.{image_words, IsTexImageAllowed, IsTexSubImageAllowed, IsZeroLevelAllowed}
use Rattle.gl_plain.specs.subjects.Attributes.{vertex_attrib_pointer_refusal}
use Rattle.gl_plain.specs.subjects.Programs.{ProgramTables, is_shader_kind, attach_refusal_by, detach_refusal_by, is_built_in, can_link, is_linked}
use Rattle.gl_plain.specs.subjects.Uniforms.{IsUniformAllowed}
use Rattle.gl_plain.specs.subjects.Raster.{IsSetRasterAllowed}
use Rattle.gl_plain.specs.subjects.Clears.{IsClearAllowed}
use Rattle.gl_plain.specs.subjects.Draws.{check_arrays, check_indexed, IsDrawAllowed}
use Rattle.gl_base.specs.declared.target_enums.TheConstants.{FRAMEBUFFER, RENDERBUFFER}
use Rattle.gl_plain.specs.subjects.Targets.{framebuffer_texture_refusal, framebuffer_renderbuffer_refusal, renderbuffer_storage_refusal, renderbuffer_at}
use Rattle.gl_plain.specs.subjects.Mipmaps.{IsMipmapAllowed}
use Rattle.gl_plain.specs.subjects.Copies.{copy_tex_image_refusal, copy_tex_sub_image_refusal, copy_words, IsCopyAllowed, IsReadAllowed}
use Rattle.gl_plain.specs.State.{DriverTables, DriverState, sources_in, drawable_in}

-- a call on objects may be made with these tables: names are live, data and attributes are those that OpenGL ES takes (sections 2.7 to 2.9)
abbrev pub IsObjectAllowed : DriverTables → ObjectDriver → Type 0
IsObjectAllowed t GenBuffer = Unit {0}
IsObjectAllowed t (BindBuffer target name) = IsBindBufferAllowed t.buffers target name
IsObjectAllowed t (BufferData target bytes usage) = IsBufferDataAllowed t.buffers target bytes usage
IsObjectAllowed t (BufferSubData target offset bytes) = IsBufferSubDataAllowed t.buffers target offset bytes
IsObjectAllowed t (DeleteBuffer name) = IsLive t.buffers.names name
IsObjectAllowed t GenTexture = Unit {0}
IsObjectAllowed t (BindTexture target name) = IsBindTextureAllowed t.textures target name
IsObjectAllowed t (DeleteTexture name) = IsLive t.textures.names name
IsObjectAllowed t GenRenderbuffer = Unit {0}
IsObjectAllowed t (BindRenderbuffer name) = (name ≡ 0) ⊎ IsLive t.renderbuffers.names name
IsObjectAllowed t (DeleteRenderbuffer name) = IsLive t.renderbuffers.names name
IsObjectAllowed t GenFramebuffer = Unit {0}
IsObjectAllowed t (BindFramebuffer name) = (name ≡ 0) ⊎ IsLive t.framebuffers.names name
IsObjectAllowed t (DeleteFramebuffer name) = IsLive t.framebuffers.names name
IsObjectAllowed t (FramebufferTexture attachment textarget name) = framebuffer_texture_refusal t.framebuffers t.textures FRAMEBUFFER attachment textarget name (pos 0) ≡ None
IsObjectAllowed t (FramebufferRenderbuffer attachment name) = framebuffer_renderbuffer_refusal t.framebuffers t.renderbuffers FRAMEBUFFER attachment RENDERBUFFER name ≡ None
IsObjectAllowed t (VertexAttrib4 index values) = index ≤ LAST_ATTRIBUTE
IsObjectAllowed t (VertexAttribPointer index size kind normalized stride offset) = vertex_attrib_pointer_refusal index size kind stride ≡ None
IsObjectAllowed t (SetArray index on) = index ≤ LAST_ATTRIBUTE

-- a call on images may be made in this state: images, parameters, copies and storage are those that OpenGL ES takes, what is zeroed is there, and
-- what is read was written (sections 3.7.1, 3.7.2, 3.7.4, 3.7.11, 4.3.1 and 4.4.3)
abbrev pub IsImageAllowed : DriverState → ImageDriver → Type 0
IsImageAllowed d (TexImage target level format kind width height payload) = IsTexImageAllowed (image_words target level format kind width height) payload
IsImageAllowed d (TexSubImage part bytes) = IsTexSubImageAllowed d.tables.textures.objects part bytes
IsImageAllowed d (ZeroLevel place rect) = IsZeroLevelAllowed (level_at d.tables.textures.objects place) rect
IsImageAllowed d (TexParameter target pname value) = tex_parameter_refusal target pname value ≡ None
IsImageAllowed d (CopyTexImage target level format x y width height) =
    IsCopyAllowed (drawable_in d.tables) d.contents (copy_tex_image_refusal (drawable_in d.tables) (copy_words target level format x y width height))
IsImageAllowed d (CopyTexSubImage copy) = IsCopyAllowed (drawable_in d.tables) d.contents (copy_tex_sub_image_refusal (drawable_in d.tables) copy)
IsImageAllowed d (GenerateMipmap target) = IsMipmapAllowed d.tables.textures.objects d.tables.renderbuffers.objects d.contents target
IsImageAllowed d (RenderbufferStorage format width height) = renderbuffer_storage_refusal d.tables.renderbuffers RENDERBUFFER format width height ≡ None
IsImageAllowed d (ZeroRenderbuffer name) = IsSome (renderbuffer_at d.tables.renderbuffers.objects name)
IsImageAllowed d (ReadPixels x y width height) = IsReadAllowed (drawable_in d.tables) d.contents width height

-- a live program with a compiled vertex and a compiled fragment shader attached
abbrev pub CanLink : ProgramTables → Option programs.Program → Type 0
CanLink t None = ⊥
CanLink t (Some p) = can_link t.shaders p.attached ≡ true

-- a call on shaders and programs may be made with these tables: names are live, programs are linked, values suit their uniforms (section 2.10)
abbrev pub IsProgramAllowed : ProgramTables → ProgramDriver → Type 0
IsProgramAllowed t (CreateShader kind) = IsTrue (is_shader_kind kind)
IsProgramAllowed t CreateProgram = Unit {0}
IsProgramAllowed t (DeleteShader name) = IsSome (map.get t.shaders name)
IsProgramAllowed t (DeleteProgram name) = IsSome (map.get t.programs name)
IsProgramAllowed t (ShaderSource name bytes) = IsSome (map.get t.shaders name)
IsProgramAllowed t (CompileShader name) = IsSome (map.get t.shaders name)
IsProgramAllowed t (AttachShader program shader) = attach_refusal_by t.shaders (map.get t.programs program) (map.get t.shaders shader) ≡ None
IsProgramAllowed t (DetachShader program shader) = detach_refusal_by (map.get t.programs program) (map.get t.shaders shader) shader ≡ None
IsProgramAllowed t (BindAttribLocation program index name) =
    IsSome (map.get t.programs program) × (index ≤ LAST_ATTRIBUTE) × (length name ≤ NAME_LENGTH_LIMIT) × (is_built_in name ≡ false)
IsProgramAllowed t (LinkProgram name) = CanLink t (map.get t.programs name)
IsProgramAllowed t (ValidateProgram name) = is_linked (map.get t.programs name) ≡ true
IsProgramAllowed t (UseProgram name) = (name ≡ 0) ⊎ (is_linked (map.get t.programs name) ≡ true)
IsProgramAllowed t (Uniform location kind count bytes) = IsUniformAllowed t.installed location kind count bytes

-- a unit is one that is there; a call on the fixed state takes words as they are kept; one that clears or draws is that of a call of OpenGL ES that is not refused and does
-- something, and all images that it writes were written (sections 2.8, 4.2.3 and 4.4.5)
abbrev pub IsDrawingAllowed : DriverState → DrawDriver → Type 0
IsDrawingAllowed d (ActiveTexture unit) = unit ≤ LAST_UNIT
IsDrawingAllowed d (SetRaster number words) = IsSetRasterAllowed number words
IsDrawingAllowed d (Clear mask) = IsClearAllowed (drawable_in d.tables) d.contents mask
IsDrawingAllowed d (DrawArrays mode first count black) = IsDrawAllowed (sources_in d.tables) d.contents (check_arrays (sources_in d.tables) mode first count) black
IsDrawingAllowed d (DrawElements mode count kind offset black) = IsDrawAllowed (sources_in d.tables) d.contents (check_indexed (sources_in d.tables) mode count kind offset) black

-- the call may be made in this state
abbrev pub IsAllowed : DriverState → DriverCall → Type 0
IsAllowed d (Object call) = IsObjectAllowed d.tables call
IsAllowed d (Image call) = IsImageAllowed d call
IsAllowed d (Program call) = IsProgramAllowed d.tables.programs call
IsAllowed d (Draw call) = IsDrawingAllowed d call
