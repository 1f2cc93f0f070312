-- What a driver call leaves: the effect of its call of OpenGL ES, on driver names.
use Rattle.std.specs.Prelude.{ℕ, ℤ, true, false, List}
use Rattle.std.specs.FinMap as map
use Rattle.std.specs.FinSet as set
use Rattle.gl_base.specs.declared.gl_enum.GlEnum.{GlEnum}
use Rattle.gl_plain.specs.declared.driver_calls.Answer.{Answer}
use Rattle.gl_plain.specs.declared.driver_calls.Answer.TheVariants.{Done, Name, Oom, Compile, Link, Validate, Pixels}
use Rattle.gl_plain.specs.declared.driver_calls.ObjectDriver.{ObjectDriver}
use Rattle.gl_plain.specs.declared.driver_calls.ObjectDriver.TheVariants.{GenBuffer, BindBuffer, BufferData, BufferSubData, DeleteBuffer, GenTexture, BindTexture, DeleteTexture, GenRenderbuffer, BindRenderbuffer, DeleteRenderbuffer, GenFramebuffer, BindFramebuffer, DeleteFramebuffer, FramebufferTexture, FramebufferRenderbuffer, VertexAttrib4, VertexAttribPointer, SetArray}
use Rattle.gl_plain.specs.declared.driver_calls.DriverCall.{DriverCall}
use Rattle.gl_plain.specs.declared.driver_calls.DriverCall.TheVariants.{Object, Image, Program, Draw}
use Rattle.gl_plain.specs.declared.driver_calls.DrawDriver.{DrawDriver}
use Rattle.gl_plain.specs.declared.driver_calls.DrawDriver.TheVariants.{ActiveTexture, SetRaster, Clear, DrawArrays, DrawElements}
use Rattle.gl_plain.specs.declared.driver_calls.ImageDriver.{ImageDriver}
use Rattle.gl_plain.specs.declared.driver_calls.ImageDriver.TheVariants.{TexImage, TexSubImage, ZeroLevel, TexParameter, CopyTexImage, CopyTexSubImage, GenerateMipmap, RenderbufferStorage, ZeroRenderbuffer, ReadPixels}
use Rattle.gl_plain.specs.declared.driver_calls.ProgramDriver.{ProgramDriver}
use Rattle.gl_plain.specs.declared.driver_calls.ProgramDriver.TheVariants.{CreateShader, CreateProgram, DeleteShader, DeleteProgram, ShaderSource, CompileShader, AttachShader, DetachShader, BindAttribLocation, LinkProgram, ValidateProgram, UseProgram, Uniform}
use Rattle.gl_plain.specs.Words.{natural}
use Rattle.gl_plain.specs.subjects.Buffers.{bind_buffer_effect, buffer_data_effect, buffer_sub_data_effect, delete_buffers_effect}
use Rattle.gl_plain.specs.declared.textures.LevelView.{LevelView}
use Rattle.gl_plain.specs.subjects.Textures.{TextureObjects, TextureTables, bind_texture_effect, delete_textures_effect, active_texture_effect, tex_parameter_effect, place_bound}
use Rattle.gl_plain.specs.subjects.Attributes.{vertex_attrib_4f_effect, vertex_attrib_pointer_effect, array_of, set_array_effect, all_outside}
use Rattle.gl_plain.specs.subjects.Programs.{ProgramTables, create_shader_effect, create_program_effect, shader_source_effect, compile_shader_effect, delete_shader_effect, delete_program_effect, attach_shader_effect, detach_shader_effect, bind_attrib_location_effect, link_program_effect, validate_program_effect, use_program_effect}
use Rattle.gl_plain.specs.subjects.Uniforms.{uniform_effect}
use Rattle.gl_plain.specs.subjects.Raster.{raster_effect}
use Rattle.gl_plain.specs.subjects.Clears.{cleared, drawn}
use Rattle.gl_base.specs.PixelSizes.{pixel_size}
use Rattle.gl_plain.specs.subjects.Images.{Contents, Undefined, Zero, image_words, view_of, tex_image_effect, part_rect, with_image, with_pixels, with_storage, counted, new_pixels, pixels_of}
use Rattle.gl_plain.specs.declared.targets.Target.{Target}
use Rattle.gl_plain.specs.subjects.Targets.{new_renderbuffer, new_framebuffer, bind_effect, delete_effect, detach_deleted, framebuffer_texture_effect, framebuffer_renderbuffer_effect, storage_view, renderbuffer_storage_effect, target_of}
use Rattle.gl_plain.specs.subjects.Mipmaps.{generate_mipmap_effect, halved_contents}
use Rattle.gl_plain.specs.subjects.Copies.{copy_image, copy_words, copy_tex_image_contents, copy_tex_sub_image_contents}
use Rattle.gl_plain.specs.State.{DriverTables, DriverState, drawable_in}
use Rattle.gl_plain.specs.Spaces.{Space, Buffers, Textures, Renderbuffers, Framebuffers, with_given}

-- a new name is live, and counts as given
abbrev pub after_gen : Space → DriverTables → Answer → DriverTables
after_gen space t (Name n) = with_given space n t
after_gen space t Done = t
after_gen space t Oom = t
after_gen space t (Compile ok log) = t
after_gen space t (Link a) = t
after_gen space t (Validate ok log) = t
after_gen space t (Pixels bytes) = t

-- where there was no room, nothing is stored
abbrev pub after_buffer_data : DriverTables → GlEnum → List ℕ → GlEnum → Answer → DriverTables
after_buffer_data t target bytes usage Done = record t { buffers = buffer_data_effect t.buffers target bytes usage }
after_buffer_data t target bytes usage Oom = t
after_buffer_data t target bytes usage (Name n) = t
after_buffer_data t target bytes usage (Compile ok log) = t
after_buffer_data t target bytes usage (Link a) = t
after_buffer_data t target bytes usage (Validate ok log) = t
after_buffer_data t target bytes usage (Pixels pixels) = t

-- the tables with other textures
abbrev pub textures_in : DriverTables → TextureTables → DriverTables
textures_in t textures = record t { textures = textures }

-- the tables with other textures of the same names
abbrev pub objects_in : DriverTables → TextureObjects → DriverTables
objects_in t objects = textures_in t (record t.textures { objects = objects })

-- the tables that a call on objects leaves
abbrev pub after_object : DriverTables → ObjectDriver → Answer → DriverTables
after_object t GenBuffer answer = after_gen Buffers t answer
after_object t (BindBuffer target name) answer = record t { buffers = bind_buffer_effect t.buffers target name }
after_object t (BufferData target bytes usage) answer = after_buffer_data t target bytes usage answer
after_object t (BufferSubData target offset bytes) answer = record t { buffers = buffer_sub_data_effect t.buffers target (natural offset) bytes }
after_object t (DeleteBuffer name) answer = record t { buffers = delete_buffers_effect t.buffers name; attribs = all_outside t.attribs name }
after_object t GenTexture answer = after_gen Textures t answer
after_object t (BindTexture target name) answer = textures_in t (bind_texture_effect t.textures target name)
after_object t (DeleteTexture name) answer =
    record t { textures = delete_textures_effect t.textures name; framebuffers = detach_deleted t.framebuffers true (map.get t.textures.names name) }
after_object t GenRenderbuffer answer = after_gen Renderbuffers t answer
after_object t (BindRenderbuffer name) answer = record t { renderbuffers = bind_effect new_renderbuffer t.renderbuffers name }
after_object t (DeleteRenderbuffer name) answer =
    record t { renderbuffers = delete_effect t.renderbuffers name; framebuffers = detach_deleted t.framebuffers false (map.get t.renderbuffers.names name) }
after_object t GenFramebuffer answer = after_gen Framebuffers t answer
after_object t (BindFramebuffer name) answer = record t { framebuffers = bind_effect new_framebuffer t.framebuffers name }
after_object t (DeleteFramebuffer name) answer = record t { framebuffers = delete_effect t.framebuffers name }
after_object t (FramebufferTexture attachment textarget name) answer =
    record t { framebuffers = framebuffer_texture_effect t.framebuffers t.textures attachment textarget name 0 }
after_object t (FramebufferRenderbuffer attachment name) answer =
    record t { framebuffers = framebuffer_renderbuffer_effect t.framebuffers t.renderbuffers attachment name 0 }
after_object t (VertexAttrib4 index values) answer = record t { attribs = vertex_attrib_4f_effect t.attribs index values }
after_object t (VertexAttribPointer index size kind normalized stride offset) answer =
    record t { attribs = vertex_attrib_pointer_effect t.attribs index (array_of t.buffers size kind normalized stride offset) }
after_object t (SetArray index on) answer = record t { attribs = set_array_effect t.attribs index on }

-- where there was no room, there is no new image
abbrev pub after_tex_image : DriverTables → GlEnum → ℤ → LevelView → Answer → DriverTables
after_tex_image t target level v Done = objects_in t (tex_image_effect t.textures.objects target (natural level) v)
after_tex_image t target level v Oom = t
after_tex_image t target level v (Name n) = t
after_tex_image t target level v (Compile ok log) = t
after_tex_image t target level v (Link a) = t
after_tex_image t target level v (Validate ok log) = t
after_tex_image t target level v (Pixels bytes) = t

-- where there was no room, there is no new image
abbrev pub after_storage : DriverTables → LevelView → Answer → DriverTables
after_storage t v Done = record t { renderbuffers = renderbuffer_storage_effect t.renderbuffers v }
after_storage t v Oom = t
after_storage t v (Name n) = t
after_storage t v (Compile ok log) = t
after_storage t v (Link a) = t
after_storage t v (Validate ok log) = t
after_storage t v (Pixels bytes) = t

-- the tables that a call on images leaves
abbrev pub after_image : DriverTables → ImageDriver → Answer → DriverTables
after_image t (TexImage target level format kind width height payload) answer =
    after_tex_image t target level (view_of (image_words target level format kind width height)) answer
after_image t (TexSubImage part bytes) answer = t
after_image t (ZeroLevel place rect) answer = t
after_image t (TexParameter target pname value) answer = objects_in t (tex_parameter_effect t.textures.objects target pname value)
after_image t (CopyTexImage target level format x y width height) answer =
    after_tex_image t target level (view_of (copy_image (copy_words target level format x y width height))) answer
after_image t (CopyTexSubImage copy) answer = t
after_image t (GenerateMipmap target) answer = objects_in t (generate_mipmap_effect t.textures.objects target)
after_image t (RenderbufferStorage format width height) answer = after_storage t (storage_view format width height) answer
after_image t (ZeroRenderbuffer name) answer = t
after_image t (ReadPixels x y width height) answer = t

-- a new shader or program is there, and its name counts as given
abbrev pub after_create : (ℕ → ProgramTables) → DriverTables → Answer → DriverTables
after_create create t (Name n) = record t { programs = create n; given = record t.given { programs = set.insert t.given.programs n } }
after_create create t Done = t
after_create create t Oom = t
after_create create t (Compile ok log) = t
after_create create t (Link a) = t
after_create create t (Validate ok log) = t
after_create create t (Pixels bytes) = t

-- the tables with other programs
abbrev pub programs_in : DriverTables → ProgramTables → DriverTables
programs_in t programs = record t { programs = programs }

-- a shader is compiled
abbrev pub after_compile : DriverTables → ℕ → Answer → DriverTables
after_compile t name (Compile ok log) = programs_in t (compile_shader_effect t.programs name (record { ok = ok; log = log }))
after_compile t name Done = t
after_compile t name (Name n) = t
after_compile t name Oom = t
after_compile t name (Link a) = t
after_compile t name (Validate ok log) = t
after_compile t name (Pixels bytes) = t

-- a program is linked
abbrev pub after_link : DriverTables → ℕ → Answer → DriverTables
after_link t name (Link a) = programs_in t (link_program_effect t.programs name a)
after_link t name Done = t
after_link t name (Name n) = t
after_link t name Oom = t
after_link t name (Compile ok log) = t
after_link t name (Validate ok log) = t
after_link t name (Pixels bytes) = t

-- a program is validated
abbrev pub after_validate : DriverTables → ℕ → Answer → DriverTables
after_validate t name (Validate ok log) = programs_in t (validate_program_effect t.programs name (record { ok = ok; log = log }))
after_validate t name (Pixels bytes) = t
after_validate t name Done = t
after_validate t name (Name n) = t
after_validate t name Oom = t
after_validate t name (Compile ok log) = t
after_validate t name (Link a) = t

-- the tables that a call on shaders and programs leaves
abbrev pub after_program : DriverTables → ProgramDriver → Answer → DriverTables
after_program t (CreateShader kind) answer = after_create (λ n. create_shader_effect t.programs n n kind) t answer
after_program t CreateProgram answer = after_create (λ n. create_program_effect t.programs n n) t answer
after_program t (DeleteShader name) answer = programs_in t (delete_shader_effect t.programs name)
after_program t (DeleteProgram name) answer = programs_in t (delete_program_effect t.programs name)
after_program t (ShaderSource name bytes) answer = programs_in t (shader_source_effect t.programs name bytes)
after_program t (CompileShader name) answer = after_compile t name answer
after_program t (AttachShader program shader) answer = programs_in t (attach_shader_effect t.programs program shader)
after_program t (DetachShader program shader) answer = programs_in t (detach_shader_effect t.programs program shader)
after_program t (BindAttribLocation program index name) answer = programs_in t (bind_attrib_location_effect t.programs program index name)
after_program t (LinkProgram name) answer = after_link t name answer
after_program t (ValidateProgram name) answer = after_validate t name answer
after_program t (UseProgram name) answer = programs_in t (use_program_effect t.programs name)
after_program t (Uniform location kind count bytes) answer = programs_in t (uniform_effect t.programs location kind count bytes)

-- the tables that a call on the fixed state, or one that clears or draws, leaves
abbrev pub after_drawing : DriverTables → DrawDriver → DriverTables
after_drawing t (ActiveTexture unit) = objects_in t (active_texture_effect t.textures.objects unit)
after_drawing t (SetRaster number words) = record t { raster = raster_effect t.raster number words }
after_drawing t (Clear mask) = t
after_drawing t (DrawArrays mode first count black) = t
after_drawing t (DrawElements mode count kind offset black) = t

-- the tables after a call and its answer; no contents of images change them
abbrev pub tables_after : DriverTables → DriverCall → Answer → DriverTables
tables_after t (Object call) answer = after_object t call answer
tables_after t (Image call) answer = after_image t call answer
tables_after t (Program call) answer = after_program t call answer
tables_after t (Draw call) answer = after_drawing t call

-- the contents that a call on the fixed state, or one that clears or draws, leaves
abbrev pub contents_drawn : Target → Contents → DrawDriver → Contents
contents_drawn to k (ActiveTexture unit) = k
contents_drawn to k (SetRaster number words) = k
contents_drawn to k (Clear mask) = cleared mask to k
contents_drawn to k (DrawArrays mode first count black) = drawn to k
contents_drawn to k (DrawElements mode count kind offset black) = drawn to k

-- where there was no room, the contents are as they were
abbrev pub image_kept : Contents → Contents → Answer → Contents
image_kept k new Done = new
image_kept k new Oom = k
image_kept k new (Name n) = k
image_kept k new (Compile ok log) = k
image_kept k new (Link a) = k
image_kept k new (Validate ok log) = k
image_kept k new (Pixels bytes) = k

-- the contents that a call on images leaves: an image without data is not written, nor is new storage
abbrev pub contents_of_image : DriverTables → Contents → ImageDriver → Answer → Contents
contents_of_image t k (TexImage target level format kind width height payload) answer =
    image_kept k (with_image k (place_bound t.textures.objects target (natural level)) (new_pixels Undefined payload (view_of (image_words target level format kind width height)))) answer
contents_of_image t k (TexSubImage part bytes) answer =
    with_pixels k (place_bound t.textures.objects part.target (natural part.level)) (part_rect part) (pixels_of bytes (pixel_size part.format part.kind) (part_rect part))
contents_of_image t k (ZeroLevel place rect) answer = with_pixels k place rect (λ x y. Zero)
contents_of_image t k (TexParameter target pname value) answer = k
contents_of_image t k (CopyTexImage target level format x y width height) answer =
    image_kept k (copy_tex_image_contents (drawable_in t) (copy_words target level format x y width height) k) answer
contents_of_image t k (CopyTexSubImage copy) answer = copy_tex_sub_image_contents (drawable_in t) copy k
contents_of_image t k (GenerateMipmap target) answer = halved_contents t.textures.objects target k
contents_of_image t k (RenderbufferStorage format width height) answer = image_kept k (with_storage k t.renderbuffers.bound (λ x y. Undefined)) answer
contents_of_image t k (ZeroRenderbuffer name) answer = with_storage k name (λ x y. Zero)
contents_of_image t k (ReadPixels x y width height) answer = counted k

-- the contents after a call and its answer; a call on objects, shaders and programs leaves them as they are
abbrev pub contents_after_call : DriverState → DriverCall → Answer → Contents
contents_after_call d (Object call) answer = d.contents
contents_after_call d (Image call) answer = contents_of_image d.tables d.contents call answer
contents_after_call d (Program call) answer = d.contents
contents_after_call d (Draw call) answer = contents_drawn (target_of d.tables.framebuffers) d.contents call

-- the state after a call and its answer
abbrev pub driver_after : DriverState → DriverCall → Answer → DriverState
driver_after d call answer = record { tables = tables_after d.tables call answer; contents = contents_after_call d call answer }
