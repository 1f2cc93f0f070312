-- The state of objects, and of vertex attributes, that is asked for by a name (OpenGL ES 2.0.25, sections 6.1.3 to 6.1.8).
use Rattle.std.specs.Prelude.{ℕ, Bool, true, false, not, ◌==◌, ◌&&◌, ◌||◌, nat_lt, if◌then◌else◌, List, [], ◌∷◌, length, Option, None, Some, is_none}
use Rattle.std.specs.FinMap as table
use Rattle.gl_base.specs.declared.gl_enum.GlEnum.{GlEnum}
use Rattle.gl_base.specs.declared.limits.TheConstants.{LAST_ATTRIBUTE}
use Rattle.gl_base.specs.declared.query_enums.TheConstants as names
use Rattle.gl_base.specs.declared.target_enums.TheConstants.{NONE, FRAMEBUFFER, RENDERBUFFER, COLOR_ATTACHMENT0, DEPTH_ATTACHMENT, RGBA4, RGB5_A1, RGB565, DEPTH_COMPONENT16, STENCIL_INDEX8}
use Rattle.gl_base.specs.declared.texture_enums.TheConstants.{TEXTURE_MIN_FILTER, TEXTURE_MAG_FILTER, TEXTURE_WRAP_S, TEXTURE_WRAP_T}
use Rattle.gl_plain.specs.declared.attributes.VertexAttribute.{VertexAttribute}
use Rattle.gl_plain.specs.declared.attributes.VertexAttributes.{VertexAttributes}
use Rattle.gl_plain.specs.declared.errors.GlError.{GlError}
use Rattle.gl_plain.specs.declared.errors.GlError.TheVariants.{InvalidEnum, InvalidValue, InvalidOperation}
use Rattle.gl_plain.specs.declared.objects.Buffer.{Buffer}
use Rattle.gl_plain.specs.declared.targets.AttachView.{AttachView}
use Rattle.gl_plain.specs.declared.targets.AttachView.TheVariants as view
use Rattle.gl_plain.specs.declared.targets.Attached.{Attached}
use Rattle.gl_plain.specs.declared.targets.Attached.TheVariants as attached
use Rattle.gl_plain.specs.declared.targets.Framebuffer.{Framebuffer}
use Rattle.gl_plain.specs.declared.textures.LevelView.{LevelView}
use Rattle.gl_plain.specs.declared.textures.Texture.{Texture}
use Rattle.gl_plain.specs.subjects.Names.{Names, name_of}
use Rattle.gl_plain.specs.subjects.Attributes.{attribute}
use Rattle.gl_plain.specs.subjects.Buffers.{BufferTables, is_buffer_target, bound}
use Rattle.gl_plain.specs.subjects.Levels.{is_texture_target, is_cube_target, is_cube_face}
use Rattle.gl_plain.specs.subjects.Links.{is_one_of}
use Rattle.gl_plain.specs.subjects.Targets.{FramebufferTables, RenderbufferTables, Renderbuffers, attach_view, image_attached, is_attachment, renderbuffer_at}
use Rattle.gl_plain.specs.subjects.Textures.{TextureObjects, bound_texture}
use Rattle.gl_plain.specs.subjects.Values.{float_of_word}

-- a boolean as a word
abbrev pub flag : Bool → ℕ
flag true = 1
flag false = 0

-- GetBufferParameteriv

abbrev pub is_buffer_parameter : GlEnum → Bool
is_buffer_parameter pname = is_one_of pname (names.BUFFER_SIZE ∷ names.BUFFER_USAGE ∷ [])

-- a target or a name that is none; nothing bound
abbrev pub buffer_parameter_refusal : BufferTables → GlEnum → GlEnum → Option GlError
buffer_parameter_refusal t target pname =
    if not (is_buffer_target target && is_buffer_parameter pname) then Some InvalidEnum
    else if is_none (bound t target) then Some InvalidOperation else None

abbrev pub buffer_parameter : Option Buffer → GlEnum → ℕ
buffer_parameter None pname = 0
buffer_parameter (Some b) pname = if pname.0 == names.BUFFER_SIZE.0 then length b.bytes else b.usage.0

-- GetTexParameteriv

abbrev pub is_texture_parameter : GlEnum → Bool
is_texture_parameter pname = is_one_of pname (TEXTURE_MIN_FILTER ∷ TEXTURE_MAG_FILTER ∷ TEXTURE_WRAP_S ∷ TEXTURE_WRAP_T ∷ [])

-- a target or a name that is none
abbrev pub get_tex_parameter_refusal : GlEnum → GlEnum → Option GlError
get_tex_parameter_refusal target pname = if is_texture_target target && is_texture_parameter pname then None else Some InvalidEnum

abbrev pub parameter_of : Texture → GlEnum → GlEnum
parameter_of x pname =
    if pname.0 == TEXTURE_MIN_FILTER.0 then x.min
    else if pname.0 == TEXTURE_MAG_FILTER.0 then x.mag
    else if pname.0 == TEXTURE_WRAP_S.0 then x.wrap_s
    else x.wrap_t

-- of the texture that a unit binds, which is always there
abbrev pub texture_parameter : Option Texture → GlEnum → ℕ
texture_parameter None pname = 0
texture_parameter (Some x) pname = (parameter_of x pname).0

abbrev pub get_tex_parameter : TextureObjects → GlEnum → GlEnum → ℕ
get_tex_parameter t target pname = texture_parameter (bound_texture t (is_cube_target target)) pname

-- GetRenderbufferParameteriv

abbrev pub is_renderbuffer_parameter : GlEnum → Bool
is_renderbuffer_parameter pname =
    is_one_of pname (names.RENDERBUFFER_WIDTH ∷ names.RENDERBUFFER_HEIGHT ∷ names.RENDERBUFFER_INTERNAL_FORMAT ∷ names.RENDERBUFFER_RED_SIZE ∷ names.RENDERBUFFER_GREEN_SIZE ∷ names.RENDERBUFFER_BLUE_SIZE ∷ names.RENDERBUFFER_ALPHA_SIZE ∷ names.RENDERBUFFER_DEPTH_SIZE ∷ names.RENDERBUFFER_STENCIL_SIZE ∷ [])

-- a target or a name that is none; nothing bound
abbrev pub renderbuffer_parameter_refusal : RenderbufferTables → GlEnum → GlEnum → Option GlError
renderbuffer_parameter_refusal t target pname =
    if not ((target.0 == RENDERBUFFER.0) && is_renderbuffer_parameter pname) then Some InvalidEnum
    else if t.bound == 0 then Some InvalidOperation else None

-- the bits of red and of blue, of green, of alpha, of depths and of stencil values, of each format (table 4.5)
abbrev pub red_bits : GlEnum → ℕ
red_bits format = if format.0 == RGBA4.0 then 4 else if (format.0 == RGB5_A1.0) || (format.0 == RGB565.0) then 5 else 0

abbrev pub green_bits : GlEnum → ℕ
green_bits format = if format.0 == RGBA4.0 then 4 else if format.0 == RGB5_A1.0 then 5 else if format.0 == RGB565.0 then 6 else 0

abbrev pub alpha_bits : GlEnum → ℕ
alpha_bits format = if format.0 == RGBA4.0 then 4 else if format.0 == RGB5_A1.0 then 1 else 0

abbrev pub depth_bits : GlEnum → ℕ
depth_bits format = if format.0 == DEPTH_COMPONENT16.0 then 16 else 0

abbrev pub stencil_bits : GlEnum → ℕ
stencil_bits format = if format.0 == STENCIL_INDEX8.0 then 8 else 0

-- of storage
abbrev pub storage_parameter : LevelView → GlEnum → ℕ
storage_parameter v pname =
    if pname.0 == names.RENDERBUFFER_WIDTH.0 then v.width
    else if pname.0 == names.RENDERBUFFER_HEIGHT.0 then v.height
    else if pname.0 == names.RENDERBUFFER_INTERNAL_FORMAT.0 then v.format.0
    else if pname.0 == names.RENDERBUFFER_GREEN_SIZE.0 then green_bits v.format
    else if pname.0 == names.RENDERBUFFER_ALPHA_SIZE.0 then alpha_bits v.format
    else if pname.0 == names.RENDERBUFFER_DEPTH_SIZE.0 then depth_bits v.format
    else if pname.0 == names.RENDERBUFFER_STENCIL_SIZE.0 then stencil_bits v.format
    else red_bits v.format

-- before storage the format is RGBA4, and all else is 0 (table 6.12)
abbrev pub renderbuffer_parameter : Option LevelView → GlEnum → ℕ
renderbuffer_parameter None pname = if pname.0 == names.RENDERBUFFER_INTERNAL_FORMAT.0 then RGBA4.0 else 0
renderbuffer_parameter (Some v) pname = storage_parameter v pname

abbrev pub get_renderbuffer_parameter : RenderbufferTables → GlEnum → ℕ
get_renderbuffer_parameter t pname = renderbuffer_parameter (renderbuffer_at t.objects t.bound) pname

-- GetFramebufferAttachmentParameteriv

-- what is attached at a point
abbrev pub attached_at : Framebuffer → GlEnum → Attached
attached_at f point =
    if point.0 == COLOR_ATTACHMENT0.0 then f.colour
    else if point.0 == DEPTH_ATTACHMENT.0 then f.depth
    else f.stencil

abbrev pub is_dead : AttachView → Bool
is_dead view.Nothing = false
is_dead view.Dead = true
is_dead (view.Texture v) = false
is_dead (view.Renderbuffer format width height) = false

-- an object that was deleted counts as none
abbrev pub living : TextureObjects → Renderbuffers → Attached → Attached
living t r x = if is_dead (attach_view t r (image_attached x)) then attached.Nothing else x

-- by the framebuffer that is bound, if one is
abbrev pub attached_by : Option Framebuffer → GlEnum → Attached
attached_by None point = attached.Nothing
attached_by (Some f) point = attached_at f point

abbrev pub attachment_in : TextureObjects → Renderbuffers → FramebufferTables → GlEnum → Attached
attachment_in t r f point = living t r (attached_by (table.get f.objects f.bound) point)

abbrev pub is_attachment_parameter : GlEnum → Bool
is_attachment_parameter pname =
    is_one_of pname (names.FRAMEBUFFER_ATTACHMENT_OBJECT_TYPE ∷ names.FRAMEBUFFER_ATTACHMENT_OBJECT_NAME ∷ names.FRAMEBUFFER_ATTACHMENT_TEXTURE_LEVEL ∷ names.FRAMEBUFFER_ATTACHMENT_TEXTURE_CUBE_MAP_FACE ∷ [])

-- of nothing only the kind can be asked for, and of a renderbuffer neither level nor face
abbrev pub lacks_parameter : Attached → GlEnum → Bool
lacks_parameter attached.Nothing pname = not (pname.0 == names.FRAMEBUFFER_ATTACHMENT_OBJECT_TYPE.0)
lacks_parameter (attached.Texture object name face) pname = false
lacks_parameter (attached.Renderbuffer object name) pname =
    is_one_of pname (names.FRAMEBUFFER_ATTACHMENT_TEXTURE_LEVEL ∷ names.FRAMEBUFFER_ATTACHMENT_TEXTURE_CUBE_MAP_FACE ∷ [])

-- a target, a point or a name that is none, or that what is attached does not have; the default framebuffer
abbrev pub attachment_parameter_refusal : TextureObjects → Renderbuffers → FramebufferTables → GlEnum → GlEnum → GlEnum → Option GlError
attachment_parameter_refusal t r f target point pname =
    if not ((target.0 == FRAMEBUFFER.0) && is_attachment point && is_attachment_parameter pname) then Some InvalidEnum
    else if f.bound == 0 then Some InvalidOperation
    else if lacks_parameter (attachment_in t r f point) pname then Some InvalidEnum else None

-- the face of a cube map, and 0 of a flat texture
abbrev pub cube_face : GlEnum → ℕ
cube_face face = if is_cube_face face then face.0 else 0

-- of a texture, of which level 0 is what can be attached
abbrev pub attached_texture_parameter : ℕ → GlEnum → GlEnum → ℕ
attached_texture_parameter name face pname =
    if pname.0 == names.FRAMEBUFFER_ATTACHMENT_OBJECT_TYPE.0 then names.TEXTURE.0
    else if pname.0 == names.FRAMEBUFFER_ATTACHMENT_OBJECT_NAME.0 then name
    else if pname.0 == names.FRAMEBUFFER_ATTACHMENT_TEXTURE_LEVEL.0 then 0
    else cube_face face

abbrev pub attachment_parameter : Attached → GlEnum → ℕ
attachment_parameter attached.Nothing pname = NONE.0
attachment_parameter (attached.Texture object name face) pname = attached_texture_parameter name face pname
attachment_parameter (attached.Renderbuffer object name) pname =
    if pname.0 == names.FRAMEBUFFER_ATTACHMENT_OBJECT_TYPE.0 then RENDERBUFFER.0 else name

abbrev pub get_attachment_parameter : TextureObjects → Renderbuffers → FramebufferTables → GlEnum → GlEnum → ℕ
get_attachment_parameter t r f point pname = attachment_parameter (attachment_in t r f point) pname

-- GetVertexAttrib

abbrev pub is_array_parameter : GlEnum → Bool
is_array_parameter pname =
    is_one_of pname (names.VERTEX_ATTRIB_ARRAY_ENABLED ∷ names.VERTEX_ATTRIB_ARRAY_SIZE ∷ names.VERTEX_ATTRIB_ARRAY_STRIDE ∷ names.VERTEX_ATTRIB_ARRAY_TYPE ∷ names.VERTEX_ATTRIB_ARRAY_NORMALIZED ∷ names.VERTEX_ATTRIB_ARRAY_BUFFER_BINDING ∷ [])

abbrev pub is_constant_value : GlEnum → Bool
is_constant_value pname = pname.0 == names.CURRENT_VERTEX_ATTRIB.0

-- a name that is none; the constant value where whole numbers are asked for; an attribute past the last
abbrev pub get_vertex_attrib_refusal : ℕ → GlEnum → (float : Bool) → Option GlError
get_vertex_attrib_refusal index pname float =
    if not (is_array_parameter pname || (float && is_constant_value pname)) then Some InvalidEnum
    else if nat_lt LAST_ATTRIBUTE index then Some InvalidValue else None

-- the name of the buffer with this number, or 0
abbrev pub name_of_object : Names → Option ℕ → ℕ
name_of_object names None = 0
name_of_object names (Some number) = name_of names number

abbrev pub array_parameter : Names → VertexAttribute → GlEnum → ℕ
array_parameter buffers a pname =
    if pname.0 == names.VERTEX_ATTRIB_ARRAY_ENABLED.0 then flag a.enabled
    else if pname.0 == names.VERTEX_ATTRIB_ARRAY_SIZE.0 then a.array.size
    else if pname.0 == names.VERTEX_ATTRIB_ARRAY_STRIDE.0 then a.array.stride
    else if pname.0 == names.VERTEX_ATTRIB_ARRAY_TYPE.0 then a.array.kind.0
    else if pname.0 == names.VERTEX_ATTRIB_ARRAY_NORMALIZED.0 then flag a.array.normalized
    else name_of_object buffers a.array.object

abbrev pub as_asked : (float : Bool) → ℕ → ℕ
as_asked true word = float_of_word word
as_asked false word = word

-- the constant value is floats, and all else whole numbers and booleans
abbrev pub vertex_attrib : Names → VertexAttribute → GlEnum → (float : Bool) → List ℕ
vertex_attrib buffers a pname float = if is_constant_value pname then a.constant else as_asked float (array_parameter buffers a pname) ∷ []

abbrev pub get_vertex_attrib : Names → VertexAttributes → ℕ → GlEnum → (float : Bool) → List ℕ
get_vertex_attrib buffers t index pname float = vertex_attrib buffers (attribute t index) pname float
