-- Renderbuffers and framebuffers (OpenGL ES 2.0.25, section 4.4): their names, what is attached, whether a framebuffer is complete, and the
-- images that are drawn to.
use Rattle.std.specs.Prelude.{◌≡◌, ◌⊎◌, ℕ, ℤ, Bool, true, false, not, ◌==◌, ◌&&◌, ◌||◌, nat_lt, if◌then◌else◌, List, [], ◌∷◌, ◌++◌, Option, None, Some, IsSome}
use Rattle.std.specs.Ordering.{nat_cmp}
use Rattle.std.specs.FinMap as table
use Rattle.std.specs.FinSet as set
use Rattle.gl_base.specs.declared.gl_enum.GlEnum.{GlEnum}
use Rattle.gl_base.specs.declared.enums.TheConstants.{FRAMEBUFFER_COMPLETE, UNSIGNED_BYTE}
use Rattle.gl_base.specs.declared.limits.TheConstants.{SIDE_LIMIT}
use Rattle.gl_base.specs.declared.texture_enums.TheConstants.{ALPHA, RGB, RGBA, LUMINANCE_ALPHA}
use Rattle.gl_base.specs.declared.target_enums.TheConstants.{NONE, FRAMEBUFFER, RENDERBUFFER, COLOR_ATTACHMENT0, DEPTH_ATTACHMENT, STENCIL_ATTACHMENT, RGBA4, RGB5_A1, RGB565, DEPTH_COMPONENT16, STENCIL_INDEX8, FRAMEBUFFER_INCOMPLETE_ATTACHMENT, FRAMEBUFFER_INCOMPLETE_MISSING_ATTACHMENT, FRAMEBUFFER_INCOMPLETE_DIMENSIONS}
use Rattle.gl_plain.specs.declared.objects.Name.{Name}
use Rattle.gl_plain.specs.declared.errors.GlError.{GlError}
use Rattle.gl_plain.specs.declared.errors.GlError.TheVariants.{InvalidEnum, InvalidValue, InvalidOperation, OutOfMemory}
use Rattle.gl_plain.specs.declared.driver_calls.DriverCall.{DriverCall}
use Rattle.gl_plain.specs.declared.textures.ImagePlace.{ImagePlace}
use Rattle.gl_plain.specs.declared.textures.LevelView.{LevelView}
use Rattle.gl_plain.specs.declared.textures.Texture.{Texture}
use Rattle.gl_plain.specs.declared.targets.AnyImage.{AnyImage}
use Rattle.gl_plain.specs.declared.targets.AnyImage.TheVariants as image
use Rattle.gl_plain.specs.declared.targets.AttachView.{AttachView}
use Rattle.gl_plain.specs.declared.targets.AttachView.TheVariants as view
use Rattle.gl_plain.specs.declared.targets.Attached.{Attached}
use Rattle.gl_plain.specs.declared.targets.Attached.TheVariants as attached
use Rattle.gl_plain.specs.declared.targets.Framebuffer.{Framebuffer}
use Rattle.gl_plain.specs.declared.targets.Renderbuffer.{Renderbuffer}
use Rattle.gl_plain.specs.declared.targets.Target.{Target}
use Rattle.gl_plain.specs.declared.targets.Target.TheVariants as target
use Rattle.gl_plain.specs.Words.{is_negative, natural}
use Rattle.gl_plain.specs.subjects.Names.{Names, made_object, unbound, is_bind_over_limit, NamesAgree}
use Rattle.gl_plain.specs.subjects.Levels.{is_image_target, suits, level_of}
use Rattle.gl_plain.specs.subjects.Textures.{TextureObjects, TextureTables, IsOwned, level_at}

-- Objects of one kind

-- the names in use, the objects by number, and the number that is bound, or 0
pub record BoundObjects (X : Type 0) : Type 0 where
  pub names : Names
  pub objects : table.FinMap nat_cmp X
  pub bound : ℕ

-- no name is in use, and nothing is bound
abbrev pub no_objects : {X : Type 0} → BoundObjects X
no_objects = record { names = table.empty; objects = table.empty; bound = 0 }

-- the object of a name is there from its first bind on, and opens as this
abbrev pub with_object : {X : Type 0} → X → BoundObjects X → ℕ → Name → BoundObjects X
with_object new t id x =
    if x.is_object then t else record { names = made_object t.names id x; objects = table.insert t.objects x.number new; bound = t.bound }

-- this number is bound
abbrev pub binding : {X : Type 0} → BoundObjects X → ℕ → BoundObjects X
binding t number = record { names = t.names; objects = t.objects; bound = number }

-- by what the table has of the name, if anything
abbrev pub bind_by : {X : Type 0} → X → BoundObjects X → ℕ → Option Name → BoundObjects X
bind_by new t id None = binding t 0
bind_by new t id (Some x) = binding (with_object new t id x) x.number

-- the object of a name in use is bound, which is made at its first bind; or nothing for 0, which is never in use
abbrev pub bind_effect : {X : Type 0} → X → BoundObjects X → ℕ → BoundObjects X
bind_effect new t id = bind_by new t id (table.get t.names id)

-- the name and its object are there no more, and are not bound
abbrev pub without_object : {X : Type 0} → BoundObjects X → ℕ → ℕ → BoundObjects X
without_object t id number = record { names = table.remove t.names id; objects = table.remove t.objects number; bound = unbound number t.bound }

-- by what the table has of the name, if anything
abbrev pub delete_by : {X : Type 0} → BoundObjects X → ℕ → Option Name → BoundObjects X
delete_by t id None = t
delete_by t id (Some x) = without_object t id x.number

-- a name in use goes with its object; 0 is never in use
abbrev pub delete_effect : {X : Type 0} → BoundObjects X → ℕ → BoundObjects X
delete_effect t id = delete_by t id (table.get t.names id)

-- a delete of 0 or of an unused name makes no driver call
abbrev pub delete_calls : (ℕ → DriverCall) → Option Name → List DriverCall
delete_calls delete None = []
delete_calls delete (Some x) = delete x.number ∷ []

-- a target that is none; too many names
abbrev pub bind_refusal : {X : Type 0} → GlEnum → BoundObjects X → GlEnum → ℕ → Option GlError
bind_refusal right t target id =
    if not (target.0 == right.0) then Some InvalidEnum
    else if is_bind_over_limit t.names id then Some OutOfMemory else None

-- an object has its entry and an entry its object, and what is bound is there
pub record AreObjectsSound {X : Type 0} (t : BoundObjects X) : Type 0 where
  pub made : (id : ℕ) (name : Name) → table.get t.names id ≡ Some name → name.is_object ≡ true → IsSome (table.get t.objects name.number)
  pub owned : (n : ℕ) (x : X) → table.get t.objects n ≡ Some x → IsOwned t.names n
  pub bound : (t.bound ≡ 0) ⊎ IsSome (table.get t.objects t.bound)

-- Renderbuffers

abbrev pub Renderbuffers : Type 0
Renderbuffers = table.FinMap nat_cmp Renderbuffer

abbrev pub RenderbufferTables : Type 0
RenderbufferTables = BoundObjects Renderbuffer

-- a renderbuffer opens without storage
abbrev pub new_renderbuffer : Renderbuffer
new_renderbuffer = record { image = None }

abbrev pub renderbuffer_image : Option Renderbuffer → Option LevelView
renderbuffer_image None = None
renderbuffer_image (Some x) = x.image

-- the image of a renderbuffer, if it is there
abbrev pub renderbuffer_at : Renderbuffers → ℕ → Option LevelView
renderbuffer_at r number = renderbuffer_image (table.get r number)

-- RenderbufferStorage

abbrev pub is_colour_storage : GlEnum → Bool
is_colour_storage format = (format.0 == RGBA4.0) || (format.0 == RGB5_A1.0) || (format.0 == RGB565.0)

abbrev pub is_depth_storage : GlEnum → Bool
is_depth_storage format = format.0 == DEPTH_COMPONENT16.0

abbrev pub is_stencil_storage : GlEnum → Bool
is_stencil_storage format = format.0 == STENCIL_INDEX8.0

abbrev pub is_storage : GlEnum → Bool
is_storage format = is_colour_storage format || is_depth_storage format || is_stencil_storage format

-- a negative side, or one above the greatest
abbrev pub is_bad_side : ℤ → Bool
is_bad_side side = is_negative side || nat_lt SIDE_LIMIT (natural side)

-- a target or a format that is none; a side that is none; nothing bound
abbrev pub renderbuffer_storage_refusal : RenderbufferTables → GlEnum → GlEnum → ℤ → ℤ → Option GlError
renderbuffer_storage_refusal t target format width height =
    if not ((target.0 == RENDERBUFFER.0) && is_storage format) then Some InvalidEnum
    else if is_bad_side width || is_bad_side height then Some InvalidValue
    else if t.bound == 0 then Some InvalidOperation else None

abbrev pub storage_view : GlEnum → ℤ → ℤ → LevelView
storage_view format width height = record { width = natural width; height = natural height; format = format; kind = NONE }

-- the renderbuffer that is bound has this image
abbrev pub renderbuffer_storage_effect : RenderbufferTables → LevelView → RenderbufferTables
renderbuffer_storage_effect t v = record { names = t.names; objects = table.insert t.objects t.bound (record { image = Some v }); bound = t.bound }

-- Framebuffers

abbrev pub FramebufferTables : Type 0
FramebufferTables = BoundObjects Framebuffer

-- nothing is attached to a framebuffer as it opens
abbrev pub new_framebuffer : Framebuffer
new_framebuffer = record { colour = attached.Nothing; depth = attached.Nothing; stencil = attached.Nothing }

-- one of the three points
abbrev pub is_attachment : GlEnum → Bool
is_attachment point = (point.0 == COLOR_ATTACHMENT0.0) || (point.0 == DEPTH_ATTACHMENT.0) || (point.0 == STENCIL_ATTACHMENT.0)

-- this is attached at a point
abbrev pub with_attached : Framebuffer → GlEnum → Attached → Framebuffer
with_attached f point x =
    if point.0 == COLOR_ATTACHMENT0.0 then record f { colour = x }
    else if point.0 == DEPTH_ATTACHMENT.0 then record f { depth = x }
    else record f { stencil = x }

-- by the framebuffer that is bound, if one is
abbrev pub attach_by : FramebufferTables → GlEnum → Attached → Option Framebuffer → FramebufferTables
attach_by t point x None = t
attach_by t point x (Some f) = record { names = t.names; objects = table.insert t.objects t.bound (with_attached f point x); bound = t.bound }

-- this is attached to the framebuffer that is bound
abbrev pub attach_effect : FramebufferTables → GlEnum → Attached → FramebufferTables
attach_effect t point x = attach_by t point x (table.get t.objects t.bound)

-- FramebufferTexture2D

-- a texture that is there has images on this face
abbrev pub has_face : Option Texture → GlEnum → Bool
has_face None face = false
has_face (Some x) face = suits x.cube face

-- a name of a texture that is there and has images on this face
abbrev pub is_attachable : TextureTables → GlEnum → Option Name → Bool
is_attachable t face None = false
is_attachable t face (Some x) = x.is_object && has_face (table.get t.objects.by_number x.number) face

-- a target, a point, or a face that is none; a level other than 0; the default framebuffer, no texture, or a face of the other kind. 0 detaches,
-- whatever the face and the level
abbrev pub framebuffer_texture_refusal : FramebufferTables → TextureTables → GlEnum → GlEnum → GlEnum → ℕ → ℤ → Option GlError
framebuffer_texture_refusal f t target point face id level =
    if not ((target.0 == FRAMEBUFFER.0) && is_attachment point && ((id == 0) || is_image_target face)) then Some InvalidEnum
    else if not ((id == 0) || (not (is_negative level) && (natural level == 0))) then Some InvalidValue
    else if (f.bound == 0) || not ((id == 0) || is_attachable t face (table.get t.names id)) then Some InvalidOperation else None

-- what is attached under this name, by what the table has of the id, if anything
abbrev pub texture_attached : ℕ → GlEnum → Option Name → Attached
texture_attached name face None = attached.Nothing
texture_attached name face (Some x) = attached.Texture x.number name face

abbrev pub framebuffer_texture_effect : FramebufferTables → TextureTables → GlEnum → GlEnum → ℕ → ℕ → FramebufferTables
framebuffer_texture_effect f t point face id name = attach_effect f point (texture_attached name face (table.get t.names id))

-- FramebufferRenderbuffer

-- a name of a renderbuffer that is there
abbrev pub is_made : Option Name → Bool
is_made None = false
is_made (Some x) = x.is_object

-- a target, a point, or a target of renderbuffers that is none; the default framebuffer, or no renderbuffer. 0 detaches
abbrev pub framebuffer_renderbuffer_refusal : FramebufferTables → RenderbufferTables → GlEnum → GlEnum → GlEnum → ℕ → Option GlError
framebuffer_renderbuffer_refusal f r target point kind id =
    if not ((target.0 == FRAMEBUFFER.0) && is_attachment point && (kind.0 == RENDERBUFFER.0)) then Some InvalidEnum
    else if (f.bound == 0) || not ((id == 0) || is_made (table.get r.names id)) then Some InvalidOperation else None

abbrev pub renderbuffer_attached : ℕ → Option Name → Attached
renderbuffer_attached name None = attached.Nothing
renderbuffer_attached name (Some x) = attached.Renderbuffer x.number name

abbrev pub framebuffer_renderbuffer_effect : FramebufferTables → RenderbufferTables → GlEnum → ℕ → ℕ → FramebufferTables
framebuffer_renderbuffer_effect f r point id name = attach_effect f point (renderbuffer_attached name (table.get r.names id))

-- Deletion of what is attached

-- the attachment is to the texture, or else to the renderbuffer, with this number
abbrev pub is_to : (texture : Bool) → ℕ → Attached → Bool
is_to texture number attached.Nothing = false
is_to texture number (attached.Texture object name face) = texture && (object == number)
is_to texture number (attached.Renderbuffer object name) = not texture && (object == number)

abbrev pub detached : (texture : Bool) → ℕ → Attached → Attached
detached texture number x = if is_to texture number x then attached.Nothing else x

abbrev pub without_attached : (texture : Bool) → ℕ → Framebuffer → Framebuffer
without_attached texture number f = record { colour = detached texture number f.colour; depth = detached texture number f.depth; stencil = detached texture number f.stencil }

-- by the framebuffer that is bound, if one is
abbrev pub detach_by : FramebufferTables → (texture : Bool) → ℕ → Option Framebuffer → FramebufferTables
detach_by t texture number None = t
detach_by t texture number (Some f) = record { names = t.names; objects = table.insert t.objects t.bound (without_attached texture number f); bound = t.bound }

-- an object that is deleted is detached from the framebuffer that is bound. To any other one it stays attached, and is dead there
abbrev pub detach : FramebufferTables → (texture : Bool) → ℕ → FramebufferTables
detach t texture number = detach_by t texture number (table.get t.objects t.bound)

-- by what the table has of the name, if anything
abbrev pub detach_deleted : FramebufferTables → (texture : Bool) → Option Name → FramebufferTables
detach_deleted t texture None = t
detach_deleted t texture (Some x) = detach t texture x.number

-- What is drawn to

-- the image that an attachment names, if any
abbrev pub image_attached : Attached → Option AnyImage
image_attached attached.Nothing = None
image_attached (attached.Texture object name face) = Some (image.Level (record { texture = object; face = face; level = 0 }))
image_attached (attached.Renderbuffer object name) = Some (image.Renderbuffer object)

abbrev pub target_by : Option Framebuffer → Target
target_by None = target.Default
target_by (Some f) = target.Bound (image_attached f.colour) (image_attached f.depth) (image_attached f.stencil)

-- the default framebuffer where nothing is bound
abbrev pub target_of : FramebufferTables → Target
target_of t = target_by (table.get t.objects t.bound)

-- an image, if it is there
abbrev pub view_of_image : TextureObjects → Renderbuffers → AnyImage → Option LevelView
view_of_image t r (image.Level place) = level_at t place
view_of_image t r (image.Renderbuffer number) = renderbuffer_at r number

-- the image, if there is one, as a list
abbrev pub image_list : Option AnyImage → List AnyImage
image_list None = []
image_list (Some x) = x ∷ []

-- the images that are attached: colour, depth, stencil
abbrev pub target_images : Target → List AnyImage
target_images target.Default = []
target_images (target.Bound colour depth stencil) = image_list colour ++ image_list depth ++ image_list stencil

-- the image that colours go to
abbrev pub colour_images : Target → List AnyImage
colour_images target.Default = []
colour_images (target.Bound colour depth stencil) = image_list colour

-- the image is of the texture with this number
abbrev pub is_of_texture : ℕ → Option AnyImage → Bool
is_of_texture number None = false
is_of_texture number (Some (image.Level place)) = place.texture == number
is_of_texture number (Some (image.Renderbuffer n)) = false

-- an image of the texture with this number is attached (section 4.4.4)
abbrev pub is_texture_attached : Target → ℕ → Bool
is_texture_attached target.Default number = false
is_texture_attached (target.Bound colour depth stencil) number = is_of_texture number colour || is_of_texture number depth || is_of_texture number stencil

-- Completeness (section 4.4.5)

-- a texture's image as completeness looks at it: the texture may be there no more
abbrev pub texture_view : Option Texture → ImagePlace → AttachView
texture_view None place = view.Dead
texture_view (Some x) place = view.Texture (level_of x place.face place.level)

-- a renderbuffer without storage has the sides 0
abbrev pub storage_viewed : Option LevelView → AttachView
storage_viewed None = view.Renderbuffer RGBA4 0 0
storage_viewed (Some v) = view.Renderbuffer v.format v.width v.height

-- a renderbuffer may be there no more
abbrev pub renderbuffer_view : Option Renderbuffer → AttachView
renderbuffer_view None = view.Dead
renderbuffer_view (Some x) = storage_viewed x.image

abbrev pub attach_view : TextureObjects → Renderbuffers → Option AnyImage → AttachView
attach_view t r None = view.Nothing
attach_view t r (Some (image.Level place)) = texture_view (table.get t.by_number place.texture) place
attach_view t r (Some (image.Renderbuffer number)) = renderbuffer_view (table.get r number)

abbrev pub has_no_pixel : ℕ → ℕ → Bool
has_no_pixel width height = (width == 0) || (height == 0)

-- an image that is dead or not there, has no pixels, or has a format that does not suit its point: of textures, and of renderbuffers
abbrev pub fails_at : (GlEnum → Bool) → (GlEnum → Bool) → AttachView → Bool
fails_at texture renderbuffer view.Nothing = false
fails_at texture renderbuffer view.Dead = true
fails_at texture renderbuffer (view.Texture None) = true
fails_at texture renderbuffer (view.Texture (Some v)) = has_no_pixel v.width v.height || not (texture v.format)
fails_at texture renderbuffer (view.Renderbuffer format width height) = has_no_pixel width height || not (renderbuffer format)

-- textures of these formats take colours, and no texture takes depths or stencil values
abbrev pub is_colour_format : GlEnum → Bool
is_colour_format format = (format.0 == RGB.0) || (format.0 == RGBA.0)

abbrev pub is_no_format : GlEnum → Bool
is_no_format format = false

abbrev pub is_nothing : AttachView → Bool
is_nothing view.Nothing = true
is_nothing view.Dead = false
is_nothing (view.Texture v) = false
is_nothing (view.Renderbuffer format width height) = false

-- the sides of an image, if there are any to compare
abbrev pub sides_of : AttachView → Option (ℕ × ℕ)
sides_of view.Nothing = None
sides_of view.Dead = None
sides_of (view.Texture None) = None
sides_of (view.Texture (Some v)) = Some (v.width, v.height)
sides_of (view.Renderbuffer format width height) = Some (width, height)

-- two images have other sides
abbrev pub differ : Option (ℕ × ℕ) → Option (ℕ × ℕ) → Bool
differ None b = false
differ (Some a) None = false
differ (Some a) (Some b) = not ((a.0 == b.0) && (a.1 == b.1))

-- an attachment that fails; nothing attached; sides that differ
abbrev pub status_of : AttachView → AttachView → AttachView → ℕ
status_of colour depth stencil =
    if fails_at is_colour_format is_colour_storage colour || fails_at is_no_format is_depth_storage depth || fails_at is_no_format is_stencil_storage stencil then FRAMEBUFFER_INCOMPLETE_ATTACHMENT
    else if is_nothing colour && is_nothing depth && is_nothing stencil then FRAMEBUFFER_INCOMPLETE_MISSING_ATTACHMENT
    else if differ (sides_of colour) (sides_of depth) || differ (sides_of colour) (sides_of stencil) || differ (sides_of depth) (sides_of stencil) then FRAMEBUFFER_INCOMPLETE_DIMENSIONS
    else FRAMEBUFFER_COMPLETE

-- the default framebuffer is complete
abbrev pub target_status : TextureObjects → Renderbuffers → Target → ℕ
target_status t r target.Default = FRAMEBUFFER_COMPLETE
target_status t r (target.Bound colour depth stencil) = status_of (attach_view t r colour) (attach_view t r depth) (attach_view t r stencil)

-- What is drawn to and read from

-- the sides of the default framebuffer, the images, and the framebuffer that is bound
pub record Drawable : Type 0 where
  pub surface : ℕ × ℕ
  pub textures : TextureObjects
  pub renderbuffers : Renderbuffers
  pub target : Target

abbrev pub status_in : Drawable → ℕ
status_in b = target_status b.textures b.renderbuffers b.target

-- it can't be drawn to, nor read from
abbrev pub is_incomplete : Drawable → Bool
is_incomplete b = not (status_in b == FRAMEBUFFER_COMPLETE)

abbrev pub view_in : Drawable → Option AnyImage → Option LevelView
view_in b None = None
view_in b (Some x) = view_of_image b.textures b.renderbuffers x

-- the colours of the default framebuffer have 8 bits of each kind
abbrev pub surface_view : ℕ × ℕ → LevelView
surface_view surface = record { width = surface.0; height = surface.1; format = RGBA; kind = UNSIGNED_BYTE }

abbrev pub colour_view_by : Drawable → Target → Option LevelView
colour_view_by b target.Default = Some (surface_view b.surface)
colour_view_by b (target.Bound colour depth stencil) = view_in b colour

-- the image that colours go to, if it is there
abbrev pub colour_view : Drawable → Option LevelView
colour_view b = colour_view_by b b.target

-- pixels of the format have an alpha
abbrev pub has_alpha : GlEnum → Bool
has_alpha format = (format.0 == ALPHA.0) || (format.0 == LUMINANCE_ALPHA.0) || (format.0 == RGBA.0) || (format.0 == RGBA4.0) || (format.0 == RGB5_A1.0)

-- no colours are there, or they have no alpha and the format has one (table 3.9)
abbrev pub lacks_parts : Option LevelView → GlEnum → Bool
lacks_parts None format = true
lacks_parts (Some v) format = has_alpha format && not (has_alpha v.format)

-- colours go to an image of the texture with this number (section 4.4.4)
abbrev pub is_colour_of : Target → ℕ → Bool
is_colour_of target.Default number = false
is_colour_of (target.Bound colour depth stencil) number = is_of_texture number colour

-- What is always so, of the service and of a driver

-- an attachment as a driver keeps it, which has no names of clients
abbrev pub unnamed : Attached → Attached
unnamed attached.Nothing = attached.Nothing
unnamed (attached.Texture object name face) = attached.Texture object 0 face
unnamed (attached.Renderbuffer object name) = attached.Renderbuffer object 0

abbrev pub unnamed_framebuffer : Framebuffer → Framebuffer
unnamed_framebuffer f = record { colour = unnamed f.colour; depth = unnamed f.depth; stencil = unnamed f.stencil }

abbrev pub unnamed_at : Option Framebuffer → Option Framebuffer
unnamed_at None = None
unnamed_at (Some f) = Some (unnamed_framebuffer f)

-- names agree, and objects and what is bound are the same
pub record RenderbuffersAgree (w d : RenderbufferTables) (given : set.FinSet nat_cmp) : Type 0 where
  pub names : NamesAgree w.names d.names given
  pub objects : w.objects ≡ d.objects
  pub bound : w.bound ≡ d.bound
  pub sound : AreObjectsSound w

-- names agree, what is attached is the same but for the names that it was attached by, and what is bound is the same
pub record FramebuffersAgree (w d : FramebufferTables) (given : set.FinSet nat_cmp) : Type 0 where
  pub names : NamesAgree w.names d.names given
  pub attached : (n : ℕ) → unnamed_at (table.get w.objects n) ≡ table.get d.objects n
  pub bound : w.bound ≡ d.bound
  pub sound : AreObjectsSound w
