-- Objects by the client's names, and changes of framebuffers by their numbers.
use Rattle.std.specs.Prelude.{ℕ, Bool, ◌==◌, if◌then◌else◌, List, [], ◌∷◌, slice_index_or, Option, None, Some}
use Rattle.std.specs.FinMap as map
use Rattle.gl_base.specs.declared.enums.TheConstants.{FRAMEBUFFER_COMPLETE}
use Rattle.gl_base.specs.declared.gl_enum.GlEnum.{GlEnum}
use Rattle.gl_plain.specs.declared.objects.Name.{Name}
use Rattle.gl_plain.specs.declared.targets.Attached.{Attached}
use Rattle.gl_plain.specs.declared.targets.Attached.TheVariants.{Nothing}
use Rattle.gl_plain.specs.declared.targets.AttachView.{AttachView}
use Rattle.gl_plain.specs.declared.targets.AttachView.TheVariants as view
use Rattle.gl_plain.specs.declared.targets.Framebuffer.{Framebuffer}
use Rattle.gl_plain.specs.subjects.Targets.{BoundObjects, FramebufferTables, with_attached, without_attached, status_of}

-- by what the table has of the name, if anything: the object is there from its first bind on
abbrev pub object_by : {X : Type 0} → BoundObjects X → Option Name → Option X
object_by t None = None
object_by t (Some x) = if x.is_object then map.get t.objects x.number else None

-- the object of a client's name, if it is there
abbrev pub object_named : {X : Type 0} → BoundObjects X → ℕ → Option X
object_named t id = object_by t (map.get t.names id)

-- the number of the object of a name, or 0
abbrev pub object_number : Option Name → ℕ
object_number None = 0
object_number (Some x) = if x.is_object then x.number else 0

-- the object of this number, which is there, is another
abbrev pub with_entry : {X : Type 0} → BoundObjects X → ℕ → X → BoundObjects X
with_entry t number x = record { names = t.names; objects = map.insert t.objects number x; bound = t.bound }

-- by the object of this number, if it is there
abbrev pub changed_by : {X : Type 0} → BoundObjects X → (X → X) → ℕ → Option X → BoundObjects X
changed_by t change number None = t
changed_by t change number (Some x) = with_entry t number (change x)

-- the object of this number is changed, if it is there
abbrev pub changed_at : {X : Type 0} → BoundObjects X → (X → X) → ℕ → BoundObjects X
changed_at t change number = changed_by t change number (map.get t.objects number)

-- so is that of a client's name
abbrev pub changed_named : {X : Type 0} → BoundObjects X → (X → X) → ℕ → BoundObjects X
changed_named t change id = changed_by t change (object_number (map.get t.names id)) (object_named t id)

-- this is attached to the framebuffer of a client's name, if it is there
abbrev pub attach_named : FramebufferTables → ℕ → GlEnum → Attached → FramebufferTables
attach_named t id point x = changed_named t (λ f. with_attached f point x) id

-- the texture, or else the renderbuffer, with this number is detached from the framebuffer of a client's name. 0 is the default framebuffer, to
-- which nothing is attached
abbrev pub detach_named : FramebufferTables → ℕ → Bool → ℕ → FramebufferTables
detach_named t id texture number = if id == 0 then t else changed_named t (without_attached texture number) id

-- what is attached to a framebuffer: colour, depth, stencil
abbrev pub attachments : Option Framebuffer → List Attached
attachments None = Nothing ∷ Nothing ∷ Nothing ∷ []
attachments (Some f) = f.colour ∷ f.depth ∷ f.stencil ∷ []

-- the status by the views of colour, depth and stencil. The default framebuffer is complete
abbrev pub status_by : ℕ → List AttachView → ℕ
status_by id views =
    if id == 0 then FRAMEBUFFER_COMPLETE
    else status_of (slice_index_or views 0 view.Nothing) (slice_index_or views 1 view.Nothing) (slice_index_or views 2 view.Nothing)
