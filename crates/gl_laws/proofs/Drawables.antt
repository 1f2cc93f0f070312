-- A service and its driver that agree draw to the same images, and a draw reads the same of both.
use Rattle.std.proofs.Common.{◌≡◌, ℕ, Option, None, Some, refl, sym, ap, ◌∙◌}
use Rattle.std.specs.FinMap as table
use Rattle.std.specs.FinSet as set
use Rattle.std.specs.Ordering.{nat_cmp}
use Rattle.gl_plain.specs.declared.targets.AnyImage.{AnyImage}
use Rattle.gl_plain.specs.declared.targets.Attached.{Attached}
use Rattle.gl_plain.specs.declared.targets.Attached.TheVariants as attached
use Rattle.gl_plain.specs.declared.targets.Framebuffer.{Framebuffer}
use Rattle.gl_plain.specs.declared.targets.Target.{Target}
use Rattle.gl_plain.specs.declared.targets.Target.TheVariants as target
use Rattle.gl_plain.specs.subjects.Targets.{FramebufferTables, FramebuffersAgree, Drawable, image_attached, target_by, target_of, unnamed, unnamed_at, unnamed_framebuffer}
use Rattle.gl_plain.specs.subjects.Draws.{Sources}
use Rattle.gl_plain.specs.State.{EsState, DriverTables, drawable_of, drawable_in, sources_of, sources_in}
use Rattle.gl_plain.specs.Agreement.{TablesAgree}

-- the name that something was attached by has no part in what is drawn to
unnamed_image : (x : Attached) → image_attached (unnamed x) ≡ image_attached x
unnamed_image attached.Nothing = refl
unnamed_image (attached.Texture object name face) = refl
unnamed_image (attached.Renderbuffer object name) = refl

unnamed_target : (f : Option Framebuffer) → target_by (unnamed_at f) ≡ target_by f
unnamed_target None = refl
unnamed_target (Some f) = λ i. target.Bound (unnamed_image f.colour i) (unnamed_image f.depth i) (unnamed_image f.stencil i)

pub same_target : (w d : FramebufferTables) (given : set.FinSet nat_cmp) → FramebuffersAgree w d given → target_of w ≡ target_of d
same_target w d given a =
    sym (unnamed_target (table.get w.objects w.bound))
    ∙ ap target_by (a.attached w.bound)
    ∙ ap (λ (n : ℕ). target_by (table.get d.objects n)) a.bound

module _ (s : EsState) (t : DriverTables) (a : TablesAgree s t) where
  pub same_drawable : drawable_of s ≡ drawable_in t
  same_drawable = λ i. record {
    surface = a.surface i;
    textures = a.textures.objects i;
    renderbuffers = a.renderbuffers.objects i;
    target = same_target s.framebuffers t.framebuffers t.given.framebuffers a.framebuffers i;
  }

  pub same_sources : sources_of s ≡ sources_in t
  same_sources = λ i. record {
    buffers = a.buffers.objects i;
    element = a.buffers.element i;
    attribs = a.attribs i;
    executable = a.programs.installed i;
    drawable = same_drawable i;
  }
