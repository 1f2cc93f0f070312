-- The parts of the state tables that renderbuffers and framebuffers are, and which renderbuffers were written.
use Rattle.gl_plain.specs.subjects.Targets.{RenderbufferTables, FramebufferTables}
use Rattle.gl_plain.specs.subjects.Images.{Marks}
use Rattle.target_mgr.specs.declared.framebuffers.Framebuffers.{Framebuffers}
use Rattle.target_mgr.specs.declared.renderbuffers.Renderbuffers.{Renderbuffers}
use Rattle.target_mgr.specs.declared.targets.Targets.{Targets}
use Rattle.target_mgr.specs.Objects.{table_of}
use Rattle.target_mgr.specs.Marked.{unmarked, marks_of}

-- the renderbuffers in the state tables
abbrev pub renderbuffer_tables : Renderbuffers → RenderbufferTables
renderbuffer_tables r = unmarked (table_of r.objects)

-- which of them were written
abbrev pub renderbuffer_marks : Renderbuffers → Marks
renderbuffer_marks r = marks_of r.objects.objects

-- the framebuffers in the state tables
abbrev pub framebuffer_tables : Framebuffers → FramebufferTables
framebuffer_tables f = table_of f.objects

-- the same of all that is kept
abbrev pub renderbuffers : Targets → RenderbufferTables
renderbuffers t = renderbuffer_tables t.renderbuffers

abbrev pub framebuffers : Targets → FramebufferTables
framebuffers t = framebuffer_tables t.framebuffers

abbrev pub marks : Targets → Marks
marks t = renderbuffer_marks t.renderbuffers
