-- The service's tables beside a driver's state.
use Rattle.std.specs.Prelude.{◌≡◌, ℕ}
use Rattle.gl_plain.specs.subjects.Buffers.{BuffersAgree}
use Rattle.gl_plain.specs.subjects.Programs.{ProgramsAgree}
use Rattle.gl_plain.specs.declared.textures.ImagePlace.{ImagePlace}
use Rattle.gl_plain.specs.subjects.Textures.{TextureObjects, TexturesAgree, level_at}
use Rattle.gl_plain.specs.subjects.Raster.{IsAligned}
use Rattle.gl_plain.specs.subjects.Targets.{Renderbuffers, RenderbuffersAgree, FramebuffersAgree, renderbuffer_at}
use Rattle.gl_plain.specs.subjects.Images.{Covers, Marks, Contents, IsCovered, IsMarked, IsScreenWritten}
use Rattle.gl_plain.specs.State.{EsState, WireState, DriverTables, DriverState}

-- the tables are the same up to names, part by part
pub record TablesAgree (s : EsState) (t : DriverTables) : Type 0 where
  pub surface : s.surface ≡ t.surface
  pub buffers : BuffersAgree s.buffers t.buffers t.given.buffers
  pub textures : TexturesAgree s.textures t.textures t.given.textures
  pub renderbuffers : RenderbuffersAgree s.renderbuffers t.renderbuffers t.given.renderbuffers
  pub framebuffers : FramebuffersAgree s.framebuffers t.framebuffers t.given.framebuffers
  pub attribs : s.attribs ≡ t.attribs
  pub programs : ProgramsAgree s.programs t.programs t.given.programs
  pub raster : s.raster ≡ t.raster

-- each written rectangle is that of the driver's image, each mark that of the driver's renderbuffer, and the default framebuffer is written
pub record ImagesAgree (t : TextureObjects) (r : Renderbuffers) (f : Covers) (m : Marks) (k : Contents) : Type 0 where
  pub covers : (place : ImagePlace) → IsCovered (level_at t place) (f place) (k.images place)
  pub marks : (n : ℕ) → IsMarked (renderbuffer_at r n) (m n) (k.renderbuffers n)
  pub screen : IsScreenWritten k.screen

-- the state of the service and that of the driver agree, and rows in client memory are aligned
pub record Agrees (w : WireState) (d : DriverState) : Type 0 where
  pub tables : TablesAgree w.es d.tables
  pub images : ImagesAgree w.es.textures.objects w.es.renderbuffers.objects w.covers w.marks d.contents
  pub aligned : IsAligned w.es.alignments

-- they agree for these parts of the service's state, whatever stands in the others
pub record AgreesIn (before : WireState → WireState) (d : DriverState) : Type 0 where
  pub others : WireState
  pub agrees : Agrees (before others) d
