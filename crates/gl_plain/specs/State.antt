-- The state tables of OpenGL ES (chapter 6), part by part, of the service, and of a driver.
use Rattle.std.specs.Prelude.{ℕ}
use Rattle.std.specs.Ordering.{nat_cmp}
use Rattle.std.specs.FinSet as set
use Rattle.gl_plain.specs.declared.attributes.VertexAttributes.{VertexAttributes}
use Rattle.gl_plain.specs.declared.errors.Errors.{Errors}
use Rattle.gl_plain.specs.Errors.{no_errors}
use Rattle.gl_plain.specs.subjects.Buffers.{BufferTables, no_buffers}
use Rattle.gl_plain.specs.subjects.Attributes.{no_arrays}
use Rattle.gl_plain.specs.subjects.Programs.{ProgramTables, no_programs}
use Rattle.gl_plain.specs.subjects.Textures.{TextureTables, no_textures}
use Rattle.gl_plain.specs.subjects.Buckets.{Buckets, empty_buckets}
use Rattle.gl_plain.specs.declared.raster.RasterWords.{RasterWords}
use Rattle.gl_plain.specs.declared.raster.Alignments.{Alignments}
use Rattle.gl_plain.specs.subjects.Targets.{RenderbufferTables, FramebufferTables, no_objects, Drawable, target_of}
use Rattle.gl_plain.specs.subjects.Images.{Contents, Covers, no_covers, Marks, no_marks, opening_contents}
use Rattle.gl_plain.specs.subjects.Raster.{opening_raster, opening_alignments}
use Rattle.gl_plain.specs.subjects.Draws.{Sources}

-- the width and the height of the default framebuffer
abbrev pub Surface : Type 0
Surface = ℕ × ℕ

-- the state of OpenGL ES, without pixels
pub record EsState : Type 0 where
  pub surface : Surface
  pub buffers : BufferTables
  pub textures : TextureTables
  pub renderbuffers : RenderbufferTables
  pub framebuffers : FramebufferTables
  pub attribs : VertexAttributes
  pub programs : ProgramTables
  pub raster : RasterWords
  pub alignments : Alignments
  pub errors : Errors

-- the state of the service: that of OpenGL ES, what was written of textures and of renderbuffers, the buckets, and the last token
pub record WireState : Type 0 where
  pub es : EsState
  pub covers : Covers
  pub marks : Marks
  pub buckets : Buckets
  pub token : ℕ

-- the names that a driver ever gave, in each name space
pub record NamesGiven : Type 0 where
  pub buffers : set.FinSet nat_cmp
  pub textures : set.FinSet nat_cmp
  pub renderbuffers : set.FinSet nat_cmp
  pub framebuffers : set.FinSet nat_cmp
  pub programs : set.FinSet nat_cmp

-- the tables of a driver, which keeps no errors and no alignments
pub record DriverTables : Type 0 where
  pub surface : Surface
  pub buffers : BufferTables
  pub textures : TextureTables
  pub renderbuffers : RenderbufferTables
  pub framebuffers : FramebufferTables
  pub attribs : VertexAttributes
  pub programs : ProgramTables
  pub raster : RasterWords
  pub given : NamesGiven

-- the state of a driver: its tables, and the contents of all images
pub record DriverState : Type 0 where
  pub tables : DriverTables
  pub contents : Contents

-- the opening state, for a default framebuffer of these sides (tables 6.2 to 6.19)
abbrev pub opening : Surface → EsState
opening surface = record {
  surface = surface;
  buffers = no_buffers;
  textures = no_textures;
  renderbuffers = no_objects;
  framebuffers = no_objects;
  attribs = no_arrays;
  programs = no_programs;
  raster = opening_raster surface.0 surface.1;
  alignments = opening_alignments;
  errors = no_errors;
}

-- the opening state of the service
abbrev pub opening_wire : Surface → WireState
opening_wire surface = record { es = opening surface; covers = no_covers; marks = no_marks; buckets = empty_buckets; token = 0 }

-- the opening tables of a driver
abbrev pub opening_tables : Surface → DriverTables
opening_tables surface = record {
  surface = surface;
  buffers = no_buffers;
  textures = no_textures;
  renderbuffers = no_objects;
  framebuffers = no_objects;
  attribs = no_arrays;
  programs = no_programs;
  raster = opening_raster surface.0 surface.1;
  given = record { buffers = set.empty; textures = set.empty; renderbuffers = set.empty; framebuffers = set.empty; programs = set.empty };
}

-- the opening state of a driver
abbrev pub opening_driver : Surface → DriverState
opening_driver surface = record { tables = opening_tables surface; contents = opening_contents }

-- what is drawn to and read from, of the state of OpenGL ES
abbrev pub drawable_of : EsState → Drawable
drawable_of s = record { surface = s.surface; textures = s.textures.objects; renderbuffers = s.renderbuffers.objects; target = target_of s.framebuffers }

-- and of a driver's tables
abbrev pub drawable_in : DriverTables → Drawable
drawable_in t = record { surface = t.surface; textures = t.textures.objects; renderbuffers = t.renderbuffers.objects; target = target_of t.framebuffers }

-- what a draw reads of the state of OpenGL ES
abbrev pub sources_of : EsState → Sources
sources_of s = record { buffers = s.buffers.objects; element = s.buffers.element; attribs = s.attribs; executable = s.programs.installed; drawable = drawable_of s }

-- what a draw reads of a driver's tables
abbrev pub sources_in : DriverTables → Sources
sources_in t = record { buffers = t.buffers.objects; element = t.buffers.element; attribs = t.attribs; executable = t.programs.installed; drawable = drawable_in t }
