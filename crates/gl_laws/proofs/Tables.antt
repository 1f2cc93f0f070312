-- The tables of a service and of its driver still agree where a part of both is another.
use Rattle.std.proofs.Common.{◌≡◌, ℕ}
use Rattle.std.specs.FinSet as set
use Rattle.gl_plain.specs.declared.attributes.VertexAttributes.{VertexAttributes}
use Rattle.gl_plain.specs.declared.errors.Errors.{Errors}
use Rattle.gl_plain.specs.subjects.Buffers.{BufferTables, BuffersAgree}
use Rattle.gl_plain.specs.subjects.Programs.{ProgramTables, ProgramsAgree}
use Rattle.gl_plain.specs.subjects.Textures.{TextureTables, TexturesAgree}
use Rattle.gl_plain.specs.subjects.Targets.{RenderbufferTables, RenderbuffersAgree, FramebufferTables, FramebuffersAgree}
use Rattle.gl_plain.specs.State.{EsState, DriverTables}
use Rattle.gl_plain.specs.Agreement.{TablesAgree}

module _ (s : EsState) (t : DriverTables) where
  pub with_buffers : (x y : BufferTables) → TablesAgree s t → BuffersAgree x y t.given.buffers → TablesAgree (record s { buffers = x }) (record t { buffers = y })
  with_buffers x y a agree = record { surface = a.surface; buffers = agree; textures = a.textures; renderbuffers = a.renderbuffers; framebuffers = a.framebuffers; attribs = a.attribs; programs = a.programs; raster = a.raster }

  pub with_textures : (x y : TextureTables) → TablesAgree s t → TexturesAgree x y t.given.textures → TablesAgree (record s { textures = x }) (record t { textures = y })
  with_textures x y a agree = record { surface = a.surface; buffers = a.buffers; textures = agree; renderbuffers = a.renderbuffers; framebuffers = a.framebuffers; attribs = a.attribs; programs = a.programs; raster = a.raster }

  pub with_renderbuffers : (x y : RenderbufferTables) → TablesAgree s t → RenderbuffersAgree x y t.given.renderbuffers → TablesAgree (record s { renderbuffers = x }) (record t { renderbuffers = y })
  with_renderbuffers x y a agree = record { surface = a.surface; buffers = a.buffers; textures = a.textures; renderbuffers = agree; framebuffers = a.framebuffers; attribs = a.attribs; programs = a.programs; raster = a.raster }

  pub with_framebuffers : (x y : FramebufferTables) → TablesAgree s t → FramebuffersAgree x y t.given.framebuffers → TablesAgree (record s { framebuffers = x }) (record t { framebuffers = y })
  with_framebuffers x y a agree = record { surface = a.surface; buffers = a.buffers; textures = a.textures; renderbuffers = a.renderbuffers; framebuffers = agree; attribs = a.attribs; programs = a.programs; raster = a.raster }

  pub with_attributes : (x y : VertexAttributes) → TablesAgree s t → x ≡ y → TablesAgree (record s { attribs = x }) (record t { attribs = y })
  with_attributes x y a same = record { surface = a.surface; buffers = a.buffers; textures = a.textures; renderbuffers = a.renderbuffers; framebuffers = a.framebuffers; attribs = same; programs = a.programs; raster = a.raster }

  pub with_programs : (x y : ProgramTables) → TablesAgree s t → ProgramsAgree x y t.given.programs → TablesAgree (record s { programs = x }) (record t { programs = y })
  with_programs x y a agree = record { surface = a.surface; buffers = a.buffers; textures = a.textures; renderbuffers = a.renderbuffers; framebuffers = a.framebuffers; attribs = a.attribs; programs = agree; raster = a.raster }

  -- the driver gave another name, and never gives it again

  pub with_new_buffer : (x y : BufferTables) (n : ℕ) → TablesAgree s t → BuffersAgree x y (set.insert t.given.buffers n)
      → TablesAgree (record s { buffers = x }) (record t { buffers = y; given = record t.given { buffers = set.insert t.given.buffers n } })
  with_new_buffer x y n a agree = record { surface = a.surface; buffers = agree; textures = a.textures; renderbuffers = a.renderbuffers; framebuffers = a.framebuffers; attribs = a.attribs; programs = a.programs; raster = a.raster }

  pub with_new_texture : (x y : TextureTables) (n : ℕ) → TablesAgree s t → TexturesAgree x y (set.insert t.given.textures n)
      → TablesAgree (record s { textures = x }) (record t { textures = y; given = record t.given { textures = set.insert t.given.textures n } })
  with_new_texture x y n a agree = record { surface = a.surface; buffers = a.buffers; textures = agree; renderbuffers = a.renderbuffers; framebuffers = a.framebuffers; attribs = a.attribs; programs = a.programs; raster = a.raster }

  pub with_new_renderbuffer : (x y : RenderbufferTables) (n : ℕ) → TablesAgree s t → RenderbuffersAgree x y (set.insert t.given.renderbuffers n)
      → TablesAgree (record s { renderbuffers = x }) (record t { renderbuffers = y; given = record t.given { renderbuffers = set.insert t.given.renderbuffers n } })
  with_new_renderbuffer x y n a agree = record { surface = a.surface; buffers = a.buffers; textures = a.textures; renderbuffers = agree; framebuffers = a.framebuffers; attribs = a.attribs; programs = a.programs; raster = a.raster }

  pub with_new_framebuffer : (x y : FramebufferTables) (n : ℕ) → TablesAgree s t → FramebuffersAgree x y (set.insert t.given.framebuffers n)
      → TablesAgree (record s { framebuffers = x }) (record t { framebuffers = y; given = record t.given { framebuffers = set.insert t.given.framebuffers n } })
  with_new_framebuffer x y n a agree = record { surface = a.surface; buffers = a.buffers; textures = a.textures; renderbuffers = a.renderbuffers; framebuffers = agree; attribs = a.attribs; programs = a.programs; raster = a.raster }

  pub with_new_program : (x y : ProgramTables) (n : ℕ) → TablesAgree s t → ProgramsAgree x y (set.insert t.given.programs n)
      → TablesAgree (record s { programs = x }) (record t { programs = y; given = record t.given { programs = set.insert t.given.programs n } })
  with_new_program x y n a agree = record { surface = a.surface; buffers = a.buffers; textures = a.textures; renderbuffers = a.renderbuffers; framebuffers = a.framebuffers; attribs = a.attribs; programs = agree; raster = a.raster }

  -- a driver keeps no errors
  pub with_errors : (errors : Errors) → TablesAgree s t → TablesAgree (record s { errors = errors }) t
  with_errors errors a = record { surface = a.surface; buffers = a.buffers; textures = a.textures; renderbuffers = a.renderbuffers; framebuffers = a.framebuffers; attribs = a.attribs; programs = a.programs; raster = a.raster }
