-- What a call on images leaves of the tables, where it is not refused. What it leaves of the contents of images stands beside it.
use Rattle.std.specs.Prelude.{ℕ, List}
use Rattle.gl_plain.specs.declared.calls.ImageCall.{ImageCall}
use Rattle.gl_plain.specs.declared.calls.ImageCall.TheVariants as calls
use Rattle.gl_plain.specs.declared.errors.GlError.TheVariants.{OutOfMemory}
use Rattle.gl_plain.specs.declared.driver_calls.Stored.{Stored}
use Rattle.gl_plain.specs.declared.driver_calls.Stored.TheVariants as room
use Rattle.gl_plain.specs.declared.commands.ImageCommand.{ImageCommand}
use Rattle.gl_plain.specs.Words.{natural}
use Rattle.gl_plain.specs.subjects.Textures.{TextureObjects, tex_parameter_effect}
use Rattle.gl_plain.specs.subjects.Images.{view_of, tex_image_effect}
use Rattle.gl_plain.specs.subjects.Targets.{RenderbufferTables, storage_view, renderbuffer_storage_effect}
use Rattle.gl_plain.specs.subjects.Mipmaps.{generate_mipmap_effect}
use Rattle.gl_plain.specs.subjects.Copies.{copy_image}
use Rattle.gl_plain.specs.Oracle.{Oracle, first, behind}
use Rattle.gl_plain.specs.State.{EsState}
use Rattle.gl_plain.specs.Outcome.{Outcome, leaves, with_error}
use Rattle.gl_plain.specs.image.Commands.{image_call}

-- the state with other textures of the same names
abbrev pub with_objects : EsState → TextureObjects → EsState
with_objects s t = record s { textures = record s.textures { objects = t } }

-- where there is no room, OUT_OF_MEMORY is recorded and nothing is stored (section 2.5)
abbrev pub image_stored : EsState → TextureObjects → Oracle → Stored → Outcome EsState
image_stored s t o room.Done = leaves (with_objects s t) (record o { stored = behind o.stored })
image_stored s t o room.Oom = leaves (with_error s OutOfMemory) (record o { stored = behind o.stored })

-- the same of a renderbuffer
abbrev pub storage_stored : EsState → RenderbufferTables → Oracle → Stored → Outcome EsState
storage_stored s r o room.Done = leaves (record s { renderbuffers = r }) (record o { stored = behind o.stored })
storage_stored s r o room.Oom = leaves (with_error s OutOfMemory) (record o { stored = behind o.stored })

-- a call on images that is not refused; TexSubImage2D and CopyTexSubImage2D change pixels alone
abbrev pub image_outcome : EsState → ImageCall → Oracle → Outcome EsState
image_outcome s (calls.TexImage2D image «data») o = image_stored s (tex_image_effect s.textures.objects image.target (natural image.level) (view_of image)) o (first o.stored)
image_outcome s (calls.TexSubImage2D part «data») o = leaves s o
image_outcome s (calls.TexParameteri target pname value) o = leaves (with_objects s (tex_parameter_effect s.textures.objects target pname value)) o
image_outcome s (calls.CopyTexImage2D copy) o = image_stored s (tex_image_effect s.textures.objects copy.target (natural copy.level) (view_of (copy_image copy))) o (first o.stored)
image_outcome s (calls.CopyTexSubImage2D copy) o = leaves s o
image_outcome s (calls.GenerateMipmap target) o = leaves (with_objects s (generate_mipmap_effect s.textures.objects target)) o
image_outcome s (calls.RenderbufferStorage target format width height) o = storage_stored s (renderbuffer_storage_effect s.renderbuffers (storage_view format width height)) o (first o.stored)

-- a command on images that is not refused does what its call does
abbrev pub image_step : EsState → ImageCommand → List ℕ → Oracle → Outcome EsState
image_step s c payload o = image_outcome s (image_call c payload) o
