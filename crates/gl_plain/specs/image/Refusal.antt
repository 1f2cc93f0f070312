-- The code that a call on images is refused with: the first whose condition holds, in the order INVALID_ENUM, INVALID_VALUE, OUT_OF_MEMORY by a
-- limit, INVALID_FRAMEBUFFER_OPERATION, INVALID_OPERATION.
use Rattle.std.specs.Prelude.{Option}
use Rattle.gl_plain.specs.declared.errors.GlError.{GlError}
use Rattle.gl_plain.specs.declared.calls.ImageCall.{ImageCall}
use Rattle.gl_plain.specs.declared.calls.ImageCall.TheVariants as calls
use Rattle.gl_plain.specs.declared.commands.ImageCommand.{ImageCommand}
use Rattle.gl_plain.specs.declared.commands.ImageCommand.TheVariants.{TexImage2D, TexSubImage2D, CopyTexImage2D, CopyTexSubImage2D, TexParameteri, GenerateMipmap, RenderbufferStorage}
use Rattle.gl_plain.specs.subjects.Textures.{tex_parameter_refusal}
use Rattle.gl_plain.specs.subjects.Targets.{renderbuffer_storage_refusal}
use Rattle.gl_plain.specs.subjects.Mipmaps.{generate_mipmap_refusal}
use Rattle.gl_plain.specs.subjects.Copies.{copy_tex_image_refusal, copy_tex_sub_image_refusal}
use Rattle.gl_plain.specs.State.{EsState, drawable_of}
use Rattle.gl_plain.specs.subjects.Images.{tex_image_refusal, tex_sub_image_refusal}

abbrev pub image_refusal : EsState → ImageCall → Option GlError
image_refusal s (calls.TexImage2D image «data») = tex_image_refusal image
image_refusal s (calls.TexSubImage2D part «data») = tex_sub_image_refusal s.textures.objects part
image_refusal s (calls.CopyTexImage2D copy) = copy_tex_image_refusal (drawable_of s) copy
image_refusal s (calls.CopyTexSubImage2D copy) = copy_tex_sub_image_refusal (drawable_of s) copy
image_refusal s (calls.TexParameteri target pname value) = tex_parameter_refusal target pname value
image_refusal s (calls.GenerateMipmap target) = generate_mipmap_refusal s.textures.objects target
image_refusal s (calls.RenderbufferStorage target format width height) = renderbuffer_storage_refusal s.renderbuffers target format width height

-- the refusal of a command is that of its call
abbrev pub image_command_refusal : EsState → ImageCommand → Option GlError
image_command_refusal s (TexImage2D image words) = tex_image_refusal image
image_command_refusal s (TexSubImage2D part words) = tex_sub_image_refusal s.textures.objects part
image_command_refusal s (CopyTexImage2D copy) = copy_tex_image_refusal (drawable_of s) copy
image_command_refusal s (CopyTexSubImage2D copy) = copy_tex_sub_image_refusal (drawable_of s) copy
image_command_refusal s (TexParameteri target pname value) = tex_parameter_refusal target pname value
image_command_refusal s (GenerateMipmap target) = generate_mipmap_refusal s.textures.objects target
image_command_refusal s (RenderbufferStorage target format width height) = renderbuffer_storage_refusal s.renderbuffers target format width height
