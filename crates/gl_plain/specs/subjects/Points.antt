-- The points of a framebuffer, by what they take (OpenGL ES 2.0.25, section 4.4.5).
use Rattle.std.specs.Prelude.{Bool}
use Rattle.gl_base.specs.declared.gl_enum.GlEnum.{GlEnum}
use Rattle.gl_plain.specs.declared.targets.Point.{Point}
use Rattle.gl_plain.specs.declared.targets.Point.TheVariants.{Colour, Depth, Stencil}
use Rattle.gl_plain.specs.subjects.Targets.{is_colour_format, is_no_format, is_colour_storage, is_depth_storage, is_stencil_storage}

-- the formats of textures that suit a point
abbrev pub takes_texture : Point → GlEnum → Bool
takes_texture Colour format = is_colour_format format
takes_texture Depth format = is_no_format format
takes_texture Stencil format = is_no_format format

-- the formats of renderbuffers that suit it
abbrev pub takes_storage : Point → GlEnum → Bool
takes_storage Colour format = is_colour_storage format
takes_storage Depth format = is_depth_storage format
takes_storage Stencil format = is_stencil_storage format
