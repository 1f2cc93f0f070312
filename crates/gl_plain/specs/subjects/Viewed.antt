-- A texture by its view.
use Rattle.gl_plain.specs.declared.textures.Texture.{Texture}
use Rattle.gl_plain.specs.declared.completeness.TextureView.{TextureView}

-- the texture that is viewed
abbrev pub texture_viewed : TextureView → Texture
texture_viewed v = record { cube = v.cube; min = v.min; mag = v.mag; wrap_s = v.wrap_s; wrap_t = v.wrap_t; levels = v.levels.now }
