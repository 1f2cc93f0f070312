-- What becomes of the textures once the borrow of one ends.
use Rattle.std.specs.Prelude.{ℕ, Bool, Option}
use Rattle.std.specs.Borrow.{LendsIf, Fml, MutBor}
use Rattle.texture_mgr.specs.declared.texture.Texture.{Texture}
use Rattle.texture_mgr.specs.declared.objects.Objects.{Objects}
use Rattle.texture_mgr.specs.contracts.texture.Texture as of_texture
use Rattle.texture_mgr.specs.contracts.objects.Objects as of_objects
use Rattle.texture_mgr.specs.Objects.{with_texture}

-- they end with the texture that was written in its place, and unchanged where nothing was lent
abbrev pub lends_texture : MutBor Objects → ℕ → Bool → Option (MutBor Texture) → Fml
lends_texture objects number cube lent = LendsIf of_objects.the_row of_texture.the_row objects lent (λ written. with_texture objects.now number cube written) objects.now
