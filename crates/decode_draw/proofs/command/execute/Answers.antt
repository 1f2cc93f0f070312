use Rattle.std.proofs.Common.{◌≡◌, inl, inr, refl, rules, of_z, to_z}
use Rattle.std.specs.Int.{w32}
use Rattle.gl_driver.proofs.Exits.{ends_alone, widens}
use Rattle.decode_draw.specs.States.{textures_in, raster_in, own_in}
use Rattle.decode_draw.proofs.command.execute.Goals as goal

pub active_texture-requires : goal.active_texture-requires
active_texture-requires g c = record { taken = rw c.in-ActiveTexture.is at c.requires.taken; may = rw c.in-ActiveTexture.is at c.requires.may }

pub returns-in-ActiveTexture : goal.returns-in-ActiveTexture
returns-in-ActiveTexture g c = rw c.in-ActiveTexture.is (widens (raster_in c.args.raster.now) c.active_texture.ensures)

pub set_raster-requires : goal.set_raster-requires
set_raster-requires g c = record { taken = rw c.in-Raster.is at c.requires.taken; may = rw c.in-Raster.is at c.requires.may }

pub returns-in-Raster : goal.returns-in-Raster
returns-in-Raster g c = rw c.in-Raster.is (widens (textures_in c.args.textures.now) c.set_raster.ensures)

pub clear-requires : goal.clear-requires
clear-requires g c = record { may = rw c.in-Clear.is at c.requires.may }

pub returns-in-Clear : goal.returns-in-Clear
returns-in-Clear g c = rw c.in-Clear.is (widens (own_in c.args.textures.now c.args.raster.now) c.clear.ensures)

pub returns-in-DrawArrays : goal.returns-in-DrawArrays
returns-in-DrawArrays g c =
    let one : to_z w32 (of_z w32 c.in-DrawArrays.first) ≡ c.in-DrawArrays.first = search rules in
    let many : to_z w32 (of_z w32 c.in-DrawArrays.count) ≡ c.in-DrawArrays.count = search rules in
    rw (c.in-DrawArrays.is, ← one, ← many) (widens (own_in c.args.textures.now c.args.raster.now) c.draw_arrays.ensures)

pub returns-in-DrawElements : goal.returns-in-DrawElements
returns-in-DrawElements g c =
    let many : to_z w32 (of_z w32 c.in-DrawElements.count) ≡ c.in-DrawElements.count = search rules in
    rw (c.in-DrawElements.is, ← many) (widens (own_in c.args.textures.now c.args.raster.now) c.draw_elements.ensures)

pub returns-in-Flush : goal.returns-in-Flush
returns-in-Flush g c = elim c.in-Flush.is [
  | inl is ↦ rw is (ends_alone g.met.D.Driver.grown_itself (λ s. refl) (λ s o. refl) (λ s o. refl))
  | inr is ↦ rw is (ends_alone g.met.D.Driver.grown_itself (λ s. refl) (λ s o. refl) (λ s o. refl))
]
