use Rattle.std.proofs.Common.{◌≡◌, ◌∙◌, sym, ap, subst, Bool, List}
use Rattle.gl_plain.specs.declared.textures.ImagePlace.{ImagePlace}
use Rattle.gl_plain.specs.subjects.Completeness.{face_places, first_face}
use Rattle.gl_plain.specs.subjects.Levels.{face_count, is_cube_target, is_cube_face}
use Rattle.gl_plain.specs.subjects.Mipmaps.{base_places}
use Rattle.gl_plain.specs.subjects.Textures.{bound_number, bound_texture}
use Rattle.gl_driver.specs.Performed.{MayMake}
use Rattle.texture_mgr.specs.Tables.{tables}
use Rattle.whole_images.specs.Whole.{zeroings_of, MakesWhole}
use Rattle.decode_images.proofs.BaseImages.{first_kind, bases_are}
use Rattle.decode_images.proofs.bases.make_bases_whole.Goals as goal

pub zero_faces-requires : goal.zero_faces-requires
zero_faces-requires g c =
    let cube = is_cube_target c.args.target in
    let number : c.place_bound-place.result.texture ≡ bound_number (tables c.args.textures.now).objects.units cube =
    ap (λ p. p.texture) c.place_bound-place.ensures ∙ ap (λ f. bound_number (tables c.args.textures.now).objects.units (is_cube_face f)) c.first_face.ensures ∙ ap (bound_number (tables c.args.textures.now).objects.units) (first_kind _ ∙ c.is_cube_target-cube.ensures) in
    let same : face_places c.place_bound-place.result.texture 1 (first_face c.is_cube_target-cube.result).0 (face_count c.is_cube_target-cube.result) ≡ base_places (tables c.args.textures.now).objects c.args.target =
    (λ i. face_places (number i) 1 (first_face (c.is_cube_target-cube.ensures i)).0 (face_count (c.is_cube_target-cube.ensures i)))
    ∙ bases_are cube (bound_number (tables c.args.textures.now).objects.units cube) (bound_texture (tables c.args.textures.now).objects cube) c.requires.bound in
    subst (λ (ps : List ImagePlace). MayMake (g.D.Driver.history c.args.driver.now).state (zeroings_of c.args.textures.now ps)) (sym same) c.requires.may

pub returns : goal.returns
returns g c =
    let cube = is_cube_target c.args.target in
    let number : c.place_bound-place.result.texture ≡ bound_number (tables c.args.textures.now).objects.units cube =
    ap (λ p. p.texture) c.place_bound-place.ensures ∙ ap (λ f. bound_number (tables c.args.textures.now).objects.units (is_cube_face f)) c.first_face.ensures ∙ ap (bound_number (tables c.args.textures.now).objects.units) (first_kind _ ∙ c.is_cube_target-cube.ensures) in
    let same : face_places c.place_bound-place.result.texture 1 (first_face c.is_cube_target-cube.result).0 (face_count c.is_cube_target-cube.result) ≡ base_places (tables c.args.textures.now).objects c.args.target =
    (λ i. face_places (number i) 1 (first_face (c.is_cube_target-cube.ensures i)).0 (face_count (c.is_cube_target-cube.ensures i)))
    ∙ bases_are cube (bound_number (tables c.args.textures.now).objects.units cube) (bound_texture (tables c.args.textures.now).objects cube) c.requires.bound in
    subst (λ (ps : List ImagePlace). MakesWhole g.D.Driver.history g.D.Driver.grown c.args.driver.now c.zero_faces.new.driver c.args.textures.now c.zero_faces.new.textures ps c.zero_faces.result) same c.zero_faces.ensures
