use Rattle.std.proofs.Common.{◌≡◌, ◌∙◌, Bool, sym, subst}
use Rattle.std.specs.Bool.{OnFalse}
use Rattle.texture_mgr.specs.Tables.{tables, covers}
use Rattle.decode_images.proofs.PartsWritten.{nothing_made, may_part, made_part, stops_part}
use Rattle.decode_images.proofs.parts.write_part.Goals as goal

pub returns-then-extend-clause-calls : goal.returns-then-extend-clause-calls
returns-then-extend-clause-calls g c =
    nothing_made (tables c.args.textures.now) (covers c.args.textures.now) c.args.place c.args.rect (sym c.if-extend.true ∙ c.extend.ensures.added) g.met.D.Driver.grown_itself c.args.driver.now

pub zero_level-requires : goal.zero_level-requires
zero_level-requires g c =
    may_part (tables c.args.textures.now) (covers c.args.textures.now) c.args.place c.args.rect c.extend.ensures.tables
    (subst (λ (b : Bool). OnFalse b (covers c.extend.new.self ≡ covers c.args.textures.now)) c.if-extend.false c.extend.ensures.kept) (sym c.if-extend.false ∙ c.extend.ensures.added) c.requires.may

pub returns-in_err-zero_level-clause-calls : goal.returns-in_err-zero_level-clause-calls
returns-in_err-zero_level-clause-calls g c =
    stops_part (tables c.args.textures.now) (covers c.args.textures.now) c.args.place c.args.rect c.extend.ensures.tables
    (subst (λ (b : Bool). OnFalse b (covers c.extend.new.self ≡ covers c.args.textures.now)) c.if-extend.false c.extend.ensures.kept) (sym c.if-extend.false ∙ c.extend.ensures.added) c.from_residual.result c.from_residual.ensures.1 c.in_err-zero_level.ensures.calls

pub returns-clause-calls : goal.returns-clause-calls
returns-clause-calls g c =
    made_part (tables c.args.textures.now) (covers c.args.textures.now) c.args.place c.args.rect c.extend.ensures.tables
    (subst (λ (b : Bool). OnFalse b (covers c.extend.new.self ≡ covers c.args.textures.now)) c.if-extend.false c.extend.ensures.kept) (sym c.if-extend.false ∙ c.extend.ensures.added) c.in_ok-zero_level.ensures.calls
