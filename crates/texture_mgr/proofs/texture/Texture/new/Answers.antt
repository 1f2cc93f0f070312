use Rattle.std.proofs.Common.{◌≡◌, ◌∙◌, rules, replicate, None}
use Rattle.texture_mgr.proofs.Places.{none_written_in}
use Rattle.texture_mgr.proofs.texture.Texture.new.Goals as goal

pub returns-clause-covers : goal.returns-clause-covers
returns-clause-covers c =
    let all : c.in_ok-covers.covers.items ≡ replicate c.len.result None = search rules in
    none_written_in c.in_ok-table.table.cube _ c.from_vec.result (c.from_vec.ensures ∙ all)
