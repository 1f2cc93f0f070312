use Rattle.std.proofs.Common.{◌≡◌, ◌<◌, ◌+◌, ◌++◌, ℕ, List, [], ◌∷◌, length, take, get_or, ap, sym, ◌∙◌, arith, slice_set}
use Rattle.std.specs.Prelude.{map}
use Rattle.std.proofs.lemmas.List.{length-set, map_more, take_all, take_more_set}
use Rattle.gl_plain.specs.subjects.Draws.{array_view}
use Rattle.buffer_mgr.specs.Tables.{tables}
use Rattle.decode_draw.proofs.views.array_views.Goals as goal

-- a write at the next place, of what a function gives for what is there in another list
written : {X Y : Type 0} (f : X → Y) (xs : List X) (ys : List Y) (i : ℕ) (d : X) (y : Y) → i < length xs → i < length ys → take i ys ≡ map f (take i xs) → y ≡ f (get_or xs i d) → take (i + 1) (slice_set ys i y) ≡ map f (take (i + 1) xs)
written f xs ys i d y within there so is = take_more_set ys i y there ∙ (λ k. so k ++ is k ∷ []) ∙ sym (map_more f xs i d within)

pub loop-index-preserved : goal.loop-index-preserved
loop-index-preserved c = (
  length-set c.loop-index.views c.loop-index.index c.array_view.result ∙ c.loop-index.invariant.0,
  written (array_view (tables c.args.buffers.now).objects) c.all-attributes.result.now c.loop-index.views c.loop-index.index _ c.array_view.result (omega (arith, c.all-attributes.ensures.count, c.loop-index.invariant.0))
      (omega (arith, c.loop-index.invariant.0)) c.loop-index.invariant.1 c.array_view.ensures,
)

pub returns : goal.returns
returns c =
    sym (take_all c.loop-index.index c.loop-index.views (omega (arith, c.loop-index.invariant.0))) ∙ c.loop-index.invariant.1
    ∙ ap (map (array_view (tables c.args.buffers.now).objects)) (take_all c.loop-index.index c.all-attributes.result.now (omega (arith, c.all-attributes.ensures.count)) ∙ c.all-attributes.ensures.value)
