-- `shapes::star` meets its contract, by the number of rows. Assumes nothing.
use mathlib.Core.Path.{sym, ap, ap₂, ◌∙◌}
use mathlib.Core.Bool.{true}
use mathlib.Core.List.{[], ◌∷◌}
use Rattle.definitions.specs.MouthShapes.{mouth_shape}
use Rattle.context.specs.Shown.{pairs_between}
use Rattle.mouth_proposals.proofs.RowLists.{between-zero}
use Rattle.context.proofs.FullPairs.{between_one}
use Rattle.mouth_proposals.proofs.shapes.star.Goals as goal

pub returns-in-0 : goal.returns-in-0
unfolding mouth_shape
returns-in-0 c =
    sym (ap (mouth_shape true) (sym (ap₂ (pairs_between c.args.context.pairs.now) c.rows-rows.ensures.0 c.rows-rows.ensures.1) ∙ between-zero c.args.context.pairs.now _ _ c.in-0.is))

pub returns-in-1 : goal.returns-in-1
unfolding mouth_shape
returns-in-1 c =
    sym (ap (mouth_shape true) (sym (ap₂ (pairs_between c.args.context.pairs.now) c.rows-rows.ensures.0 c.rows-rows.ensures.1) ∙ between_one c.args.context.pairs.now _ _ c.in-1.is ∙ ap (λ p. p ∷ []) (sym c.row_at.ensures)))
