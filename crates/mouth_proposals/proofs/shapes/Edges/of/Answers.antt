-- `shapes::Edges::of` meets its contract: two rows, or another number. Assumes nothing.
use mathlib.Core.Path.{sym, ap, ap₂, ◌∙◌}
use lib.ListN.{length}
use Rattle.mouth_proposals.proofs.RowLists.{between_two, two_rows}
use Rattle.context.specs.Shown.{pairs_between}
use Rattle.context.proofs.FullPairs.{between-length}
use Rattle.mouth_proposals.proofs.shapes.Edges.of.Goals as goal

pub returns-then-end-start-ne2 : goal.returns-then-end-start-ne2
returns-then-end-start-ne2 c =
    λ e. c.if-end-start-ne2.true (sym (between-length c.args.context.pairs.now _ _) ∙ ap length (ap₂ (pairs_between c.args.context.pairs.now) c.rows-start.ensures.0 c.rows-start.ensures.1) ∙ e)

pub returns : goal.returns
returns c =
    sym (ap₂ (pairs_between c.args.context.pairs.now) c.rows-start.ensures.0 c.rows-start.ensures.1) ∙ between_two c.args.context.pairs.now _ _ c.if-end-start-ne2.false ∙ sym (two_rows c.row_at.ensures c.row_at-2.ensures)
