-- `PartitionContext::full_pair` meets its contract: a span has one pair where it has one row. Assumes nothing.
use native.Mathlib.Omega.{arith}
use mathlib.Core.Path.{ap, ◌∙◌}
use Rattle.context.specs.Shown.{pair_at}
use Rattle.context.specs.Rows.{full_pair_of}
use Rattle.context.proofs.FullPairs.{pair_none, pair_when}
use Rattle.context.proofs.PartitionContext.full_pair.Goals as goal

pub returns-then-rows-ne1 : goal.returns-then-rows-ne1
returns-then-rows-ne1 c = λ C T P l. pair_none C P l (λ e. c.if-rows-ne1.true (omega (arith, e, c.rows-rows.ensures.0, c.rows-rows.ensures.1)))

pub returns : goal.returns
returns c =
    let at = c.rows-rows.ensures in
    λ C T P l.
    ap full_pair_of c.then_some.ensures
    ∙ pair_when C P l (omega (arith, c.if-rows-ne1.false, at.0, at.1)) c.full_cut.result (c.full_cut.ensures C T l) c.row_at.result (c.row_at.ensures ∙ ap (pair_at c.args.self.pairs.now) at.0)
