-- `PartitionContext::is_incident` meets its contract: the rows of a span are its pairs. Assumes nothing.
use Rattle.std.proofs.Common.{rules, tests, refl, sym, ap₂, ◌∙◌}
use Rattle.std.proofs.lemmas.Iterator.{YieldsList-from_range}
use Rattle.std.proofs.lemmas.Iterator.Search.{any_from_yields_List}
use Rattle.definitions.specs.Scan.{any}
use Rattle.definitions.specs.Grid.{contains}
use Rattle.context.specs.Shown.{pair_at, pairs_between}
use Rattle.context.proofs.Counting.{incident_is}
use Rattle.context.proofs.RowChains.{any_in_rows}
use Rattle.context.proofs.PartitionContext.is_incident.Goals as goal

pub returns : goal.returns
returns c =
    let f = contains c.args.r in
    λ C P l.
    any_from_yields_List (λ k. f (pair_at c.args.self.pairs.now k)) _ _ c.any.result c.any.ensures.ran (YieldsList-from_range _ _ _ refl refl) (λ x b q k. search (rules, tests))
    ∙ any_in_rows f c.args.self.pairs.now _ _
    ∙ ap₂ (λ first end. any f (pairs_between c.args.self.pairs.now first end)) c.rows.ensures.0 c.rows.ensures.1
    ∙ sym (incident_is P c.args.i c.args.r l)
