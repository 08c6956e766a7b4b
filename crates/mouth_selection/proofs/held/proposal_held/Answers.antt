-- `held::proposal_held` meets its contract: the region outside, then the rows of the mouth. Assumes nothing.
use Rattle.std.proofs.Common.{rules, tests, refl, sym, ap, ap₂, ◌∙◌, Bool, ◌||◌}
use Rattle.std.proofs.lemmas.Iterator.{YieldsList-from_range}
use Rattle.std.proofs.lemmas.Iterator.Search.{any_from_yields_List}
use Rattle.definitions.specs.Scan.{any}
use Rattle.definitions.specs.Grid.{Pair}
use Rattle.context.specs.Shown.{pair_at, pairs_between}
use Rattle.context.proofs.RowChains.{any_in_rows}
use Rattle.mouth_proposals.specs.Rows.{rows_of}
use Rattle.mouth_selection.specs.Held.{outer_held, row_held, held_at}
use Rattle.mouth_selection.proofs.held.proposal_held.Goals as goal

pub returns-then-outer_held : goal.returns-then-outer_held
unfolding held_at
returns-then-outer_held c =
    let s = c.args in
    let inner = any (row_held s.marks.now s.proposal.outer) (rows_of s.context.pairs.now s.context.starts.now s.proposal.mouth) in
    c.if-outer_held.true ∙ ap (λ b. b || inner) (sym c.if-outer_held.true ∙ c.outer_held.ensures ∙ ap (outer_held s.marks.now s.proposal.outer) c.outside.ensures)

pub returns-else-outer_held : goal.returns-else-outer_held
unfolding held_at
returns-else-outer_held c =
    let s = c.args in
    let f : Pair → Bool = row_held s.marks.now s.proposal.outer in
    any_from_yields_List (λ k. f (pair_at s.context.pairs.now k)) _ _ c.any.result c.any.ensures.ran (YieldsList-from_range _ _ _ refl refl) (λ x b q k. search (rules, tests))
    ∙ any_in_rows f s.context.pairs.now _ _
    ∙ ap (any f) (ap₂ (pairs_between s.context.pairs.now) c.rows.ensures.0 c.rows.ensures.1)
    ∙ ap (λ b. b || any f (rows_of s.context.pairs.now s.context.starts.now s.proposal.mouth)) (sym c.if-outer_held.false ∙ c.outer_held.ensures ∙ ap (outer_held s.marks.now s.proposal.outer) c.outside.ensures)
