-- `taken::Taken::is_gone` meets its contract, by its tests. Assumes nothing.
use Prim.Native.Nat.{◌+◌, ◌<◌}
use mathlib.Core.Path.{sym, ap, ◌∙◌}
use mathlib.Core.Logic.{⊎_elim}
use mathlib.Core.Bool.{false, ◌||◌}
use lib.ListN.{get_or}
use lib.Dec.{eqb}
use borrow.Author.Rules.{rules}
use borrow.Author.Tests.{not-true, tests}
use Rattle.laws.specs.ListLaws.Tests.{or_split}
use Rattle.context.specs.Shown.{pair_at}
use Rattle.mouth_selection.proofs.GoneMouths.{gone-ramp, gone-removed, gone_held}
use Rattle.mouth_selection.proofs.taken.Taken.is_gone.Goals as goal

pub returns-then-has_ramp-removed : goal.returns-then-has_ramp-removed
returns-then-has_ramp-removed c =
    let s = c.args in
    λ C T B P S hm e.
    ⊎_elim (λ k. gone-ramp C T s.m (ap (λ b. eqb b.kind 0) (B.at s.m hm) ∙ not-true _ (sym c.has_ramp.ensures ∙ k))) (gone-removed C T P hm S)
    (or_split c.has_ramp.result (get_or s.self.now.removed.now s.m false) c.if-has_ramp-removed.true)

pub returns : goal.returns
returns c =
    let s = c.args in
    let some_row : get_or s.context.starts.now s.m 0 < get_or s.context.starts.now (s.m + 1) 0 = search (rules, tests) in
    λ C T B P S hm e. gone_held C T P hm S some_row (c.row_at-lo.ensures ∙ ap (pair_at s.context.pairs.now) c.rows-rows.ensures.0) (sym (λ i. c.region_full.ensures i || c.region_full-2.ensures i) ∙ e)
