-- `leaves::rows_split` meets its contract, by what `all` gives. Assumes nothing.
use Rattle.std.proofs.Common.{rules, tests, ◌≡◌, true, false}
use Rattle.laws.specs.ListLaws.Chains.{all_from_range}
use Rattle.context.specs.Shown.{pair_at}
use Rattle.interior_proposals.proofs.LeafLaws.{splits, split_rows}
use Rattle.interior_proposals.proofs.leaves.rows_split.Goals as goal

pub returns : goal.returns
returns c =
    λ C rs w I.
    split_rows C rs I w _
    (all_from_range _ _ _ c.all.result (λ k. splits c.args.names.now c.args.r (pair_at c.args.pairs.now k) ≡ true) (λ k. splits c.args.names.now c.args.r (pair_at c.args.pairs.now k) ≡ false)
    c.all.ensures.ran (λ x q k. search (rules, tests)) (λ x q k. search (rules, tests)))
