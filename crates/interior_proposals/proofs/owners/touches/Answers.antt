-- `owners::touches` meets its contract, by what `any` gives. Assumes nothing.
use Rattle.std.proofs.Common.{rules, tests, ◌≡◌, true, false}
use Rattle.laws.specs.ListLaws.Chains.{any_from_range}
use Rattle.context.specs.Shown.{pair_at}
use Rattle.interior_proposals.specs.Owners.{pair_named}
use Rattle.interior_proposals.proofs.RowScans.{any-rows_is}
use Rattle.interior_proposals.proofs.owners.touches.Goals as goal

pub returns : goal.returns
returns c =
    any-rows_is (pair_named c.args.names.now c.args.r) c.args.pairs.now c.args.rows.start c.args.rows.end c.requires.rising _
    (any_from_range _ _ _ c.any.result
    (λ k. pair_named c.args.names.now c.args.r (pair_at c.args.pairs.now k) ≡ true) (λ k. pair_named c.args.names.now c.args.r (pair_at c.args.pairs.now k) ≡ false)
    c.any.ensures.ran (λ x q k. search (rules, tests)) (λ x q k. search (rules, tests)))
