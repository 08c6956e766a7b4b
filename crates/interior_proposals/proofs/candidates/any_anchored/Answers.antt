-- `candidates::any_anchored` meets its contract, by what `any` gives. Assumes nothing.
use Rattle.std.proofs.Common.{rules, tests, ◌≡◌, true, false}
use Rattle.laws.specs.ListLaws.Chains.{any_from_range}
use Rattle.context.specs.Shown.{pair_at}
use Rattle.interior_proposals.specs.Candidates.{pair_marked}
use Rattle.interior_proposals.proofs.RowScans.{any-rows_is}
use Rattle.interior_proposals.proofs.candidates.any_anchored.Goals as goal

pub returns : goal.returns
returns c =
    any-rows_is (pair_marked c.args.marks.now) c.args.pairs.now c.args.rows.start c.args.rows.end c.requires.rising _
    (any_from_range _ _ _ c.any.result
    (λ k. pair_marked c.args.marks.now (pair_at c.args.pairs.now k) ≡ true) (λ k. pair_marked c.args.marks.now (pair_at c.args.pairs.now k) ≡ false)
    c.any.ensures.ran (λ x q k. search (rules, tests)) (λ x q k. search (rules, tests)))
