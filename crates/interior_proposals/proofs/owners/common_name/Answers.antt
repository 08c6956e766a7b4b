-- `owners::common_name` meets its contract, by what `all` gives. Assumes nothing.
use Rattle.std.proofs.Common.{rules, tests, sym, ap, ◌≡◌, ◌∙◌, ◌-◌, ◌<◌, true, false, get_or}
use lib.Arith.{lt_of_le-ne}
use Rattle.laws.specs.ListLaws.Chains.{all_from_range}
use Rattle.context.specs.Shown.{pair_at, pairs_between}
use Rattle.interior_proposals.specs.Owners.{low_named, none}
use Rattle.interior_proposals.proofs.Walks.{row_low}
use Rattle.interior_proposals.proofs.RowScans.{between_none}
use Rattle.interior_proposals.proofs.Commons.{common_one, common-several}
use Rattle.interior_proposals.proofs.owners.common_name.Goals as goal

pub returns-then-rows : goal.returns-then-rows
returns-then-rows c =
    none (sym (ap (pairs_between c.args.pairs.now c.args.rows.start) c.if-rows.true) ∙ between_none c.args.pairs.now c.args.rows.start)

pub returns-then-all : goal.returns-then-all
returns-then-all c =
    let some_row : c.args.rows.start < c.args.rows.end = lt_of_le-ne c.requires.rising c.if-rows.false in
    let name = c.name_of-name.result in
    let rows = c.args.pairs.now in
    let names = c.args.names.now in
    common_one names rows c.args.rows.start c.args.rows.end some_row (c.name_of-name.ensures ∙ ap (λ x. get_or names (x - 1) 0) (row_low c.args.pairs.now c.args.rows.start c.row_at.ensures)) _
    (all_from_range _ _ _ c.all.result (λ k. low_named names name (pair_at rows k) ≡ true) (λ k. low_named names name (pair_at rows k) ≡ false)
    c.all.ensures.ran (λ x q k. search (rules, tests)) (λ x q k. search (rules, tests))) c.if-all.true

pub returns-else-all : goal.returns-else-all
returns-else-all c =
    let some_row : c.args.rows.start < c.args.rows.end = lt_of_le-ne c.requires.rising c.if-rows.false in
    let name = c.name_of-name.result in
    let rows = c.args.pairs.now in
    let names = c.args.names.now in
    common-several names rows c.args.rows.start c.args.rows.end some_row (c.name_of-name.ensures ∙ ap (λ x. get_or names (x - 1) 0) (row_low c.args.pairs.now c.args.rows.start c.row_at.ensures)) _
    (all_from_range _ _ _ c.all.result (λ k. low_named names name (pair_at rows k) ≡ true) (λ k. low_named names name (pair_at rows k) ≡ false)
    c.all.ensures.ran (λ x q k. search (rules, tests)) (λ x q k. search (rules, tests))) c.if-all.false
