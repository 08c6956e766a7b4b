-- `ranked_rows::list_in_order` meets its contract. The loop's invariant: the rows of the first k ranks are listed (`ListedTo`). Assumes nothing.
use Rattle.std.proofs.Common.{arith, rules, ◌≡◌, length}
use Rattle.ranked_rows.proofs.Following.{listed_none, listed_more, listed_numbers}
use Rattle.ranked_rows.proofs.Bounded.{listed-below}
use Rattle.ranked_rows.proofs.list_in_order.Goals as goal

pub loop-k-init : goal.loop-k-init
loop-k-init c = listed_none _ _ _ _ c.args.listed.now

pub returns-clause-numbers : goal.returns-clause-numbers
returns-clause-numbers c =
    let i = c.loop-k.invariant in
    let all : length c.args.order.now ≡ c.loop-k.k = omega (arith, i.upto, c.loop-k-test.false) in
    rw all (listed_numbers _ _ i)

pub loop-k-preserved : goal.loop-k-preserved
loop-k-preserved c = search (rules, listed_more)

pub refused_by-refused_by-requires-clause-boundaries : goal.refused_by-refused_by-requires-clause-boundaries
refused_by-refused_by-requires-clause-boundaries c =
    let a = c.args.found.now in
    let small = c.requires.listing.small in
    let rows = c.requires.rows in (
      listed-below a.lists.now.full.now a.rows.now c.args.order.now _ a.lists.now.count c.loop-k.k c.loop-k.invariant.list small c.requires.below (λ r h. rows r (omega (arith, h, c.loop-k-test.true))),
      omega (arith, small, c.requires.below _ (rows c.loop-k.k c.loop-k-test.true)),
    )
