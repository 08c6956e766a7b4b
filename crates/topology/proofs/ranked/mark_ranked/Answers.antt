-- Where the boundaries are not as many as the count says, nothing is marked or listed, and nothing is asked to be. Else `view_full` leaves the anchored regions and
-- the incidents in masks and queue, which pass 3 reads, as `RankedMarking` has it.
use Rattle.std.proofs.Common.{arith}
use Rattle.topology.proofs.RankedMarking.{unranked-lent, unmarked_here, lent-passes, ranked-lent}
use Rattle.topology.proofs.ranked.mark_ranked.Goals as goal

pub returns-then-boundaries-count : goal.returns-then-boundaries-count
returns-then-boundaries-count c = λ M L. unranked-lent M L c.if-boundaries-count.true

pub overflow_mul-partition : goal.overflow_mul-partition
overflow_mul-partition c =
    let p = c.requires.map_shown.1.partitioned in
    record { fits = omega (arith, p.cells, p.labels_long) }

pub view_full-requires-clause-partitioned : goal.view_full-requires-clause-partitioned
view_full-requires-clause-partitioned c = (_, c.requires.map_shown.1.partitioned)

pub rank_junctions-requires-clause-lists_show : goal.rank_junctions-requires-clause-lists_show
rank_junctions-requires-clause-lists_show c =
    let L = c.requires.map_shown.1 in (_, lent-passes _ L c.if-boundaries-count.false (c.view_full.ensures _ L.partitioned).1)

pub rank_junctions-requires-clause-before_ranking : goal.rank_junctions-requires-clause-before_ranking
rank_junctions-requires-clause-before_ranking c =
    (unmarked_here _ c.requires.map_shown.1 c.if-boundaries-count.false c.requires.before_ranking.0, c.requires.before_ranking.1)

pub returns : goal.returns
returns c = λ M L.
    let same = c.if-boundaries-count.false in
    let shown = (c.view_full.ensures M L.partitioned).1 in
    ranked-lent M L same shown (c.rank_junctions.ensures _ (lent-passes M L same shown))
