-- Where the boundaries are not as many as the count says, nothing is marked, and nothing is asked to be. Else `view` leaves the anchored regions and the
-- incidents in masks and queue, of which the pass is lent as much as there are regions, as `Marking` has it.
use Rattle.std.proofs.Common.{sym}
use lib.Seq.{length-take-le}
use Rattle.topology.proofs.Calling.{no_marks}
use Rattle.topology.proofs.Marking.{unmarked_lent, marks_long_lem, counts_long_lem, lent-shows, marked-lent}
use Rattle.topology.proofs.marks.mark_removed.Goals as goal

pub returns-then-boundaries-count : goal.returns-then-boundaries-count
returns-then-boundaries-count c = λ M L. unmarked_lent M L c.if-boundaries-count.true

pub view-requires-clause-partitioned : goal.view-requires-clause-partitioned
view-requires-clause-partitioned c = (_, c.requires.1.partitioned)

pub slice_bounds-removed_marks-end : goal.slice_bounds-removed_marks-end
slice_bounds-removed_marks-end c =
    let L = c.requires.1 in marks_long_lem _ L c.if-boundaries-count.false (c.view.ensures _ L.partitioned)

pub slice_bounds-removed_marks-end-2 : goal.slice_bounds-removed_marks-end-2
slice_bounds-removed_marks-end-2 c =
    let L = c.requires.1 in sym (length-take-le _ _ (marks_long_lem _ L c.if-boundaries-count.false (c.view.ensures _ L.partitioned)))

pub slice_bounds-removed_marks-end-3 : goal.slice_bounds-removed_marks-end-3
slice_bounds-removed_marks-end-3 c =
    let L = c.requires.1 in counts_long_lem _ L c.if-boundaries-count.false (c.view.ensures _ L.partitioned)

pub slice_bounds-removed_marks-end-4 : goal.slice_bounds-removed_marks-end-4
slice_bounds-removed_marks-end-4 c =
    let L = c.requires.1 in sym (length-take-le _ _ (counts_long_lem _ L c.if-boundaries-count.false (c.view.ensures _ L.partitioned)))

pub removed_marks-requires-clause-lists_show : goal.removed_marks-requires-clause-lists_show
removed_marks-requires-clause-lists_show c =
    let L = c.requires.1 in (_, lent-shows _ L c.if-boundaries-count.false (c.view.ensures _ L.partitioned))

pub removed_marks-requires-clause-none_marked : goal.removed_marks-requires-clause-none_marked
removed_marks-requires-clause-none_marked c = no_marks

pub returns : goal.returns
returns c = λ M L.
    let same = c.if-boundaries-count.false in
    let shown = c.view.ensures M L.partitioned in
    marked-lent M L same shown _ _ c.removed_marks.auto.marks c.removed_marks.auto.counts (c.removed_marks.ensures _ (lent-shows M L same shown))
