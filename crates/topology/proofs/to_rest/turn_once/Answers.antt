-- A pass is lent what is kept, and the blocks that it leaves are those of the places left. Where it removed none the run stands still, else what is left was
-- divided again and the records renewed (Resting).
use Rattle.std.proofs.Common.{ap, ◌∙◌, length}
use Rattle.topology.proofs.Calling.{needed-few}
use Rattle.topology.proofs.Resting.{kept-few, numbers-long, ends-long, bounds-long, stands-lent, pass-done, stands-still, asks_again, first_fits, again_fills, stands-again, divides-still, redivided-still}
use Rattle.topology.proofs.to_rest.turn_once.Goals as goal

pub mark_kept-removed-requires-clause-few : goal.mark_kept-removed-requires-clause-few
mark_kept-removed-requires-clause-few c = (kept-few c.requires.3, needed-few c.requires.3.lists.ready)

pub mark_kept-removed-requires-clause-map_shown : goal.mark_kept-removed-requires-clause-map_shown
mark_kept-removed-requires-clause-map_shown c = (_, stands-lent c.requires.3)

pub mark_kept-removed-requires-clause-room : goal.mark_kept-removed-requires-clause-room
mark_kept-removed-requires-clause-room c = (ends-long c.requires.3, bounds-long c.requires.3)

pub keep_left-left-requires-clause-few : goal.keep_left-left-requires-clause-few
keep_left-left-requires-clause-few c = kept-few c.requires.3

pub keep_left-left-requires-clause-room : goal.keep_left-left-requires-clause-room
keep_left-left-requires-clause-room c = (numbers-long c.requires.3, ends-long c.requires.3, bounds-long c.requires.3)

pub returns-then-left-standing-clause-stands : goal.returns-then-left-standing-clause-stands
returns-then-left-standing-clause-stands c = λ O s places T.
    let left = c.keep_left-left.ensures in
    let at = pass-done T (c.mark_kept-removed.ensures.marked _ (stands-lent T)) left.numbers left.spans left.boundaries left.answer in
    let read = c.mark_kept-removed.ensures.read in
    rw read.labels (rw read.tallies (rw read.pairs (stands-still T _ at.count at.held at.masks at.queue c.if-left-standing.true)))

pub divide_again-next-requires : goal.divide_again-next-requires
divide_again-next-requires c =
    let T = c.requires.3 in
    let left = c.keep_left-left.ensures in
    let at = pass-done T (c.mark_kept-removed.ensures.marked _ (stands-lent T)) left.numbers left.spans left.boundaries left.answer in
    let read = c.mark_kept-removed.ensures.read in
    (_, _, _, _, divides-still read.labels read.tallies read.pairs c.ends.ensures (asks_again T _ at.count at.held at.masks at.queue))

pub renew_from_lists-requires-clause-first_in : goal.renew_from_lists-requires-clause-first_in
renew_from_lists-requires-clause-first_in c =
    let T = c.requires.3 in
    let left = c.keep_left-left.ensures in
    let at = pass-done T (c.mark_kept-removed.ensures.marked _ (stands-lent T)) left.numbers left.spans left.boundaries left.answer in
    first_fits T _ at.count at.held at.masks at.queue

pub renew_from_lists-requires-clause-map_shown : goal.renew_from_lists-requires-clause-map_shown
renew_from_lists-requires-clause-map_shown c =
    let T = c.requires.3 in
    let left = c.keep_left-left.ensures in
    let at = pass-done T (c.mark_kept-removed.ensures.marked _ (stands-lent T)) left.numbers left.spans left.boundaries left.answer in
    let read = c.mark_kept-removed.ensures.read in
    let again = redivided-still read.labels read.tallies read.pairs (c.divide_again-next.ensures.divided _ _ _ _ (divides-still read.labels read.tallies read.pairs c.ends.ensures (asks_again T _ at.count at.held at.masks at.queue))) in
    (_, again_fills T _ at.count at.held at.masks at.queue again c.divide_again-next.ensures.same.queue_long_lem)

pub returns-clause-stands : goal.returns-clause-stands
returns-clause-stands c = λ O s places T.
    let left = c.keep_left-left.ensures in
    let at = pass-done T (c.mark_kept-removed.ensures.marked _ (stands-lent T)) left.numbers left.spans left.boundaries left.answer in
    let read = c.mark_kept-removed.ensures.read in
    let again = redivided-still read.labels read.tallies read.pairs (c.divide_again-next.ensures.divided _ _ _ _ (divides-still read.labels read.tallies read.pairs c.ends.ensures (asks_again T _ at.count at.held at.masks at.queue))) in
    let size = c.divide_again-next.ensures.same in
    let fills = again_fills T _ at.count at.held at.masks at.queue again size.queue_long_lem in
    stands-again T _ at.count at.held at.masks at.queue again (size.labels_long ∙ ap length read.labels) size.masks_long size.queue_long_lem (size.tallies_long ∙ ap length read.tallies) (size.pairs_long ∙ ap length read.pairs) c.renew_from_lists.auto.records (c.renew_from_lists.ensures _ fills)
