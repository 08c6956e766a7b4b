-- `pass_lists::view` meets its contract: each part asks what the partitioned lists and the parts before it give, as Viewing has it. Assumes nothing.
use native.Mathlib.Omega.{arith}
use mathlib.Core.Path.{refl}
use Rattle.pass_lists.proofs.Viewing.{scratch_long_lem, pairs_long_lem, count-few, tallies_long_lem, anchors-fit, regions-within, stretches, rows_named, zeros, viewed}
use Rattle.pass_lists.proofs.view.Goals as goal

pub clear_scratch-requires : goal.clear_scratch-requires
clear_scratch-requires c =
    let pre = c.requires.partitioned in
    scratch_long_lem pre.0 pre.1

pub pair_starts-requires : goal.pair_starts-requires
pair_starts-requires c =
    let pre = c.requires.partitioned in
    record { pairs_room = pairs_long_lem pre.0 pre.1; sizes = (count-few pre.0 pre.1, c.requires.room.0) }

pub full_pairs-requires : goal.full_pairs-requires
full_pairs-requires c =
    let pre = c.requires.partitioned in
    record { sizes = (count-few pre.0 pre.1, tallies_long_lem pre.0 pre.1); room = c.requires.room.1; stretches = stretches pre.0 pre.1 (c.pair_starts.ensures _ pre.1.paired) }

pub mark_anchored-requires : goal.mark_anchored-requires
mark_anchored-requires c =
    let pre = c.requires.partitioned in
    anchors-fit pre.0 pre.1 c.clear_scratch.auto.masks

pub count_incidents-requires : goal.count_incidents-requires
count_incidents-requires c =
    let pre = c.requires.partitioned in
    record { named_rows = rows_named pre.0 pre.1 (c.pair_starts.ensures _ pre.1.paired); sizes = (omega (arith, regions-within pre.0 pre.1, (scratch_long_lem pre.0 pre.1).1, c.clear_scratch.auto.queue), zeros pre.0 pre.1 _ c.clear_scratch.ensures.1) }

pub returns : goal.returns
returns c =
    λ M P.
    let scratch = c.clear_scratch in
    viewed M P _ scratch.ensures.0 scratch.auto.masks refl _ scratch.ensures.1 scratch.auto.queue (c.pair_starts.ensures _ P.paired) (c.full_pairs.ensures _) c.mark_anchored.ensures (c.count_incidents.ensures.shown _) c.count_incidents.ensures.beyond
