-- `call_partition::divide` meets its contract: labels, scratch and assessed spans, put together in Preparing. Assumes nothing.
use Rattle.std.proofs.Common.{rules, ◌≡◌, ◌*◌, ◌/◌}
use lib.ListN.{take, replicate, length}
use Rattle.definitions.specs.Limits.{numbers_per_span, tallies_per_span}
use Rattle.areas.proofs.Clearing.{cleared_front, cleared_all}
use Rattle.call_partition.proofs.Preparing.{refused-records, refused-pairs, all-ready}
use Rattle.call_partition.proofs.divide.Goals as goal

pub returns-then-room-regions-clause-divided : goal.returns-then-room-regions-clause-divided
returns-then-room-regions-clause-divided c =
    let n = tallies_per_span * (length c.args.spans.now / numbers_per_span) in
    let t : c.fill.new.self ≡ replicate (length (take n c.args.lists.now.tallies.now)) 0 = search rules in
    λ pass boundaries anchors output e. refused-records pass _ _ _ _ boundaries anchors _ output _ _ _ _ _ e c.label_regions-regions.ensures c.if-room-regions.true c.clear_scratch.ensures.0 c.clear_scratch.ensures.1 (cleared_front n c.args.lists.now.tallies.now c.requires.tallies_long t)

pub returns-in-Some-clause-divided : goal.returns-in-Some-clause-divided
returns-in-Some-clause-divided c =
    λ pass boundaries anchors output e. all-ready pass _ _ _ _ boundaries anchors _ output _ _ _ _ _ e c.label_regions-regions.ensures c.if-room-regions.false c.assess_spans-rows.ensures c.in-Some.is

pub returns-in-None-clause-divided : goal.returns-in-None-clause-divided
returns-in-None-clause-divided c =
    let p : c.fill-in-None.new.self ≡ replicate (length c.assess_spans-rows.new.pairs) 0 = search rules in
    λ pass boundaries anchors output e. refused-pairs pass _ _ _ _ boundaries anchors _ output _ _ _ _ _ e c.label_regions-regions.ensures c.if-room-regions.false c.assess_spans-rows.ensures c.in-None.is c.clear_scratch-in-None.ensures.0 c.clear_scratch-in-None.ensures.1 (cleared_all c.assess_spans-rows.new.pairs p)
