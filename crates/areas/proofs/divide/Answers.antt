-- `areas::divide` meets its contract: labels, assessed spans, and cleared masks and queue, put together in Dividing. Assumes nothing.
use Rattle.std.proofs.Common.{rules, ◌≡◌}
use lib.ListN.{replicate, length}
use Rattle.areas.proofs.Clearing.{cleared_all}
use Rattle.areas.proofs.Dividing.{divided_whole, divided_short}
use Rattle.areas.proofs.divide.Goals as goal

pub returns-in-Some-clause-divided : goal.returns-in-Some-clause-divided
returns-in-Some-clause-divided c =
    divided_whole _ _ _ _ _ _ _ _ _ c.label_regions-regions.ensures c.clear_scratch.ensures.0 c.clear_scratch.ensures.1 c.assess_spans-rows.ensures c.in-Some.is

pub returns-in-None-clause-divided : goal.returns-in-None-clause-divided
returns-in-None-clause-divided c =
    let p : c.fill.new.self ≡ replicate (length c.assess_spans-rows.new.pairs) 0 = search rules in
    divided_short _ _ _ _ _ _ _ _ _ c.label_regions-regions.ensures c.clear_scratch.ensures.0 c.clear_scratch.ensures.1 c.assess_spans-rows.ensures c.in-None.is (cleared_all c.assess_spans-rows.new.pairs p)
