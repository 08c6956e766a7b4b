-- `sheet_converter::plan_check` meets its contract: the arrays hold what the sheet states, and have room for it. Assumes nothing.
use native.Mathlib.Omega.{arith}
use mathlib.Core.Path.{sym}
use lib.Seq.{length-take-le}
use Rattle.sheet_converter.proofs.Lists.{plan-fits, part-taken, checks_same}
use Rattle.sheet_converter.proofs.plan_check.Goals as goal

pub fill_numbers-requires : goal.fill_numbers-requires
fill_numbers-requires c =
    (c.requires.held.held.spans, omega (arith, (plan-fits c.requires.held c.requires.old).spans))

pub fill_numbers-requires-2 : goal.fill_numbers-requires-2
fill_numbers-requires-2 c =
    (c.requires.held.held.boundaries, omega (arith, (plan-fits c.requires.held c.requires.old).boundaries))

pub fill_numbers-requires-3 : goal.fill_numbers-requires-3
fill_numbers-requires-3 c =
    (c.requires.held.held.anchors, omega (arith, (plan-fits c.requires.held c.requires.old).anchors))

pub slice_bounds-spans-end : goal.slice_bounds-spans-end
slice_bounds-spans-end c =
    omega (arith, (plan-fits c.requires.held c.requires.old).spans)

pub slice_bounds-map_check-end : goal.slice_bounds-map_check-end
slice_bounds-map_check-end c =
    sym (length-take-le _ _ (omega (arith, (plan-fits c.requires.held c.requires.old).spans)))

pub slice_bounds-boundaries-end : goal.slice_bounds-boundaries-end
slice_bounds-boundaries-end c =
    omega (arith, (plan-fits c.requires.held c.requires.old).boundaries)

pub slice_bounds-map_check-end-2 : goal.slice_bounds-map_check-end-2
slice_bounds-map_check-end-2 c =
    sym (length-take-le _ _ (omega (arith, (plan-fits c.requires.held c.requires.old).boundaries)))

pub slice_bounds-anchors-end : goal.slice_bounds-anchors-end
slice_bounds-anchors-end c =
    omega (arith, (plan-fits c.requires.held c.requires.old).anchors)

pub slice_bounds-map_check-end-3 : goal.slice_bounds-map_check-end-3
slice_bounds-map_check-end-3 c =
    sym (length-take-le _ _ (omega (arith, (plan-fits c.requires.held c.requires.old).anchors)))

pub map_check-requires : goal.map_check-requires
map_check-requires c =
    record {
      sides = ((plan-fits c.requires.held c.requires.old).wide, (plan-fits c.requires.held c.requires.old).high);
      cells = c.requires.held.held.cells;
    }

pub returns : goal.returns
returns c =
    checks_same c.args.bytes.now c.args.plan c.requires.old
    (part-taken c.args.bytes.now c.args.plan.parts.spans _ c.requires.held.held.spans c.fill_numbers.ensures)
    (part-taken c.args.bytes.now c.args.plan.parts.boundaries _ c.requires.held.held.boundaries c.fill_numbers-2.ensures)
    (part-taken c.args.bytes.now c.args.plan.parts.anchors _ c.requires.held.held.anchors c.fill_numbers-3.ensures)
    c.map_check.ensures
