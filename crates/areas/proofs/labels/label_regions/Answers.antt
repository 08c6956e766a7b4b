-- `areas::labels::label_regions` meets its contract: what the spans marked in cleared masks is as labelling asks. Assumes nothing.
use Rattle.std.proofs.Common.{rules, ◌≡◌, ◌*◌}
use lib.ListN.{take, replicate, length}
use Rattle.areas.proofs.Clearing.{cleared_front}
use Rattle.areas.proofs.Labelling.{labelled}
use Rattle.areas.proofs.labels.label_regions.Goals as goal

pub returns : goal.returns
returns c =
    let z : c.fill.new.self ≡ replicate (length (take (c.args.grid.height * c.args.grid.width) c.args.masks.now)) 0 = search rules in
    labelled _ _ _ _ (cleared_front (c.args.grid.height * c.args.grid.width) c.args.masks.now c.requires.room.1 z) c.mark_spans.ensures c.label_cells.ensures
