-- The run stands before some turn (`RunsAt`). The measure falls in each turn, since a pass removes some or is one quiet pass more.
use Rattle.std.proofs.Common.{◌+◌, ◌*◌, ◌-◌, List}
use Rattle.context.specs.declared.Region.{Region}
use Rattle.areas.specs.Lists.{of_lists, SameLists}
use Rattle.rest_lists.specs.Kept.{Origin, map_lent, all_places}
use Rattle.rest_lists.specs.Together.{SameKept}
use Rattle.topology.specs.Rest.{Stands, run-lists}
use Rattle.topology.proofs.Running.{RunsAt}
use Rattle.topology.proofs.to_rest.run_turns.Given as goal

abbrev pub invariant-loop-turn : goal.invariant-loop-turn
invariant-loop-turn l =
    ((O : Origin) (s : List Region)
    → Stands l.grid.width l.grid.height l.grid.cells.now l.anchors O s (all_places (map_lent l.grid.width l.grid.height l.grid.cells.now l.anchors O)) l.first l.first
    (of_lists run-lists l.fn.lists l.fn.records l.fn.kept.numbers.now l.fn.kept.spans.now l.fn.kept.boundaries.now)
    → of_lists (RunsAt l.grid.width l.grid.height l.grid.cells.now l.anchors O s l.first l.standing l.turn) l.lists l.records l.kept.numbers.now l.kept.spans.now l.kept.boundaries.now)
    × SameLists l.fn.lists l.lists
    × SameKept l.fn.kept l.kept

abbrev pub decreases-loop-turn : goal.decreases-loop-turn
decreases-loop-turn l = 3 * l.standing.kept + (3 - l.turn.quiet)
