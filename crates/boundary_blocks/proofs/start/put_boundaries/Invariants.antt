-- `boundary_blocks::start::put_boundaries` meets its contract. The loop's invariant: the boundaries of the first k rows are stored, and nothing else. Assumes nothing.
use mathlib.Core.Path.{◌≡◌}
use lib.ListN.{length, take}
use Rattle.definitions.specs.Lists.{overwrite}
use Rattle.laws.specs.ListLaws.FlatRows.{rows_held}
use Rattle.boundary_blocks.specs.Start.{turned_of}
use Rattle.boundary_blocks.proofs.start.put_boundaries.Given as goal

abbrev pub invariant-loop-k : goal.invariant-loop-k
invariant-loop-k l = (length l.boundaries ≡ length l.initial.boundaries) × (l.boundaries ≡ overwrite (turned_of l.lent (rows_held (take l.k l.rows))) l.initial.boundaries)
