-- `boundary_blocks::start::put_spans` meets its contract. The loop's invariant: the endpoints of the first k rows are stored, and nothing else. Assumes nothing.
use mathlib.Core.Path.{◌≡◌}
use lib.ListN.{length, take}
use Rattle.definitions.specs.Lists.{overwrite}
use Rattle.laws.specs.ListLaws.FlatRows.{rows_held}
use Rattle.boundary_blocks.specs.Start.{ends_of_lem}
use Rattle.boundary_blocks.proofs.start.put_spans.Given as goal

abbrev pub invariant-loop-k : goal.invariant-loop-k
invariant-loop-k l = (length l.spans ≡ length l.initial.spans) × (l.spans ≡ overwrite (ends_of_lem (rows_held (take l.k l.rows))) l.initial.spans)
