-- `boundary_blocks::start::put_numbers` meets its contract. The loop's invariant: the numbers of the first k rows are stored, and nothing else. Assumes nothing.
use mathlib.Core.Path.{◌≡◌}
use lib.ListN.{length, take}
use Rattle.definitions.specs.Lists.{overwrite}
use Rattle.laws.specs.ListLaws.FlatRows.{rows_held}
use Rattle.boundary_blocks.specs.Start.{numbers_of}
use Rattle.boundary_blocks.proofs.start.put_numbers.Given as goal

abbrev pub invariant-loop-k : goal.invariant-loop-k
invariant-loop-k l = (length l.numbers ≡ length l.initial.numbers) × (l.numbers ≡ overwrite (numbers_of (rows_held (take l.k l.rows))) l.initial.numbers)
