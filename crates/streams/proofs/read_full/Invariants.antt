-- `read_full` meets its contract. The invariant: the list keeps its length, count is not beyond it, and what is in front of count is what the input lost. The
-- measure is how much is left. Assumes nothing.
use Rattle.std.proofs.Common.{length, take, ◌-◌, ◌≤◌, ◌≡◌}
use Rattle.std.specs.Io.KnownBytes.{Consumes}
use Rattle.streams.proofs.read_full.Given as goal

abbrev pub invariant-loop-count : goal.invariant-loop-count
invariant-loop-count g l =
    record {
      kept : length l.list ≡ length l.initial.list;
      within : l.count ≤ length l.list;
      bytes : Consumes (g.R.Read.remaining l.initial.input) (g.R.Read.remaining l.input) (take l.count l.list);
    }

abbrev pub decreases-loop-count : goal.decreases-loop-count
decreases-loop-count g l = length l.initial.list - l.count
