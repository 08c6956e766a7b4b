-- `topology::numbers::put_records` meets its contract. The loop's invariant: the first i records are written, one behind the other, and nothing else. Assumes
-- nothing.
use Prim.Native.Nat.{◌≤◌}
use mathlib.Core.Path.{◌≡◌}
use mathlib.Core.List.{map}
use lib.ListN.{length, take}
use Rattle.definitions.specs.Lists.{overwrite}
use Rattle.context.specs.Records.{record_of}
use Rattle.topology.specs.Numbers.{all_numbers}
use Rattle.topology.proofs.numbers.put_records.Given as goal

abbrev pub invariant-loop-i : goal.invariant-loop-i
invariant-loop-i l =
    (l.i ≤ l.count) × (length l.numbers ≡ length l.initial.numbers) × (l.numbers ≡ overwrite (all_numbers (map record_of (take l.i l.records))) l.initial.numbers)
