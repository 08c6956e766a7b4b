-- Words of the crate's contracts. Definitions only; assumes nothing.
use Rattle.std.specs.Prelude.{ℕ, ◌+◌, ◌-◌, cond, List, ◌++◌, leb, take, drop, Option, None, Some}
use Rattle.results.specs.Result.{Result, in_turn}
use Rattle.result_writer.specs.declared.RunResult.{RunResult}

-- one step along the labels, with so many numbers started
abbrev pub turn_of : ℕ → ℕ → ℕ → Option ℕ
turn_of regions n label = cond (leb label n) (Some n) (cond (in_turn regions n label) (Some (n + 1)) None)

-- the numbers of an entry as they are compared: behind the others the first n of them. It is `pair_key` for none, and `row_key` for one.
abbrev pub key_in : ℕ → List ℕ → List ℕ
key_in n numbers = drop n numbers ++ take n numbers

-- what is left of a room once this is taken from it
unfoldable pub spent : Option ℕ → ℕ → Option ℕ
spent (Some left) size = cond (leb size left) (Some (left - size)) None
spent None size = None

abbrev pub result_in : ℕ → List ℕ → List ℕ → List ℕ → List ℕ → Result
result_in regions labels tallies pairs rows = record { regions = regions; labels = labels; tallies = tallies; pairs = pairs; rows = rows }

-- what the struct of a run stands for
abbrev pub result_of : RunResult → Result
result_of r = result_in r.regions r.labels.now r.tallies.now r.pairs.now r.rows.now
