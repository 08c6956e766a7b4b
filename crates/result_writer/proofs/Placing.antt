-- Bytes put one behind the other: the numbers of a list while they are written (`placing_next`), a list behind its count, and the parts of a sheet. Assumes nothing.
use Prim.Native.Nat.{ℕ, ◌+◌, ◌/◌, ◌<◌, ◌≤◌}
use native.Mathlib.Numerals.{add-one}
use mathlib.Core.Path.{◌≡◌, ap}
use mathlib.Core.List.{List, [], ◌++◌}
use lib.ListN.{length, drop, get_or, length-append, drop_of_length-le}
use Rattle.result_writer.proofs.Spending.{next_bytes}
use Rattle.definitions.specs.Scan.{concat_map}
use Rattle.results.specs.Shortest.{shortest, list_bytes}
use Rattle.results.specs.Result.{Result}
use Rattle.results.specs.ResultAnswers.{result_bytes}
use Rattle.definitions.specs.Limits.{tallies_per_span, numbers_per_pair, numbers_per_row}
use Rattle.byte_writer.specs.declared.Writer.{Writer}
use Rattle.byte_writer.specs.Contract.{Appends}
use Rattle.byte_writer.specs.Chains.{appends_then}

-- the numbers from i on: the next one, and those behind it
pub placing_next : (numbers : List ℕ) (i : ℕ) → i < length numbers → concat_map shortest (drop i numbers) ≡ shortest (get_or numbers i 0) ++ concat_map shortest (drop (i + 1) numbers)
placing_next numbers i h = rw (add-one i) (next_bytes numbers i h)

-- behind the last one there is none
pub placing_none : (numbers : List ℕ) {i : ℕ} → length numbers ≤ i → concat_map shortest (drop i numbers) ≡ []
unfolding concat_map
placing_none numbers h = ap (concat_map shortest) (drop_of_length-le numbers h)

-- a count and its numbers
pub list_length : (size : ℕ) (numbers : List ℕ) → length (list_bytes size numbers) ≡ length (shortest (length numbers / size)) + length (concat_map shortest numbers)
unfolding list_bytes
list_length size numbers = length-append (shortest (length numbers / size)) (concat_map shortest numbers)

pub list_put : (size : ℕ) (numbers : List ℕ) {old new new' : Writer} → Appends old (shortest (length numbers / size)) new
    → Appends new (concat_map shortest numbers) new' → Appends old (list_bytes size numbers) new'
unfolding list_bytes
list_put size numbers P Q = appends_then P Q

-- the parts of the sheet
pub sheet-put : (r : Result) {o a b c d e f : Writer} → Appends o (shortest 2) a → Appends a (shortest r.regions) b → Appends b (list_bytes 1 r.labels) c
    → Appends c (list_bytes tallies_per_span r.tallies) d → Appends d (list_bytes numbers_per_pair r.pairs) e → Appends e (list_bytes numbers_per_row r.rows) f → Appends o (result_bytes r) f
unfolding result_bytes
sheet-put r p q s t u v = appends_then (appends_then (appends_then (appends_then (appends_then p q) s) t) u) v
