-- The list in which incidents are counted: a region's entry is 512 times its incidents so far, plus one more than the number of the last span that counted.
-- Definitions only; assumes nothing.
use Rattle.std.specs.Prelude.{ℕ, zero, suc, ◌+◌, ◌-◌, ◌*◌, ◌/◌, ◌%◌, ◌≤◌, cond, List, [], ◌∷◌, get_or, set, eqb}
use Rattle.definitions.specs.Scan.{bit}
use Rattle.definitions.specs.Grid.{Pair}
use Rattle.context.specs.Shown.{pairs_between}

-- more than a span's number plus one
abbrev pub pack_unit : ℕ
pack_unit = 512

-- an entry once `span` names the region
abbrev pub counted_entry : ℕ → ℕ → ℕ
counted_entry span v = cond (eqb (v % pack_unit) (span + 1)) v ((v / pack_unit + 1) * pack_unit + (span + 1))

unfoldable pub count_region : ℕ → List ℕ → ℕ → List ℕ
count_region span counts r = set counts (r - 1) (counted_entry span (get_or counts (r - 1) 0))

unfoldable pub count_pair : ℕ → List ℕ → Pair → List ℕ
unfolding count_region
count_pair span counts p = count_region span (count_region span counts p.lo) p.hi

unfoldable pub count_pairs : ℕ → List ℕ → List Pair → List ℕ
unfolding count_pair
count_pairs span counts [] = counts
count_pairs span counts (p ∷ ps) = count_pairs span (count_pair span counts p) ps

-- the pairs of a span, as its rows show them
abbrev pub span_pairs : List ℕ → List ℕ → ℕ → List Pair
span_pairs pairs starts s = pairs_between pairs (get_or starts s 0) (get_or starts (s + 1) 0)

-- the pairs that f gives at the spans before n
unfoldable pub count_spans : (ℕ → List Pair) → ℕ → List ℕ → List ℕ
unfolding count_pairs
count_spans f zero counts = counts
count_spans f (suc n) counts = count_pairs n (count_spans f n counts) (f n)

-- no entry counts a span beyond `span`, nor that one unless it is the last
abbrev pub Packed : ℕ → List ℕ → Type 0
Packed span counts = (k : ℕ) → get_or counts k 0 / pack_unit ≤ span + bit (eqb (get_or counts k 0 % pack_unit) (span + 1))

-- the count of an entry
abbrev pub unpacked : ℕ → ℕ
unpacked v = v / pack_unit
