-- The list of separations that the route desk prints (document 02, request 10: "The route desk prints separations"): an operation that asks for sides and
-- boundaries only, and gives for each two boundaries their numbers, the bits of their separation and the exact square. It needs no number above 14: what it
-- refuses stands in the table of SPECIFICATION 4, with an output too short for all pairs as 10. Definitions only. Assumes nothing.
use Rattle.std.specs.Prelude.{◌≡◌, cond, List, [], ◌∷◌, ℕ, ◌*◌, ◌/◌, ◌-◌, length, leb, eqb}
use Rattle.std.specs.Float.{binary64}
use Rattle.std.specs.Float.Ieee.{to_bits}
use Rattle.definitions.specs.Limits.{numbers_per_boundary}
use Rattle.definitions.specs.Grid.{Segment, segment_at}
use Rattle.definitions.specs.Scan.{gather}
use Rattle.definitions.specs.Lists.{overwrite}
use Rattle.definitions.specs.RampGeometry.{segment_distance}
use Rattle.definitions.specs.Refusals.{unless, sides_fault, is_whole, boundaries_fault}
use Rattle.definitions.specs.Verdict.{Answer, refusal, first_refusal}
use Rattle.separations.specs.Distance.{exact_square}

-- ---- the rows

abbrev pub numbers_per_separation : ℕ
numbers_per_separation = 5

abbrev pub boundary_count : List ℕ → ℕ
boundary_count boundaries = length boundaries / numbers_per_boundary

-- the endpoints of boundary i, as written
abbrev pub ends_of_lem : List ℕ → ℕ → Segment
ends_of_lem boundaries i = segment_at boundaries (numbers_per_boundary * i)

-- both numbers, the smaller first; the bits of the separation, which is the one of pass 1; numerator and denominator of the exact square
unfoldable pub separation_row : Segment → Segment → ℕ → ℕ → List ℕ
unfolding segment_distance to_bits exact_square
separation_row s t i j = i ∷ j ∷ to_bits binary64 (segment_distance s t) ∷ (exact_square s t).num ∷ (exact_square s t).den ∷ []

-- the rows of boundary j with each of the first n
unfoldable pub column : List ℕ → ℕ → ℕ → List ℕ
unfolding gather separation_row
column boundaries j n = gather n (λ i. separation_row (ends_of_lem boundaries i) (ends_of_lem boundaries j) i j)

-- The rows of the first n boundaries: by the larger number, then the smaller. Row j * (j - 1) / 2 + i is of i and j, i below j.
unfoldable pub separation_rows : List ℕ → ℕ → List ℕ
unfolding gather column
separation_rows boundaries n = gather n (λ j. column boundaries j j)

-- how many pairs n boundaries have
abbrev pub pair_count : ℕ → ℕ
pair_count n = n * (n - 1) / 2

-- ---- the answer, and the output at exit

-- number 0 and the count of rows, or a refusal's number and place; `room` is the output's length
unfoldable pub list_verdict : ℕ → ℕ → List ℕ → ℕ → Answer
unfolding boundaries_fault
list_verdict w h boundaries room =
    let count = pair_count (boundary_count boundaries) in
    first_refusal
    (refusal 1 (sides_fault w h)
    ∷ refusal 3 (unless (is_whole numbers_per_boundary boundaries))
    ∷ refusal 7 (boundaries_fault w h boundaries)
    ∷ refusal 10 (unless (leb (numbers_per_separation * count) room))
    ∷ [])
    count

-- by the answer's number: the rows, and behind them what was there; as it was where the call is refused
unfoldable pub list_at_exit : List ℕ → List ℕ → ℕ → List ℕ
unfolding separation_rows
list_at_exit boundaries output number = cond (eqb number 0) (overwrite (separation_rows boundaries (boundary_count boundaries)) output) output

-- The contract of the operation: sides, boundaries and output as they were told and lent, the answer a, and the output o at exit.
pub record Lists (w h : ℕ) (boundaries output : List ℕ) (a : Answer) (o : List ℕ) : Type 0 where
  pub answer : a ≡ list_verdict w h boundaries (length output)
  pub at_exit : o ≡ list_at_exit boundaries output a.number
