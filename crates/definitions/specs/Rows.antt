-- What a pass keeps, and the rows of the kept list (`canonical_output` of context.rs; SPECIFICATION 3). Assumes nothing.
use Rattle.std.specs.Prelude.{ℕ, zero, suc, Bool, not, cond, List, [], ◌∷◌, ◌++◌, length, eqb}
use Rattle.definitions.specs.Scan.{collect, only_if, member}
use Rattle.definitions.specs.Sort.{sort, list_lt}
use Rattle.definitions.specs.Grid.{Map, Segment, Boundary, canonical, span_count, boundary_of}
use Rattle.definitions.specs.Context.{Context, context_of, endpoints_key}
use Rattle.definitions.specs.RampMouths
use Rattle.definitions.specs.RampInteriors
use Rattle.definitions.specs.Junctions

-- the boundaries that a pass removes, by the pass's number. (Any other number is refused, number 4.)
unfoldable pub removed_by : ℕ → Context → List ℕ
unfolding RampMouths.removed RampInteriors.removed Junctions.removed
removed_by zero C = []
removed_by (suc zero) C = RampMouths.removed C
removed_by (suc (suc zero)) C = RampInteriors.removed C
removed_by (suc (suc (suc zero))) C = Junctions.removed C
removed_by (suc (suc (suc (suc n)))) C = []

-- if span and boundary counts differ, nothing is removed
unfoldable pub removed_of : ℕ → Map → List ℕ
unfolding span_count removed_by context_of
removed_of pass M = cond (eqb (length M.boundaries) (span_count M)) (removed_by pass (context_of M)) []

unfoldable pub is_kept : ℕ → Map → ℕ → Bool
unfolding member removed_of
is_kept pass M i = not (member i (removed_of pass M))

-- a boundary's number from 0, and its canonical endpoints
pub record Row : Type 0 where
  pub number : ℕ
  pub line : Segment

-- the rows of the boundaries of numbers below n that pass `kept`, by canonical endpoints, then number
unfoldable pub row_key : Row → List ℕ
unfolding endpoints_key
row_key r = endpoints_key r.line ++ (r.number ∷ [])

unfoldable pub rows_from : ℕ → (ℕ → Boundary) → (ℕ → Bool) → List Row
unfolding sort list_lt row_key collect canonical
rows_from n boundary kept =
    sort (λ r s. list_lt (row_key r) (row_key s)) (collect n (λ i. only_if (kept i) (record { number = i; line = canonical (boundary i).endpoints })))

-- the kept list of a pass
unfoldable pub rows_of : ℕ → Map → List Row
unfolding removed_of rows_from boundary_of member
rows_of pass M =
    let gone = removed_of pass M in
    rows_from (length M.boundaries) (boundary_of M) (λ i. not (member i gone))

-- as the output holds them, five numbers a row
unfoldable pub flat_rows : List Row → List ℕ
flat_rows [] = []
flat_rows (r ∷ l) = r.number ∷ r.line.a.x ∷ r.line.a.y ∷ r.line.b.x ∷ r.line.b.y ∷ flat_rows l
