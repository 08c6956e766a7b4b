-- The rows of a boundary, and what the answers on them stand for. Definitions only; assumes nothing.
use Rattle.std.specs.Option.{option_eq}
use Rattle.std.specs.Prelude.{ℕ, ◌+◌, ◌≡◌, ◌≤◌, Bool, not, List, [], ◌∷◌, get_or, eqb, Option, None, Some}
use Rattle.definitions.specs.Scan.{filter}
use Rattle.definitions.specs.Grid as grid
use Rattle.definitions.specs.MouthShapes.{MouthShape, single, star, distinct_regions, triangle_representative}
use Rattle.context.specs.Shown.{pairs_between}
use Rattle.context.specs.Rows.{pair_form}
use Rattle.region_pairs.specs.declared.Pair as declared
use Rattle.mouth_proposals.specs.declared.shapes.Edges.{Edges}
use Rattle.mouth_proposals.specs.declared.shapes.Shape.{Shape}
use Rattle.mouth_proposals.specs.declared.shapes.Shape.TheVariants as shape

-- the pairs of boundary i
abbrev pub rows_of : List ℕ → List ℕ → ℕ → List grid.Pair
rows_of pairs starts i = pairs_between pairs (get_or starts i 0) (get_or starts (i + 1) 0)

-- region r is the one outside, if there is one
abbrev pub is_outer : Option ℕ → ℕ → Bool
is_outer outer r = option_eq eqb (Some r) outer

-- the regions of l but for the one outside, each once
unfoldable pub inner_of : Option ℕ → List grid.Pair → List ℕ
unfolding filter distinct_regions
inner_of outer l = filter (λ r. not (is_outer outer r)) (distinct_regions l)

-- l are the pairs of the mouth
abbrev pub shape_form : List grid.Pair → Option Shape → Option MouthShape
shape_form l None = None
shape_form l (Some (shape.Single p)) = Some (single (pair_form p))
shape_form l (Some (shape.Star outer)) = Some (star outer (filter (λ r. not (eqb r outer)) (distinct_regions l)))

-- both regions of the pair are numbered from 1 to n
abbrev pub PairWithin : ℕ → declared.Pair → Type 0
PairWithin n p = ((1 ≤ p.lo) × (p.lo ≤ n)) × ((1 ≤ p.hi) × (p.hi ≤ n))

abbrev pub EdgesWithin : ℕ → Edges → Type 0
EdgesWithin n e = PairWithin n e.first × PairWithin n e.second

-- the rows that the edges are
abbrev pub edges_form : Edges → List grid.Pair
edges_form e = pair_form e.first ∷ pair_form e.second ∷ []

-- the mouth's edges where its rows and the ramp's form a triangle, and none where they do not
abbrev pub TriangleOf : List grid.Pair → List grid.Pair → Option Edges → Type 0
TriangleOf mouth ramp None = triangle_representative mouth ramp ≡ None
TriangleOf mouth ramp (Some e) = (mouth ≡ edges_form e) × (triangle_representative mouth ramp ≡ Some (distinct_regions mouth))

-- the one number of a list, where there is just one
abbrev pub one_of : List ℕ → Option ℕ
one_of [] = None
one_of (r ∷ []) = Some r
one_of (r ∷ s ∷ l) = None
