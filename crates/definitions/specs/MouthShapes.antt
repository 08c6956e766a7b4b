-- The shape of a mouth, from its pairs: `star` and `triangle_representative` of ramp_boundaries.rs (laws: Stars, Triangles). Assumes nothing.
use Rattle.std.specs.Prelude.{ℕ, Bool, true, false, not, ◌&&◌, List, [], ◌∷◌, length, eqb, Option, None, Some}
use Rattle.definitions.specs.Scan.{any, all, filter, only_if, add_all}
use Rattle.definitions.specs.Grid.{Pair, pair_eq, contains}

-- MouthShape: of one pair, or a star of two inner regions or more about an outer one
pub data MouthShape : Type 0 where
  single : Pair → MouthShape
  star : ℕ → List ℕ → MouthShape

abbrev pub regions_of : List Pair → List ℕ
regions_of [] = []
regions_of (p ∷ l) = p.lo ∷ p.hi ∷ regions_of l

-- the regions of l, each once, in the order in which they first stand
unfoldable pub distinct_regions : List Pair → List ℕ
unfolding add_all
distinct_regions l = add_all [] (regions_of l)

-- those of the first pair that stand in every pair
unfoldable pub common_regions : List Pair → List ℕ
unfolding filter all
common_regions [] = []
common_regions (p ∷ l) = filter (λ r. all (contains r) (p ∷ l)) (p.lo ∷ p.hi ∷ [])

unfoldable pub star_from : List Pair → List ℕ → Option MouthShape
unfolding filter distinct_regions
star_from l [] = None
star_from l (outer ∷ []) = Some (star outer (filter (λ r. not (eqb r outer)) (distinct_regions l)))
star_from l (u ∷ v ∷ w) = None

-- `star` of ramp_boundaries.rs, of an assessment that is a full cut or not and has these pairs
unfoldable pub mouth_shape : Bool → List Pair → Option MouthShape
unfolding star_from common_regions
mouth_shape false l = None
mouth_shape true [] = None
mouth_shape true (p ∷ []) = Some (single p)
mouth_shape true (p ∷ q ∷ l) = star_from (p ∷ q ∷ l) (common_regions (p ∷ q ∷ l))

-- `triangle_representative`, of two full cuts: three regions whose three borders the two spans cut, one border being cut by both
unfoldable pub triangle_representative : List Pair → List Pair → Option (List ℕ)
unfolding distinct_regions all any filter
triangle_representative (p ∷ q ∷ []) (s ∷ t ∷ []) =
    let rs = distinct_regions (p ∷ q ∷ []) in
    only_if
    (eqb (length rs) 3 && all (λ r. any (contains r) (s ∷ t ∷ [])) rs && eqb (length (filter (λ e. any (pair_eq e) (s ∷ t ∷ [])) (p ∷ q ∷ []))) 1)
    rs
triangle_representative [] m = None
triangle_representative (p ∷ []) m = None
triangle_representative (p ∷ q ∷ r ∷ l) m = None
triangle_representative (p ∷ q ∷ []) [] = None
triangle_representative (p ∷ q ∷ []) (s ∷ []) = None
triangle_representative (p ∷ q ∷ []) (s ∷ t ∷ u ∷ m) = None
