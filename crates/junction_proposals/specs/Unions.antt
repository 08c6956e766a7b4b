-- The shape of a union, read off the lists: `union_shape` of Junctions.antt with its ports as full pairs. Definitions only; assumes nothing.
use Rattle.std.specs.Prelude.{ℕ, ◌+◌, ◌-◌, ◌*◌, ◌%◌, Bool, ◌&&◌, ◌||◌, List, get_or, Option, None, Some}
use Rattle.std.proofs.Math.Bool.{not, cond}
use Rattle.std.proofs.Math.Dec.{eqb, ltb, leb}
use Rattle.definitions.specs.Limits.{numbers_per_boundary}
use Rattle.definitions.specs.Scan.{any_below_lem, all_below, count_below, bit}
use Rattle.definitions.specs.Grid.{Pair, segment_at}
use Rattle.definitions.specs.Geometry.{center}
use Rattle.definitions.specs.Context.{holds}
use Rattle.definitions.specs.Junctions.{exterior_of, within_distance, max_port_distance_pixels}
use Rattle.region_pairs.specs.declared.Pair as declared
use Rattle.junction_proposals.specs.Ports.{pair_of, is_port, walk_fits}
use Rattle.junction_proposals.specs.declared.unions.Exteriors.{Exteriors}
use Rattle.junction_proposals.specs.declared.unions.Exteriors.TheVariants as found

-- ---- exteriors

module _ (full : List (Option declared.Pair)) (i : ℕ) (p : Pair) where
  -- port j leads to region e
  unfoldable pub leads_to : ℕ → ℕ → Bool
  unfolding is_port
  leads_to e j = is_port full i p j && holds (pair_of full j) (λ q. eqb (exterior_of p q) e)

  -- to a region that no earlier port leads to
  unfoldable pub leads_anew : ℕ → Bool
  unfolding is_port any_below_lem leads_to
  leads_anew j = is_port full i p j && holds (pair_of full j) (λ q. not (any_below_lem j (leads_to (exterior_of p q))))

-- what one exterior more makes of those found: from the third on they are not told apart
abbrev pub with_exterior : Exteriors → ℕ → Exteriors
with_exterior found.None e = found.One e
with_exterior (found.One a) e = cond (eqb a e) (found.One a) (found.Two a e)
with_exterior (found.Two a b) e = cond (eqb a e || eqb b e) (found.Two a b) found.Many
with_exterior found.Many e = found.Many

-- and what boundary j makes of them, where its full pair is known, if it is not i
abbrev pub with_pair : ℕ → Pair → Exteriors → ℕ → Option Pair → Exteriors
with_pair i p exteriors j None = exteriors
with_pair i p exteriors j (Some q) = cond (eqb j i) exteriors (with_exterior exteriors (exterior_of p q))

abbrev pub with_incident : List (Option declared.Pair) → ℕ → Pair → Exteriors → ℕ → Exteriors
with_incident full i p exteriors j = with_pair i p exteriors j (pair_of full j)

-- ---- boundaries

module _ (boundaries : List ℕ) where
  abbrev pub width_at : ℕ → ℕ
  width_at i = get_or boundaries (numbers_per_boundary * i + 4) 0

  abbrev pub no_ramp_at : ℕ → Bool
  no_ramp_at i = eqb (get_or boundaries (numbers_per_boundary * i + 5) 0) 0

  unfoldable pub is_near : ℕ → ℕ → Bool
  unfolding within_distance center max_port_distance_pixels
  is_near i j = within_distance (center (segment_at boundaries (numbers_per_boundary * i))) (center (segment_at boundaries (numbers_per_boundary * j))) max_port_distance_pixels

-- region r is anchored
abbrev pub mark_at : List ℕ → ℕ → Bool
mark_at marks r = eqb (get_or marks (r - 1) 0 % 2) 1

abbrev pub marks_of : List ℕ → Pair → ℕ
marks_of marks p = bit (mark_at marks p.lo) + bit (mark_at marks p.hi)

-- ---- the shape

-- port j of boundary i is near, and no wider where exactly one region of the union is anchored
unfoldable pub passes_at : List ℕ → Bool → ℕ → ℕ → Bool
unfolding is_near
passes_at boundaries one i j = (not one || leb (width_at boundaries j) (width_at boundaries i)) && is_near boundaries i j

module _ (boundaries : List ℕ) (full : List (Option declared.Pair)) (count i : ℕ) (p : Pair) where
  unfoldable pub ports_pass : Bool → Bool
  unfolding all_below is_port passes_at
  ports_pass one = all_below count (λ j. not (is_port full i p j) || passes_at boundaries one i j)

  unfoldable pub shape_at : List ℕ → List ℕ → Bool
  unfolding walk_fits count_below leads_anew ports_pass
  shape_at counts marks =
      no_ramp_at boundaries i && ltb (marks_of marks p) 2 && walk_fits full counts count i p && leb 3 (count_below count (leads_anew full i p))
      && ports_pass (eqb (marks_of marks p) 1)

-- of a boundary that may be no full pair
unfoldable pub is_union_at : List ℕ → List (Option declared.Pair) → List ℕ → List ℕ → ℕ → ℕ → Bool
unfolding shape_at
is_union_at boundaries full counts marks count i = holds (pair_of full i) (λ p. shape_at boundaries full count i p counts marks)
