-- The ports of regions, read off the list of full pairs. Definitions only; assumes nothing.
use Rattle.std.specs.Prelude.{ℕ, ◌-◌, ◌≤◌, ◌≡◌, Bool, ◌&&◌, ◌||◌, List, length, take, get_or, Option, None}
use Rattle.std.proofs.Math.Bool.{not}
use Rattle.std.proofs.Math.Dec.{eqb}
use Rattle.definitions.specs.Scan.{any_below_lem, count_below, collect, only_if}
use Rattle.definitions.specs.Grid.{Pair, contains}
use Rattle.definitions.specs.Context.{holds}
use Rattle.definitions.specs.Junctions.{fits_union}
use Rattle.region_pairs.specs.declared.Pair as declared
use Rattle.context.specs.Rows.{full_pair_of}

module _ (full : List (Option declared.Pair)) where
  -- the full pair of boundary j
  abbrev pub pair_of : ℕ → Option Pair
  pair_of j = full_pair_of (get_or full j None)

  unfoldable pub names : ℕ → ℕ → Bool
  names r j = holds (pair_of j) (contains r)

  unfoldable pub is_fit : Pair → ℕ → Bool
  is_fit p j = holds (pair_of j) (fits_union p)

  -- a full pair that names r, at which the walk of the union of p at boundary i stops
  unfoldable pub is_unfit : ℕ → Pair → ℕ → ℕ → Bool
  unfolding names is_fit
  is_unfit i p r j = names r j && (not (eqb j i) && not (is_fit p j))

  -- none of them is unfit, and every incident of r is one of them
  unfoldable pub region_fits : List ℕ → ℕ → ℕ → Pair → ℕ → Bool
  unfolding any_below_lem is_unfit count_below names
  region_fits counts count i p r = not (any_below_lem count (is_unfit i p r)) && eqb (count_below count (names r)) (get_or counts (r - 1) 0)

  -- the walk over both regions
  unfoldable pub walk_fits : List ℕ → ℕ → ℕ → Pair → Bool
  unfolding region_fits
  walk_fits counts count i p = region_fits counts count i p p.lo && region_fits counts count i p p.hi

  -- a full pair that names a region of p
  abbrev pub names_either : Pair → ℕ → Bool
  names_either p j = names p.lo j || names p.hi j

  unfoldable pub is_port : ℕ → Pair → ℕ → Bool
  unfolding names
  is_port i p j = not (eqb j i) && names_either p j

  -- the boundaries below `count` whose full pair names a region of p, in ascending order
  unfoldable pub incidents_of : ℕ → Pair → List ℕ
  unfolding collect names
  incidents_of count p = collect count (λ j. only_if (names_either p j) j)

  -- the first n numbers of the list are they
  pub record Listed (count : ℕ) (p : Pair) (incidents : List ℕ) (n : ℕ) : Type 0 where
    pub few : n ≤ count
    pub long : n ≤ length incidents
    pub each : take n incidents ≡ incidents_of count p
