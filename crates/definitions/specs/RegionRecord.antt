-- Region records (SPECIFICATION 9; RegionStats of context.rs) and what is asked of one: corners, dominance (junctions.rs), flatness.
-- Assumes nothing.
use Rattle.std.specs.Prelude.{ℕ, zero, suc, ◌+◌, ◌*◌, ◌/◌, ◌%◌, ◌^◌, ◌<◌, min, max, ◌≡◌, Bool, false, ◌&&◌, ◌||◌, cond, List, [], ◌∷◌, map, get_or, eqb, ltb, leb, Float, Option, None, Some}
use Rattle.definitions.specs.Scan.{any_below_lem, count_below, bit}
use Rattle.definitions.specs.Grid.{Map, cell_count, cell_at, is_ramp, elevation}
use Rattle.definitions.specs.Spans.{pixels_per_walk_cell}
use Rattle.definitions.specs.Geometry.{Point, float}

-- `ramp_cells_lem` counts the cells with the ramp bit (document 02, request 6). `elevations` is the mask: bit e is set where a cell has elevation e. `elevation_counts_lem` has one
-- count for each elevation 0 to 3.
pub record Region : Type 0 where
  pub cells : ℕ
  pub min_x_lem : Float
  pub min_y_lem : Float
  pub max_x_lem : Float
  pub max_y_lem : Float
  pub ramp_cells_lem : ℕ
  pub elevations : ℕ
  pub elevation_counts_lem : List ℕ

-- the empty record: zero throughout
unfoldable pub empty_region : Region
unfolding float
empty_region =
    record {
      cells = 0;
      min_x_lem = float 0;
      min_y_lem = float 0;
      max_x_lem = float 0;
      max_y_lem = float 0;
      ramp_cells_lem = 0;
      elevations = 0;
      elevation_counts_lem = 0 ∷ 0 ∷ 0 ∷ 0 ∷ [];
    }

-- ---- the record of a region

-- the least and the most that f gives at the numbers below n that pass p; 0 where there is none
unfoldable pub least : ℕ → (ℕ → Bool) → (ℕ → ℕ) → ℕ
unfolding any_below_lem
least zero p f = 0
least (suc n) p f = cond (p n) (cond (any_below_lem n p) (min (least n p f) (f n)) (f n)) (least n p f)

unfoldable pub most : ℕ → (ℕ → Bool) → (ℕ → ℕ) → ℕ
most zero p f = 0
most (suc n) p f = cond (p n) (max (most n p f) (f n)) (most n p f)

-- the mask of the elevations 0 to 3 that pass p
abbrev pub mask_of : (ℕ → Bool) → ℕ
mask_of p = bit (p 0) + 2 * bit (p 1) + 4 * bit (p 2) + 8 * bit (p 3)

-- From the cells whose label is r, a number from 1 on. Edges are in pixels: exact as f64, so that the Rust's minima and maxima of floats are these.
-- Of a number that no cell has it is the empty record.
unfoldable pub region_of : Map → List ℕ → ℕ → Region
unfolding cell_count count_below least most any_below_lem float
region_of M ls r =
    let n = cell_count M in
    let mine : ℕ → Bool = λ c. eqb (get_or ls c 0) r in
    let mine_at : ℕ → ℕ → Bool = λ e c. mine c && eqb (elevation (cell_at M c)) e in
    record {
      cells = count_below n mine;
      min_x_lem = float (least n mine (λ c. c % M.width * pixels_per_walk_cell));
      min_y_lem = float (least n mine (λ c. c / M.width * pixels_per_walk_cell));
      max_x_lem = float (most n mine (λ c. c % M.width * pixels_per_walk_cell + pixels_per_walk_cell));
      max_y_lem = float (most n mine (λ c. c / M.width * pixels_per_walk_cell + pixels_per_walk_cell));
      ramp_cells_lem = count_below n (λ c. mine c && is_ramp (cell_at M c));
      elevations = mask_of (λ e. any_below_lem n (mine_at e));
      elevation_counts_lem = map (λ e. count_below n (mine_at e)) (0 ∷ 1 ∷ 2 ∷ 3 ∷ []);
    }

-- ---- of a record

-- `has_ramp` of RegionStats: "The flag's sense is a count above zero"
abbrev pub has_ramp : Region → Bool
has_ramp s = ltb 0 s.ramp_cells_lem

-- `corners` of RegionStats, in its order
unfoldable pub corners : Region → List Point
corners s =
    record { px = s.min_x_lem; py = s.min_y_lem } ∷ record { px = s.min_x_lem; py = s.max_y_lem } ∷ record { px = s.max_x_lem; py = s.min_y_lem } ∷ record { px = s.max_x_lem; py = s.max_y_lem } ∷ []

abbrev pub elevation_count : Region → ℕ → ℕ
elevation_count s e = get_or s.elevation_counts_lem e 0

-- ---- dominance: `dominant_elevation` of junctions.rs, with the share of document 02, request 2

-- of two elevations, by the counts of all, the one of more cells; of equal counts the former
abbrev pub better : List ℕ → ℕ → ℕ → ℕ
better counts best e = cond (ltb (get_or counts best 0) (get_or counts e 0)) e best

-- the elevation of most cells; of equal counts the lower
unfoldable pub most_common_elevation : List ℕ → ℕ
most_common_elevation counts = better counts (better counts (better counts 0 1) 2) 3

-- "the whole percent and the exact remainder"
pub record Share : Type 0 where
  pub percent : ℕ
  pub remainder : ℕ

-- what a share says, of a count of some cells: "count × 100 = percent × cells + remainder, remainder below cells"
pub record IsShare (count n : ℕ) (h : Share) : Type 0 where
  pub exact : count * 100 ≡ h.percent * n + h.remainder
  pub below : h.remainder < n

-- the one share that `IsShare` allows (laws: Shares). "A region with no cells has no share"
unfoldable pub share_of : ℕ → ℕ → Option Share
share_of count zero = None
share_of count (suc n) = Some (record { percent = count * 100 / suc n; remainder = count * 100 % suc n })

pub record Dominance : Type 0 where
  pub elevation : ℕ
  pub share : Option Share

-- of n cells, with a count for each elevation: the elevation of most cells, and its share
unfoldable pub dominance_of : ℕ → List ℕ → Dominance
unfolding most_common_elevation share_of
dominance_of n counts =
    let e = most_common_elevation counts in
    record { elevation = e; share = share_of (get_or counts e 0) n }

unfoldable pub dominance : Region → Dominance
unfolding dominance_of
dominance s = dominance_of s.cells s.elevation_counts_lem

-- "Unions accept at 99 percent": no share is not 99 percent
abbrev pub accepts : Option Share → Bool
accepts None = false
accepts (Some h) = leb 99 h.percent

-- both are accepted, and of one elevation
unfoldable pub same_dominance : Region → Region → Bool
unfolding dominance
same_dominance s t =
    let a = dominance s in
    let b = dominance t in
    accepts a.share && accepts b.share && eqb a.elevation b.elevation

-- ---- flatness

-- bit e of a mask of eight bits
abbrev pub has_bit : ℕ → ℕ → Bool
has_bit mask e = eqb (mask / 2 ^ e % 2) 1

-- `(first.elevations | second.elevations).count_ones()`
unfoldable pub joined_ones : Region → Region → ℕ
unfolding count_below
joined_ones s t = count_below 8 (λ e. has_bit s.elevations e || has_bit t.elevations e)

-- strictly flat, of a union: exactly one bit set in the joined elevation mask. `flat` of junctions.rs is the same of one record twice.
unfoldable pub strictly_flat : Region → Region → Bool
unfolding joined_ones
strictly_flat s t = eqb (joined_ones s t) 1
