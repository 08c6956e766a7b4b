-- What is known of the record of some cells (`record_where`): no count exceeds the number of cells, and its edges are whole pixels. Assumes nothing.
use Prim.Native.Nat.{ℕ, zero, suc, ◌+◌, ◌*◌, ◌%◌, ◌^◌, ◌≤◌, ◌<◌, zero-le}
use native.Mathlib.Omega.{arith}
use native.Mathlib.Nat.{le_trans, mod-lt}
use mathlib.Core.Path.{◌≡◌, refl, subst}
use mathlib.Core.Bool.{Bool, true, false, ◌&&◌}
use mathlib.Core.List.{List}
use lib.ListN.{get_or}
use lib.Dec.{eqb}
use Rattle.definitions.specs.Scan.{count_below, bit}
use Rattle.definitions.specs.Limits.{is_side, max_side}
use Rattle.definitions.specs.Grid.{Map, cell_count, cell_at, is_ramp, elevation}
use Rattle.definitions.specs.Spans.{pixels_per_walk_cell}
use Rattle.definitions.specs.Geometry.{float}
use Rattle.definitions.specs.RegionRecord.{elevation_count, region_of}
use Rattle.laws.specs.ListLaws.ScanSteps.{count-le}
use Rattle.laws.specs.RegionLaws.Edges.{least_le, most_le}
use Rattle.laws.specs.FloatLaws.MapPixels.{side-bounds}
use Rattle.context.specs.Records.{max_cells, Counted}
use Rattle.context.proofs.RecordLaws.{record_where, region_where}

count-among : (p g : ℕ → Bool) (n : ℕ) → count_below n (λ c. p c && g c) ≤ count_below n p
unfolding count_below
count-among p g zero = zero-le
count-among p g (suc n) = go (p n) (g n) (count-among p g n)
  where
    go : (a b : Bool) {k m : ℕ} → k ≤ m → k + bit (a && b) ≤ m + bit a
    go true true h = omega arith
    go true false h = omega arith
    go false b h = omega arith

module _ (M : Map) (p : ℕ → Bool) where
  pub where_cells : (record_where M p).cells ≡ count_below (cell_count M) p
  unfolding record_where
  where_cells = refl

  pub where_counted : cell_count M ≤ max_cells → Counted (record_where M p)
  unfolding record_where
  where_counted h =
      record {
        few = le_trans (count-le p (cell_count M)) h;
        ramps = count-among p (λ c. is_ramp (cell_at M c)) (cell_count M);
        each = each;
      }
    where
      among : (e : ℕ) → count_below (cell_count M) (λ c. p c && eqb (elevation (cell_at M c)) e) ≤ count_below (cell_count M) p
      among e = count-among p (λ c. eqb (elevation (cell_at M c)) e) (cell_count M)

      each : (e : ℕ) → elevation_count (record_where M p) e ≤ (record_where M p).cells
      each zero = among 0
      each (suc zero) = among 1
      each (suc (suc zero)) = among 2
      each (suc (suc (suc zero))) = among 3
      each (suc (suc (suc (suc e)))) = zero-le

  -- the edges to the left and to the right
  module _ (hw : is_side M.width ≡ true) where
    column : (c : ℕ) → c % M.width < max_side
    column c =
        let s = side-bounds M.width hw in
        le_trans (mod-lt c s.0) s.1

    start : {k : ℕ} → k < max_side → k * pixels_per_walk_cell ≤ 2 ^ 53
    start h = omega arith

    end : {k : ℕ} → k < max_side → k * pixels_per_walk_cell + pixels_per_walk_cell ≤ 2 ^ 53
    end h = omega arith

    pub where_left : (k : ℕ) × ((k ≤ 2 ^ 53) × ((record_where M p).min_x_lem ≡ float k))
    unfolding record_where
    where_left = (_, (least_le (cell_count M) p (λ c. c % M.width * pixels_per_walk_cell) (2 ^ 53) (λ d l. start (column d)), refl))

    pub where_right : (k : ℕ) × ((k ≤ 2 ^ 53) × ((record_where M p).max_x_lem ≡ float k))
    unfolding record_where
    where_right = (_, (most_le (cell_count M) p (λ c. c % M.width * pixels_per_walk_cell + pixels_per_walk_cell) (2 ^ 53) (λ d l. end (column d)), refl))

pub region-counted : (M : Map) (ls : List ℕ) (r : ℕ) → cell_count M ≤ max_cells → Counted (region_of M ls r)
region-counted M ls r h = subst Counted (region_where M ls r) (where_counted M (λ c. eqb (get_or ls c 0) r) h)
