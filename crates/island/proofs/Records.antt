-- A region inside the island has the same cells in the map and in the restricted map, so that its record and whether it is anchored are the same.
-- The argument: cell by cell the two labels say alike whether the cell is the region's, and all of its cells are the island's. Assumes `Island`.
use Rattle.std.specs.Prelude.{ℕ, ◌+◌, ◌*◌, ◌/◌, ◌%◌, ◌<◌, ◌≡◌, refl, Bool, ◌&&◌, cond}
use Rattle.std.proofs.Math.Path.{sym, ap}
use Rattle.std.proofs.Common.{ap₂, ◌∙◌}
use Rattle.std.proofs.Math.Bool.{true, false, and-false}
use mathlib.Core.List.{[], ◌∷◌, map}
use Rattle.std.proofs.Math.Dec.{eqb, eqb-zero-suc}
use Rattle.definitions.specs.Scan.{any}
use Rattle.definitions.specs.Grid.{Map, cell_count, cell_at, is_ramp, elevation}
use Rattle.definitions.specs.Spans.{pixels_per_walk_cell}
use Rattle.definitions.specs.Partition.{walkable_at, labels}
use Rattle.definitions.specs.Geometry.{float}
use Rattle.definitions.specs.RegionRecord.{mask_of, region_of}
use Rattle.definitions.specs.Context.{anchored_of}
use Rattle.laws.specs.OrderLaws.Ranks.{rank}
use Rattle.laws.specs.ListLaws.Scans.{any_below, any-picked}
use Rattle.laws.specs.ListLaws.NumberLists.{split}
use Rattle.laws.specs.ListLaws.Below.{below_ext, count_ext}
use Rattle.laws.specs.RegionLaws.Edges.{least_ext, most_ext}
use Rattle.laws.specs.RegionLaws.Regions.{label-blocked, label-beyond}
use Rattle.island.specs.Premises.{has_anchor, Island}
use Rattle.island.specs.Frame.{ren, ren-eqb}
use Rattle.island.specs.Restrict.{restrict, cells_at}
use Rattle.island.proofs.Labels.{label_of, in_r, in_zero, in_label, label_in, label-out}

module _ (M : Map) (isl : ℕ → Bool) (I : Island M isl) where
  abbrev R : ℕ → Bool
  R = in_r M isl

  abbrev S : Map
  S = restrict M isl

  module _ (r : ℕ) (h : R r ≡ true) where
    nonzero : eqb 0 r ≡ false
    nonzero = split R false 0 r (in_zero M isl) h

    -- ---- cells

    mine_in : (c : ℕ) → c < cell_count M → eqb (label_of M c) r ≡ eqb (label_of S c) (ren R r)
    mine_in c l = go (walkable_at M c) refl (isl c) refl
      where
        none : label_of S c ≡ 0 → eqb (label_of M c) r ≡ false → eqb (label_of M c) r ≡ eqb (label_of S c) (ren R r)
        none e q = q ∙ sym (ap (λ x. eqb x (ren R r)) e ∙ eqb-zero-suc (rank R r))

        go : (b : Bool) → walkable_at M c ≡ b → (i : Bool) → isl c ≡ i → eqb (label_of M c) r ≡ eqb (label_of S c) (ren R r)
        go true w true i = ren-eqb R (label_of M c) r (in_label M isl I c l w ∙ i) h ∙ ap (λ x. eqb x (ren R r)) (sym (label_in M isl I c l w i))
        go true w false i = none (label-out M isl I c l (ap₂ ◌&&◌ w i)) (split R false (label_of M c) r (in_label M isl I c l w ∙ i) h)
        go false w b i = none (label-out M isl I c l (ap₂ ◌&&◌ w i)) (ap (λ x. eqb x r) (label-blocked M c l w) ∙ nonzero)

    mine_isl : (c : ℕ) → c < cell_count M → isl c ≡ false → eqb (label_of M c) r ≡ false
    mine_isl c l i = mine_in c l ∙ ap (λ x. eqb x (ren R r)) (label-out M isl I c l (ap (λ b. walkable_at M c && b) i ∙ and-false (walkable_at M c))) ∙ eqb-zero-suc (rank R r)

    -- with a test of the cell's byte
    mine-cell : (f : ℕ → Bool) (c : ℕ) → c < cell_count M → (eqb (label_of M c) r && f (cell_at M c)) ≡ (eqb (label_of S c) (ren R r) && f (cell_at S c))
    mine-cell f c l = go (isl c) refl ∙ ap₂ (λ x v. x && f v) (mine_in c l) (sym (cells_at M isl c l))
      where
        go : (b : Bool) → isl c ≡ b → (eqb (label_of M c) r && f (cell_at M c)) ≡ (eqb (label_of M c) r && f (cond b (cell_at M c) 0))
        go true i = refl
        go false i = rw (mine_isl c l i) refl

    -- ---- the record

    abbrev mine_at : Map → ℕ → ℕ → ℕ → Bool
    mine_at K k e c = eqb (label_of K c) k && eqb (elevation (cell_at K c)) e

    pub region_in : region_of M (labels M) r ≡ region_of S (labels S) (ren R r)
    unfolding region_of cell_count
    region_in =
        λ i.
        record {
          cells = count_ext (cell_count M) _ _ mine_in i;
          min_x_lem = float (least_ext (cell_count M) _ _ (λ c. c % M.width * pixels_per_walk_cell) mine_in i);
          min_y_lem = float (least_ext (cell_count M) _ _ (λ c. c / M.width * pixels_per_walk_cell) mine_in i);
          max_x_lem = float (most_ext (cell_count M) _ _ (λ c. c % M.width * pixels_per_walk_cell + pixels_per_walk_cell) mine_in i);
          max_y_lem = float (most_ext (cell_count M) _ _ (λ c. c / M.width * pixels_per_walk_cell + pixels_per_walk_cell) mine_in i);
          ramp_cells_lem = count_ext (cell_count M) _ _ (mine-cell is_ramp) i;
          elevations = mask_of (λ e. below_ext (cell_count M) (mine_at M r e) (mine_at S (ren R r) e) (mine-cell (λ v. eqb (elevation v) e)) i);
          elevation_counts_lem = map (λ e. count_ext (cell_count M) (mine_at M r e) (mine_at S (ren R r) e) (mine-cell (λ v. eqb (elevation v) e)) i) (0 ∷ 1 ∷ 2 ∷ 3 ∷ []);
        }

    -- ---- anchors

    pub anchored_in : anchored_of M (labels M) r ≡ anchored_of S (labels S) (ren R r)
    unfolding anchored_of has_anchor
    anchored_in =
        any_below (λ c. eqb (label_of M c) r) (cell_count M) M.anchors (λ a l. ap (λ x. eqb x r) (label-beyond M a l) ∙ nonzero)
        ∙ below_ext (cell_count M) _ _ (λ c l. go c l (isl c) refl)
        ∙ sym (any-picked (λ c. isl c && has_anchor M c) (λ c. c) (λ c. eqb (label_of S c) (ren R r)) (cell_count M))
      where
        go : (c : ℕ) → c < cell_count M → (b : Bool) → isl c ≡ b → (any (eqb c) M.anchors && eqb (label_of M c) r) ≡ ((b && any (eqb c) M.anchors) && eqb (label_of S c) (ren R r))
        go c l true i = ap (λ x. any (eqb c) M.anchors && x) (mine_in c l)
        go c l false i = ap (λ x. any (eqb c) M.anchors && x) (mine_isl c l i) ∙ and-false (any (eqb c) M.anchors)
