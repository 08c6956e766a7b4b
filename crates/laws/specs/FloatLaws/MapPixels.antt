-- The coordinates of a map that passes checks 1 and 7 of the table of SPECIFICATION 4: its sides are 1 to 1,024 cells and its boundaries' endpoints are on it, so that
-- endpoints are pixels up to 8,192. So are the edges of a region, the least and the most of coordinates of its cells. Assumes nothing.
use Rattle.std.specs.Prelude.{◌≡◌, ℕ, ◌+◌, ◌*◌, ◌/◌, ◌%◌, ◌≤◌, ◌<◌, Bool, true, ◌&&◌, List, get_or, eqb, None}
use Rattle.std.proofs.Common.{zero-le, le_trans, mul-le-mul_left, mod-lt, div-lt_iff_lt-mul, arith, leb-true}
use Rattle.definitions.specs.Limits.{is_side, max_side}
use Rattle.definitions.specs.Grid.{Position, Segment, Map, map_of, no_boundary, cell_count}
use Rattle.definitions.specs.Spans.{pixels_per_walk_cell}
use Rattle.definitions.specs.Partition.{labels}
use Rattle.definitions.specs.RegionRecord.{region_of}
use Rattle.definitions.specs.Context.{context_of}
use Rattle.definitions.specs.Refusals.{sides_fault, is_on_map, both_on_map, boundaries_fault}
use Rattle.laws.specs.ListLaws.Tests.{both}
use Rattle.laws.specs.ListLaws.Lists.{All, all_map}
use Rattle.laws.specs.ListLaws.Members.{all_default}
use Rattle.laws.specs.ListLaws.NoFault.{no_fault_lem}
use Rattle.laws.specs.RegionLaws.Edges.{least_le, most_le}
use Rattle.laws.specs.TableLaws.AcceptedCalls.{boundaries-fit, fits-parts}
use Rattle.laws.specs.FloatLaws.Pixels.{max_pixel, PixelPosition, PixelSegment, PixelRegion, PixelContext, float-pixel}

-- what checks 1 and 7 say of sides and endpoints
pub record OnMap (M : Map) : Type 0 where
  pub wide : is_side M.width ≡ true
  pub high : is_side M.height ≡ true
  pub ends : All (λ b. both_on_map M.width M.height b.endpoints ≡ true) M.boundaries

-- ---- what the checks found

pub lent-on_map : (w h : ℕ) (cells spans boundaries anchors : List ℕ) → sides_fault w h ≡ None → boundaries_fault w h boundaries ≡ None
    → OnMap (map_of w h cells spans boundaries anchors)
unfolding map_of
lent-on_map w h cells spans boundaries anchors s b =
    let sides = both (is_side w) (is_side h) (no_fault_lem (is_side w && is_side h) 0 s) in
    record { wide = sides.0; high = sides.1; ends = all_map (λ c k. (fits-parts w h c k).0) (boundaries-fit w h boundaries b) }

-- ---- endpoints

pub side-bounds : (n : ℕ) → is_side n ≡ true → (1 ≤ n) × (n ≤ max_side)
side-bounds n h =
    let t = both _ _ h in
    (leb-true 1 n t.0, leb-true n max_side t.1)

module _ (w h : ℕ) (hw : is_side w ≡ true) (hh : is_side h ≡ true) where
  position-pixel : (p : Position) → is_on_map w h p ≡ true → PixelPosition p
  position-pixel p k =
      let t = both _ _ k in
      record {
        x-le = le_trans (leb-true p.x (pixels_per_walk_cell * w) t.0) (mul-le-mul_left pixels_per_walk_cell (side-bounds w hw).1);
        y-le = le_trans (leb-true p.y (pixels_per_walk_cell * h) t.1) (mul-le-mul_left pixels_per_walk_cell (side-bounds h hh).1);
      }

  pub segment-pixel : (s : Segment) → both_on_map w h s ≡ true → PixelSegment s
  segment-pixel s k =
      let t = both _ _ k in
      record { first = position-pixel s.a t.0; second = position-pixel s.b t.1 }

-- ---- regions

pub region-pixel : (M : Map) → is_side M.width ≡ true → is_side M.height ≡ true → (ls : List ℕ) (r : ℕ) → PixelRegion (region_of M ls r)
unfolding region_of
region-pixel M hw hh ls r =
    record {
      left = float-pixel _ (least_le (cell_count M) mine _ max_pixel (λ c l. start (column c)));
      top = float-pixel _ (least_le (cell_count M) mine _ max_pixel (λ c l. start (row c l)));
      right = float-pixel _ (most_le (cell_count M) mine _ max_pixel (λ c l. end (column c)));
      bottom = float-pixel _ (most_le (cell_count M) mine _ max_pixel (λ c l. end (row c l)));
    }
  where
    mine : ℕ → Bool
    mine c = eqb (get_or ls c 0) r

    start : {k : ℕ} → k < max_side → k * pixels_per_walk_cell ≤ max_pixel
    start h = omega arith

    end : {k : ℕ} → k < max_side → k * pixels_per_walk_cell + pixels_per_walk_cell ≤ max_pixel
    end h = omega arith

    column : (c : ℕ) → c % M.width < max_side
    column c =
        let s = side-bounds M.width hw in
        le_trans (mod-lt c s.0) s.1

    row : (c : ℕ) → c < cell_count M → c / M.width < max_side
    row c l = le_trans ((div-lt_iff_lt-mul (side-bounds M.width hw).0).1 l) (side-bounds M.height hh).1

-- ---- the context

pub map-pixel : {M : Map} → OnMap M → PixelContext (context_of M)
unfolding context_of
map-pixel {M} h =
    record {
      ends = all_default {P = λ b. PixelSegment b.endpoints} no_boundary nowhere
          (all_map (λ b k. segment-pixel M.width M.height h.wide h.high b.endpoints k) h.ends);
      edges = region-pixel M h.wide h.high (labels M);
    }
  where
    nowhere : PixelSegment no_boundary.endpoints
    nowhere = record { first = record { x-le = zero-le; y-le = zero-le }; second = record { x-le = zero-le; y-le = zero-le } }
