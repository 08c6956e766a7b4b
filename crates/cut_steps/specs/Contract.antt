-- The words of contracts over the sides, the cells and the spans as lent. Definitions only; assumes nothing.
use Rattle.std.specs.Prelude.{ℕ, ◌*◌, ◌/◌, ◌≤◌, ◌<◌, ◌≡◌, true, List, map, length}
use Rattle.definitions.specs.Limits.{max_side, numbers_per_span}
use Rattle.definitions.specs.Scan.{run}
use Rattle.definitions.specs.Grid.{Map, segment_at}
use Rattle.definitions.specs.Refusals.{both_on_map, endpoints_differ}

-- M has these sides, cells and spans. (Nothing else of M matters to the partition.)
pub record SpanMap (w h : ℕ) (bytes list : List ℕ) (M : Map) : Type 0 where
  pub width : M.width ≡ w
  pub height : M.height ≡ h
  pub cells : M.cells ≡ bytes
  pub spans : M.spans ≡ map (λ i. segment_at list (numbers_per_span * i)) (run 0 (length list / numbers_per_span))

-- what checks 1, 2, 5 and 6 leave: sides within the limits, a byte for each cell, and spans on the map whose endpoints differ
pub record Checked (w h : ℕ) (cells spans : List ℕ) : Type 0 where
  pub wide : 1 ≤ w
  pub narrow : w ≤ max_side
  pub tall : 1 ≤ h
  pub short : h ≤ max_side
  pub cells_long : length cells ≡ h * w
  pub on_map : (i : ℕ) → i < length spans / numbers_per_span → both_on_map w h (segment_at spans (numbers_per_span * i)) ≡ true
  pub differ : (i : ℕ) → i < length spans / numbers_per_span → endpoints_differ (segment_at spans (numbers_per_span * i)) ≡ true
