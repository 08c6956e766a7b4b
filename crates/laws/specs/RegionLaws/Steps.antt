-- Every step of the grid, cut or not, joins two walkable cells of the grid, of which the first has the smaller number; and what holds of every step holds of the steps
-- in each list of them. Holds of every map, also of one whose list of cells is shorter than the grid, since a cell beyond the list is not walkable. Assumes nothing.
use Rattle.std.specs.Prelude.{ℕ, ◌+◌, ◌<◌, ◌≡◌, refl, true, ◌&&◌, leb}
use Rattle.std.proofs.Math.Bool.{Bool}
use mathlib.Core.List.{map}
use Rattle.std.proofs.Math.Dec.{ltb}
use Rattle.std.proofs.Math.Arith.{digits_lt}
use Rattle.std.proofs.Common.{ltb-true}
use Rattle.definitions.specs.Scan.{filter}
use Rattle.definitions.specs.Grid.{Map, Position, at, Pair, toward, index, cell_count, cell_at, is_walkable, walkable, is_step, directions, neighbors, onward, edge, position_of, canonical, span_of}
use Rattle.definitions.specs.Spans.{cuts, candidate_positions, cut_steps}
use Rattle.definitions.specs.Partition.{all_steps, uncut, walkable_at}
use Rattle.laws.specs.ListLaws.Lists.{All, all_map, all_both, all_filter}
use Rattle.laws.specs.OrderLaws.Ranks.{gather-all}
use Rattle.laws.specs.RegionLaws.Merging.{Within}
use Rattle.laws.specs.ListLaws.Tests.{both}
use Rattle.laws.specs.ListLaws.Members.{filter_passes, all-mapped, all-joined}

pub record Step (M : Map) (e : Pair) : Type 0 where
  pub within : Within (cell_count M) e
  pub ordered : e.lo < e.hi
  pub low_walkable : walkable_at M e.lo ≡ true
  pub high_walkable : walkable_at M e.hi ≡ true

-- what `is_step` tests, test by test
pub record StepParts (M : Map) (p d : Position) : Type 0 where
  pub near_x : leb d.x 2 ≡ true
  pub near_y : leb d.y 2 ≡ true
  pub right : leb 1 (p.x + d.x) ≡ true
  pub down : leb 1 (p.y + d.y) ≡ true
  pub far : walkable M (toward p d) ≡ true
  pub near : walkable M p ≡ true
  pub side : walkable M (at (toward p d).x p.y) ≡ true
  pub under : walkable M (at p.x (toward p d).y) ≡ true

pub step-parts : (M : Map) (p d : Position) → is_step M p d ≡ true → StepParts M p d
unfolding is_step
step-parts M p d h =
    let a = both _ (walkable M (at p.x (toward p d).y)) h in
    let b = both _ (walkable M (at (toward p d).x p.y)) a.0 in
    let c = both _ (walkable M p) b.0 in
    let e = both _ (walkable M (toward p d)) c.0 in
    let f = both _ (leb 1 (p.y + d.y)) e.0 in
    let g = both _ (leb 1 (p.x + d.x)) f.0 in
    let k = both (leb d.x 2) (leb d.y 2) g.0 in
    record { near_x = k.0; near_y = k.1; right = g.1; down = f.1; far = e.1; near = c.1; side = b.1; under = a.1 }

pub step-whole : (M : Map) (p d : Position) → StepParts M p d → is_step M p d ≡ true
unfolding is_step
step-whole M p d f = rw (f.near_x, f.near_y, f.right, f.down, f.far, f.near, f.side, f.under) refl

module _ (M : Map) where
  -- a walkable position is a cell of the grid
  pub walkable-cell : (p : Position) → walkable M p ≡ true → (index M p < cell_count M) × (walkable_at M (index M p) ≡ true)
  unfolding walkable cell_count
  walkable-cell p h =
      let b = both (ltb p.x M.width && ltb p.y M.height) (is_walkable (cell_at M (index M p))) h in
      let a = both (ltb p.x M.width) (ltb p.y M.height) b.0 in
      (digits_lt (ltb-true _ _ a.1) (ltb-true _ _ a.0), b.1)

  -- ---- what holds of every step from a cell to one of larger number holds of all steps, of the uncut ones and of those that a span cuts

  module _ (P : Pair → Type 0) (each : (p d : Position) → is_step M p d ≡ true → index M p < index M (toward p d) → P (edge M p (toward p d))) where
    onward-all : (p : Position) → All (λ q. P (edge M p q)) (onward M p)
    unfolding onward neighbors
    onward-all p = all_map (λ q h. h.0 (ltb-true _ _ h.1)) (all_both (all_filter later near) (filter_passes later (neighbors M p)))
      where
        later : Position → Bool
        later q = ltb (index M p) (index M q)

        near : All (λ q. index M p < index M q → P (edge M p q)) (neighbors M p)
        near = all-mapped (toward p) (all_map (each p) (filter_passes (is_step M p) directions))

    pub all_steps-all : All P (all_steps M)
    unfolding all_steps
    all_steps-all = gather-all P (λ c. map (edge M (position_of M c)) (onward M (position_of M c))) (cell_count M) (λ c. all-mapped (edge M (position_of M c)) (onward-all (position_of M c)))

    pub uncut-all : All P (uncut M)
    unfolding uncut
    uncut-all = all_filter _ all_steps-all

    pub cut_all : (s : ℕ) → All P (cut_steps M s)
    unfolding cut_steps
    cut_all s =
        all-joined (λ p. map (edge M p) (filter (cuts (canonical (span_of M s)) p) (onward M p))) (candidate_positions M.width M.height (canonical (span_of M s)))
        (λ p. all-mapped (edge M p) (all_filter _ (onward-all p)))

  pub step_is : (p d : Position) → is_step M p d ≡ true → index M p < index M (toward p d) → Step M (edge M p (toward p d))
  step_is p d h l =
      let f = step-parts M p d h in
      let a = walkable-cell p f.near in
      let b = walkable-cell (toward p d) f.far in
      record { within = record { lo = a.0; hi = b.0 }; ordered = l; low_walkable = a.1; high_walkable = b.1 }

  pub all_steps-steps : All (Step M) (all_steps M)
  all_steps-steps = all_steps-all (Step M) step_is

  pub uncut-steps : All (Step M) (uncut M)
  uncut-steps = uncut-all (Step M) step_is

  pub cut_steps-steps : (s : ℕ) → All (Step M) (cut_steps M s)
  cut_steps-steps = cut_all (Step M) step_is
