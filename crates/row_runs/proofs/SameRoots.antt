-- The names that all rows of a map leave are the roots of definitions: a cell's name and its root are each no larger than the other, since the names are the same at
-- both cells of every uncut step, and being of one root is the same at both. Assumes nothing.
use Prim.Native.Nat.{ℕ, ◌≤◌, ◌<◌}
use native.Mathlib.Omega.{arith}
use mathlib.Core.Path.{◌≡◌, refl, ap, ◌∙◌}
use mathlib.Core.List.{List}
use lib.Dec.{eqb}
use borrow.Author.Tests.{eqb-true, eq-eqb}
use Rattle.definitions.specs.Grid.{Map, cell_count}
use Rattle.definitions.specs.Partition.{cut_all_lem, uncut, roots}
use Rattle.laws.specs.ListLaws.Lists.{All, all_map}
use Rattle.laws.specs.RegionLaws.Merging.{step-joins}
use Rattle.laws.specs.RegionLaws.Chains.{joined_same}
use Rattle.laws.specs.RegionLaws.Regions.{root, uncut-within, roots-rooted, roots-joined, root_below}
use Rattle.grid_steps.specs.Masks.{OnwardMarks}
use Rattle.grid_steps.proofs.OpenSteps.{uncut_each, uncut_at}
use Rattle.parents.specs.ForestLaws.{name-low}
use Rattle.row_runs.specs.Cells.{Level, CellsJoined}
use Rattle.row_runs.proofs.GridSteps.{Even, level-onward, onward-level}

module _ (M : Map) (masks : List ℕ) (marks : OnwardMarks M masks (cut_all_lem M)) where
  root-even : All (Even (root M)) (uncut M)
  unfolding roots
  root-even = step-joins (cell_count M) (uncut-within M)

  module _ {was waited p q : List ℕ} (J : CellsJoined M.width M.height M.cells masks was waited p q) where
    after-low : (c : ℕ) → c < cell_count M → J.after c ≤ c
    unfolding cell_count
    after-low = name-low J.left.forest

    -- the name has the cell's root
    root_of-name : (c : ℕ) → c < cell_count M → root M (J.after c) ≡ root M c
    unfolding cell_count
    root_of-name c h = eqb-true _ _ (J.sound (λ d. eqb (root M d) (root M c)) level c h ∙ eq-eqb (root M c) (root M c) refl)
      where
        level : Level M.width M.height M.cells masks (λ d. eqb (root M d) (root M c))
        level = onward-level M masks marks (λ d. eqb (root M d) (root M c)) (uncut_at M (all_map (λ e s. ap (λ r. eqb r (root M c)) s) root-even))

    -- the root has the cell's name
    name_of_root : (c : ℕ) → c < cell_count M → J.after (root M c) ≡ J.after c
    name_of_root c h =
        joined_same J.after (uncut_each M (Even J.after) (level-onward M masks marks J.after J.joins))
        ((roots-joined M (root M c) c (root_below M c h) h).0 ((roots-rooted M).own c h))

    pub same_root : (c : ℕ) → c < cell_count M → J.after c ≡ root M c
    same_root c h =
        omega (
          arith,
          root_of-name c h,
          (roots-rooted M).low (J.after c) (omega (arith, after-low c h)),
          name_of_root c h,
          after-low (root M c) (root_below M c h),
        )
