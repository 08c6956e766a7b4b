-- What check 9 of the table gives is what is asked of elevations where records are made. Assumes nothing.
use Prim.Native.Nat.{ℕ, ◌<◌}
use native.Mathlib.Omega.{arith}
use mathlib.Core.Path.{◌≡◌, sym, ap, ◌∙◌}
use mathlib.Core.Bool.{true, not, ◌&&◌}
use Rattle.std.specs.Prelude.{None}
use lib.ListN.{length, get_or}
use lib.Dec.{leb}
use borrow.Author.Tests.{leb-false, not-true}
use Rattle.definitions.specs.Grid.{Map, cell_count, cell_at, is_walkable, elevation}
use Rattle.definitions.specs.Partition.{walkable_at}
use Rattle.definitions.specs.Refusals.{elevations_fault}
use Rattle.laws.specs.ListLaws.NoFault.{none_faulty}

module _ (M : Map) (bytes_long : length M.cells ≡ cell_count M) where
  pub low-elevations : elevations_fault M.cells ≡ None → (c : ℕ) → c < cell_count M → walkable_at M c ≡ true → elevation (cell_at M c) < 4
  unfolding elevations_fault
  low-elevations h c l w = leb-false 4 (elevation (cell_at M c)) (not-true (leb 4 (elevation (cell_at M c))) (sym (ap (λ b. not (b && leb 4 (elevation (cell_at M c)))) w) ∙ passes))
    where
      passes : not (is_walkable (cell_at M c) && leb 4 (elevation (cell_at M c))) ≡ true
      passes = none_faulty (λ c. not (is_walkable (get_or M.cells c 0) && leb 4 (elevation (get_or M.cells c 0)))) (length M.cells) h c (omega (arith, bytes_long, l))
