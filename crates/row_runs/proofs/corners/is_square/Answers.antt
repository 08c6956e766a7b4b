-- `row_runs::corners::is_square` meets its contract: the four tests are the definition's, joined from the first on. Assumes nothing.
use Prim.Native.Nat.{◌+◌}
use mathlib.Core.Path.{◌≡◌, refl, sym, ◌∙◌}
use mathlib.Core.Bool.{◌&&◌}
use Rattle.row_runs.specs.Stretch.{walks}
use Rattle.row_runs.specs.Corners.{is_square}
use Rattle.row_runs.proofs.CornerNames.{test-passed, test_failed}
use Rattle.row_runs.proofs.corners.is_square.Goals as goal
use Rattle.row_runs.proofs.corners.is_square.Goals.{then-is_walkable, else-is_walkable, then-is_walkable-2, else-is_walkable-2}

pub returns-then-is_walkable-3 : goal.returns-then-is_walkable-3
unfolding is_square
returns-then-is_walkable-3 c =
    let cells = c.args.grid.terrain.cells.now in
    let p = c.args.c in
    let upper : c.if-is_walkable.value ≡ (walks cells p && walks cells (p + 1)) =
    elim c.if-is_walkable.branch [
      | then-is_walkable w ↦ test-passed _ (sym c.is_walkable.ensures ∙ w.if-is_walkable.true) w.value-is w.is_walkable-then-is_walkable.ensures
      | else-is_walkable w ↦ test_failed _ c.is_walkable.ensures w.if-is_walkable.false w.value-is
    ] in
    let three : c.if-is_walkable-2.value ≡ (walks cells p && walks cells (p + 1) && walks cells (p + c.args.grid.terrain.width)) =
    elim c.if-is_walkable-2.branch [
      | then-is_walkable-2 w ↦ test-passed _ (sym upper ∙ w.if-is_walkable-2.true) w.value-is w.is_walkable-then-is_walkable-2.ensures
      | else-is_walkable-2 w ↦ test_failed _ upper w.if-is_walkable-2.false w.value-is
    ] in
    test-passed _ (sym three ∙ c.if-is_walkable-3.true) refl c.is_walkable-then-is_walkable-3.ensures

pub returns-else-is_walkable-3 : goal.returns-else-is_walkable-3
unfolding is_square
returns-else-is_walkable-3 c =
    let cells = c.args.grid.terrain.cells.now in
    let p = c.args.c in
    let upper : c.if-is_walkable.value ≡ (walks cells p && walks cells (p + 1)) =
    elim c.if-is_walkable.branch [
      | then-is_walkable w ↦ test-passed _ (sym c.is_walkable.ensures ∙ w.if-is_walkable.true) w.value-is w.is_walkable-then-is_walkable.ensures
      | else-is_walkable w ↦ test_failed _ c.is_walkable.ensures w.if-is_walkable.false w.value-is
    ] in
    let three : c.if-is_walkable-2.value ≡ (walks cells p && walks cells (p + 1) && walks cells (p + c.args.grid.terrain.width)) =
    elim c.if-is_walkable-2.branch [
      | then-is_walkable-2 w ↦ test-passed _ (sym upper ∙ w.if-is_walkable-2.true) w.value-is w.is_walkable-then-is_walkable-2.ensures
      | else-is_walkable-2 w ↦ test_failed _ upper w.if-is_walkable-2.false w.value-is
    ] in
    test_failed _ three c.if-is_walkable-3.false refl
