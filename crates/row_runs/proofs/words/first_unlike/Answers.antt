-- `row_runs::words::first_unlike` meets its contract: the first flag is that of the first cell that differs. Assumes nothing.
use Prim.Native.Nat.{ℕ}
use native.Mathlib.Omega.{arith}
use mathlib.Core.Bool.{Bool}
use Rattle.row_runs.specs.Stretch.{walks_as}
use Rattle.row_runs.proofs.WordLaws.{eight-passed, eight-until, eight-stops}
use Rattle.row_runs.proofs.words.first_unlike.Goals as goal

pub returns-then-flags-eq0 : goal.returns-then-flags-eq0
returns-then-flags-eq0 c = eight-passed (walks_as c.args.walkable c.args.cells.now) c.args.c c.unlike_flags-flags.ensures c.if-flags-eq0.true

pub overflow_add-result : goal.overflow_add-result
overflow_add-result c =
    let test : ℕ → Bool = walks_as c.args.walkable c.args.cells.now in
    omega (arith, eight-stops test c.args.c c.unlike_flags-flags.ensures c.if-flags-eq0.false c.first_flag.ensures, c.requires)

pub returns : goal.returns
returns c =
    let test : ℕ → Bool = walks_as c.args.walkable c.args.cells.now in (
      eight-until test c.args.c c.unlike_flags-flags.ensures c.if-flags-eq0.false c.first_flag.ensures,
      omega (arith, eight-stops test c.args.c c.unlike_flags-flags.ensures c.if-flags-eq0.false c.first_flag.ensures),
    )
