-- `board::Board::guard_row` meets its contract. The loop's invariant (`GuardRow`): the row is what all sets so far have in common. Assumes nothing.
use Prim.Native.Nat.{ℕ}
use mathlib.Core.Path.{◌≡◌}
use mathlib.Core.Bool.{not, ◌&&◌, ◌||◌}
use lib.ListN.{take, get_or}
use Rattle.std.proofs.Common.{rules}
use Rattle.std.proofs.lemmas.List.{get_or-take}
use Rattle.definitions.specs.RegionRecord.{has_bit}
use Rattle.game_sets.proofs.Rows.{guard-starts, guard_more, guard-ends, with-set, without-set, goal-held, goal-free}
use Rattle.game_sets.proofs.board.Board.guard_row.Goals as goal
use Rattle.game_sets.proofs.board.Board.guard_row.Goals.{then-has, else-has}

pub loop-d-init : goal.loop-d-init
loop-d-init c = guard-starts _ _ _ _

pub loop-d-preserved : goal.loop-d-preserved
loop-d-preserved c =
    let set = get_or (take c.args.self.now.regions c.args.sets.now) c.loop-d.d 0 in
    let put : (j : ℕ) → has_bit c.if-has.row j ≡ (has_bit c.loop-d.row j && (not c.has.result || has_bit set j)) = λ j.
    elim c.if-has.branch [ then-has w ↦ with-set _ _ _ j _ w.if-has.true w.row-is | else-has w ↦ without-set _ _ _ j _ w.if-has.false w.row-is ] in
    guard_more _ _ _ _ _ _ _ _ c.loop-d.invariant (search rules) c.has.ensures
    (λ j. rw (get_or-take c.args.self.now.regions c.args.sets.now c.loop-d.d 0 (search rules)) at (put j))

pub returns-then-g-self : goal.returns-then-g-self
returns-then-g-self c = λ j l. guard-ends _ _ _ _ _ _ _ _ c.loop-d.invariant (search rules) (λ j _. goal-held _ _ _ j c.if-g-self.true) j l

pub returns : goal.returns
returns c = λ j l. guard-ends _ _ _ _ _ _ _ _ c.loop-d.invariant (search rules) (λ j l. goal-free _ _ _ _ j c.if-g-self.false (c.with.ensures j l)) j l
