-- `boundary_blocks::blocks::keep_blocks` meets its contract. The loop's invariant: the blocks that are left of the first k stand at the front, and all else is as it was. Assumes nothing.
use Prim.Native.Nat.{◌+◌, ◌*◌, ◌≤◌}
use native.Mathlib.Omega.{arith}
use native.Mathlib.Nat.{add-zero}
use mathlib.Core.Path.{refl, sym, ap, ap₂, subst, ◌∙◌}
use mathlib.Core.Bool.{false, not}
use lib.ListN.{length}
use lib.Seq.{sets}
use Rattle.laws.specs.ListLaws.Lists.{place_in-front}
use Rattle.std.proofs.Common.{get_or-take}
use Rattle.definitions.specs.Scan.{bit, gather, count_below}
use Rattle.definitions.specs.Lists.{overwrite}
use Rattle.boundary_blocks.specs.Blocks.{part, left_blocks, left_count}
use Rattle.boundary_blocks.proofs.Copying.{part_within}
use Rattle.boundary_blocks.proofs.Keeping.{within, block-gone, block-stays, left-few, left-room, left_next, count_next}
use Rattle.boundary_blocks.proofs.blocks.keep_blocks.Goals as goal
use Rattle.boundary_blocks.proofs.blocks.keep_blocks.Goals.{then-not-gone, else-not-gone}

pub loop-k-init : goal.loop-k-init
unfolding left_blocks gather left_count count_below
loop-k-init c = (omega arith, refl, refl, refl)

pub loop-k-preserved : goal.loop-k-preserved
loop-k-preserved c =
    let turn = c.loop-k in
    let given = c.args in
    let removed = given.removed.now in
    let l = given.list.now in
    let size = given.size in
    let k = turn.k in
    let inside = place_in-front removed given.count {i = k} (omega (arith, c.told-removed, c.requires.0)) c.loop-k-test.true in
    let mark = sym (get_or-take given.count removed k false inside) in
    let front = overwrite (left_blocks removed size l k) l in
    let counted = count_next removed size l given.count c.requires.1 k in
    let end = within size k given.count {n = length l} inside c.requires.1 in
    let room = subst (λ n. size * n ≤ size * k) (sym turn.invariant.3) (left-room removed size l given.count c.requires.1 k) in
    elim c.if-not-gone.branch [
      | then-not-gone w ↦
          let e = mark ∙ w.if-not-gone.true in (
            omega (arith, inside),
            c.if-not-gone.auto.list ∙ turn.invariant.1,
            w.list-is ∙ w.copy_within.ensures.after
                ∙ part_within turn.list (size * turn.kept) (size * k) size turn.list (omega (arith, end, turn.invariant.1)) (omega (arith, room, end, turn.invariant.1))
                ∙ ap₂ (λ m n. sets m (size * n) (part (size * k) size m)) turn.invariant.2 turn.invariant.3
                ∙ ap (sets front (size * left_count removed k)) (sym (block-stays removed size front k e))
                ∙ left_next removed size l given.count c.requires.1 k inside,
            w.kept-is ∙ ap (λ n. n + 1) turn.invariant.3 ∙ sym (ap (λ b. left_count removed k + bit (not b)) e) ∙ counted,
          )
      | else-not-gone w ↦
          let e = mark ∙ w.if-not-gone.false in (
            omega (arith, inside),
            c.if-not-gone.auto.list ∙ turn.invariant.1,
            w.list-is ∙ turn.invariant.2
                ∙ ap (sets front (size * left_count removed k)) (sym (block-gone removed size front k e))
                ∙ left_next removed size l given.count c.requires.1 k inside,
            w.kept-is ∙ turn.invariant.3 ∙ sym (add-zero (left_count removed k)) ∙ sym (ap (λ b. left_count removed k + bit (not b)) e) ∙ counted,
          )
    ]

pub overflow_mul-size : goal.overflow_mul-size
overflow_mul-size c =
    let turn = c.loop-k in
    let given = c.args in
    let l = given.list.now in
    let inside = place_in-front given.removed.now given.count {i = turn.k} (omega (arith, c.told-removed, c.requires.0)) c.loop-k-test.true in
    let end = within given.size turn.k given.count {n = length l} inside c.requires.1 in
    let front = subst (λ n. given.size * n ≤ given.size * turn.k) (sym turn.invariant.3) (left-room given.removed.now given.size l given.count c.requires.1 turn.k) in
    record { fits = omega (arith, front, end) }

pub copy_within-requires-clause-dest_in_bounds : goal.copy_within-requires-clause-dest_in_bounds
copy_within-requires-clause-dest_in_bounds c =
    let turn = c.loop-k in
    let given = c.args in
    let l = given.list.now in
    let inside = place_in-front given.removed.now given.count {i = turn.k} (omega (arith, c.told-removed, c.requires.0)) c.loop-k-test.true in
    let end = within given.size turn.k given.count {n = length l} inside c.requires.1 in
    let room = subst (λ n. given.size * n ≤ given.size * turn.k) (sym turn.invariant.3) (left-room given.removed.now given.size l given.count c.requires.1 turn.k) in
    omega (arith, room, end, turn.invariant.1)

pub overflow_add-kept : goal.overflow_add-kept
overflow_add-kept c =
    let turn = c.loop-k in
    let given = c.args in
    let few = left-few given.removed.now given.size given.list.now given.count c.requires.1 turn.k in
    record { fits = omega (arith, few, turn.invariant.0, turn.invariant.3, c.requires.0) }
