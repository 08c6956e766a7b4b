-- `junction_selection::selection::select_ranked` meets its contract. The loop's invariant: the state stands for what is selected of the rows passed. Assumes nothing.
use native.Mathlib.Omega.{arith}
use mathlib.Core.Path.{refl, sym, ◌∙◌}
use Rattle.laws.specs.ListLaws.Flags.{none_set}
use Rattle.junction_selection.proofs.Standings.{selected_next, standing-start, standing_as}
use Rattle.junction_selection.proofs.selection.select_ranked.Goals as goal

pub loop-p-init : goal.loop-p-init
loop-p-init c =
    let h = c.requires.selectable in (
      refl,
      omega arith,
      record { few = h.few; small = h.small; removed-long = h.removed-long; reserved_long = h.small; room = omega arith; below = h.below },
      standing-start _ _ _ c.args.order.now _ _ _ c.requires.removed_clear (λ j l. none_set 256 j),
    )

pub loop-p-preserved : goal.loop-p-preserved
loop-p-preserved c =
    let i = c.loop-p.invariant in
    let a = c.take_if_free.ensures in (
      a.same_removed ∙ i.0,
      omega (arith, a.bound, i.1),
      a.selecting,
      standing_as (a.standing _ i.3) (sym (selected_next c.args.found.now.lists.now.full.now c.args.found.now.rows.now c.args.order.now c.args.found.now.lists.now.count c.loop-p.p-index)),
    )
