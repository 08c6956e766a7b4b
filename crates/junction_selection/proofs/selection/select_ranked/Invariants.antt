-- `junction_selection::selection::select_ranked` meets its contract. The loop's invariant: the state stands for what is selected of the rows passed. Assumes nothing.
use Prim.Native.Nat.{◌≤◌}
use mathlib.Core.Path.{◌≡◌}
use Rattle.junction_selection.specs.Ranks.{selected_of}
use Rattle.junction_selection.specs.Taken.{Selecting, Standing}
use Rattle.junction_selection.proofs.selection.select_ranked.Given as goal

abbrev pub invariant-loop-p : goal.invariant-loop-p
invariant-loop-p l =
    (l.selection.removed.ghost_name ≡ l.initial.selection.removed.ghost_name) × (l.selection.count ≤ l.p-index) × Selecting l.found.rows.now l.selection.taken l.selection.removed.now l.selection.reserved l.found.lists.now.count
    × Standing l.found.lists.now.full.now l.found.rows.now l.selection.taken l.selection.removed.now l.selection.reserved l.found.lists.now.count l.selection.count (selected_of l.found.lists.now.full.now l.found.rows.now l.order l.found.lists.now.count l.p-index)
