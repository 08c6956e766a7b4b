-- `junction_selection::selection::reserve_ports` meets its contract. The loop's invariant: of the marks of the boundaries, those of the ports below j are set.
-- Assumes nothing.
use Rattle.junction_proposals.specs.Rows.{form}
use Rattle.junction_selection.specs.Ranks.{reserves_at}
use Rattle.junction_selection.proofs.Standings.{Marked}
use Rattle.junction_selection.proofs.selection.reserve_ports.Given as goal

abbrev pub invariant-loop-j : goal.invariant-loop-j
invariant-loop-j l =
    Marked l.initial.mark-items l.mark-items (reserves_at l.lists.full.now (form l.row)) l.j
