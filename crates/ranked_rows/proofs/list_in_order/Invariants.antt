-- `ranked_rows::list_in_order` meets its contract. The loop's invariant: the rows of the first k ranks are listed (`ListedTo`). Assumes nothing.
use Rattle.ranked_rows.proofs.Following.{ListedTo}
use Rattle.ranked_rows.proofs.list_in_order.Given as goal

abbrev pub invariant-loop-k : goal.invariant-loop-k
invariant-loop-k l = ListedTo l.found.lists.now.full.now l.found.lists.now.count l.found.rows.now l.order l.initial.listed l.listed l.k
