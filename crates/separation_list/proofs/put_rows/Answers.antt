-- `put_rows` meets its contract. The loop's invariant is `RowsFilled`: the rows of the first j are stored. The measure is how many are left. Assumes nothing.
use native.Mathlib.Nat.{lt_of_lt_of_le}
use Rattle.separation_list.proofs.Storing.{rows_start, next_room, rows-go_on}
use Rattle.separation_list.proofs.put_rows.Goals as goal

pub loop-j-init : goal.loop-j-init
loop-j-init c = rows_start _ _ _

pub put_column-requires : goal.put_column-requires
put_column-requires c =
    let given = c.requires in
    let less = c.loop-j-test.true in
    record { pixels = given.pixels; listed = lt_of_lt_of_le less given.listed; room = next_room c.loop-j.invariant less given.room c.pair_count.ensures.0 }

pub loop-j-preserved : goal.loop-j-preserved
loop-j-preserved c =
    rows-go_on c.loop-j.invariant c.loop-j-test.true c.pair_count.ensures.0 c.put_column.ensures c.put_column.auto.output
