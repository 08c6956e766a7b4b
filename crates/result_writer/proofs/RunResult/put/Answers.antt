-- `result_writer::RunResult::put` meets its contract: the parts of the sheet, one behind the other. Assumes nothing.
use native.Mathlib.Omega.{arith}
use Rattle.result_writer.specs.Contract.{result_of}
use Rattle.byte_writer.specs.Chains.{put-long}
use Rattle.result_writer.proofs.Spending.{sheet-length}
use Rattle.result_writer.proofs.Placing.{sheet-put}
use Rattle.result_writer.proofs.RunResult.put.Goals as goal

pub put_shortest-requires : goal.put_shortest-requires
put_shortest-requires c =
    let r = result_of c.args.self in
    omega (arith, c.requires, sheet-length r)

pub put_shortest-requires-2 : goal.put_shortest-requires-2
put_shortest-requires-2 c =
    let r = result_of c.args.self in
    omega (arith, c.requires, sheet-length r, c.put_shortest.ensures.put.next_is, put-long c.put_shortest.ensures.put)

pub put_list-requires : goal.put_list-requires
put_list-requires c =
    let r = result_of c.args.self in
    (omega arith, omega (arith, c.requires, sheet-length r, c.put_shortest.ensures.put.next_is, put-long c.put_shortest.ensures.put, c.put_shortest-2.ensures.put.next_is, put-long c.put_shortest-2.ensures.put))

pub put_list-requires-2 : goal.put_list-requires-2
put_list-requires-2 c =
    let r = result_of c.args.self in
    (omega arith, omega (arith, c.requires, sheet-length r, c.put_shortest.ensures.put.next_is, put-long c.put_shortest.ensures.put, c.put_shortest-2.ensures.put.next_is, put-long c.put_shortest-2.ensures.put, c.put_list.ensures.put.next_is, put-long c.put_list.ensures.put))

pub put_list-requires-3 : goal.put_list-requires-3
put_list-requires-3 c =
    let r = result_of c.args.self in
    (omega arith, omega (arith, c.requires, sheet-length r, c.put_shortest.ensures.put.next_is, put-long c.put_shortest.ensures.put, c.put_shortest-2.ensures.put.next_is, put-long c.put_shortest-2.ensures.put, c.put_list.ensures.put.next_is, put-long c.put_list.ensures.put, c.put_list-2.ensures.put.next_is, put-long c.put_list-2.ensures.put))

pub put_list-requires-4 : goal.put_list-requires-4
put_list-requires-4 c =
    let r = result_of c.args.self in
    (omega arith, omega (arith, c.requires, sheet-length r, c.put_shortest.ensures.put.next_is, put-long c.put_shortest.ensures.put, c.put_shortest-2.ensures.put.next_is, put-long c.put_shortest-2.ensures.put, c.put_list.ensures.put.next_is, put-long c.put_list.ensures.put, c.put_list-2.ensures.put.next_is, put-long c.put_list-2.ensures.put, c.put_list-3.ensures.put.next_is, put-long c.put_list-3.ensures.put))

pub returns : goal.returns
returns c =
    sheet-put _ c.put_shortest.ensures c.put_shortest-2.ensures c.put_list.ensures c.put_list-2.ensures c.put_list-3.ensures c.put_list-4.ensures
