-- `result_writer::put_list` meets its contract: the count, and the numbers behind it. Assumes nothing.
use Rattle.std.proofs.Common.{arith, ap, length, map}
use Rattle.definitions.specs.Scan.{concat_map}
use Rattle.results.specs.Shortest.{shortest}
use Rattle.byte_writer.specs.Contract.{Appends}
use Rattle.byte_writer.specs.Chains.{put-long}
use Rattle.result_writer.proofs.Mapped.{themselves}
use Rattle.result_writer.proofs.Placing.{list_length, list_put}
use Rattle.result_writer.proofs.put_list.Goals as goal

pub put_shortest-requires : goal.put_shortest-requires
put_shortest-requires c =
    let pre = c.requires.1 in
    omega (arith, pre, list_length c.args.size c.args.numbers.now)

pub put_numbers-requires : goal.put_numbers-requires
put_numbers-requires c =
    let pre = c.requires.1 in
    let list = c.args.numbers.now in
    omega (
      arith,
      pre,
      list_length c.args.size list,
      ap (λ l. length (concat_map shortest l)) (themselves list),
      c.put_shortest.ensures.put.next_is,
      put-long c.put_shortest.ensures.put,
    )

pub returns : goal.returns
returns c =
    let list = c.args.numbers.now in
    let put : Appends c.put_shortest.new.w (concat_map shortest (map (λ n. n) list)) c.put_numbers.new.w = c.put_numbers.ensures in
    list_put c.args.size list c.put_shortest.ensures (rw (themselves list) at put)
