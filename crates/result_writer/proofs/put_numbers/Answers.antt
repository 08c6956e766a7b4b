-- `result_writer::put_numbers` meets its contract: the numbers from n-index on are still to be written. Assumes nothing.
use Rattle.std.proofs.Common.{arith, map}
use Rattle.byte_writer.specs.Chains.{writing_room, writing_goes_on, writing_ends}
use Rattle.result_writer.proofs.Placing.{placing_next, placing_none}
use Rattle.result_writer.proofs.Mapped.{mapped_inside, mapped_ends, mapped_item}
use Rattle.result_writer.proofs.put_numbers.Goals as goal

pub put_shortest-requires : goal.put_shortest-requires
put_shortest-requires g c =
    let list = c.args.numbers.now in
    let i = c.loop-n.n-index in
    rw (mapped_item g.T.Entry.value list i c.loop-n-test.true c.n-item.is c.value.ensures)
    (writing_room _ _ (placing_next (map g.T.Entry.value list) i (mapped_inside g.T.Entry.value list i c.loop-n-test.true)) c.loop-n.invariant.1)

pub loop-n-preserved : goal.loop-n-preserved
loop-n-preserved g c =
    let list = c.args.numbers.now in
    let i = c.loop-n.n-index in (
      omega arith,
      writing_goes_on _ _ (placing_next (map g.T.Entry.value list) i (mapped_inside g.T.Entry.value list i c.loop-n-test.true)) c.loop-n.invariant.1
          (rw (mapped_item g.T.Entry.value list i c.loop-n-test.true c.n-item.is c.value.ensures) at c.put_shortest.ensures),
    )

pub returns : goal.returns
returns g c = writing_ends (placing_none _ (mapped_ends g.T.Entry.value c.args.numbers.now c.loop-n.n-index c.loop-n-test.false)) c.loop-n.invariant.1
