-- `sheet_writer::Map::put_opening` meets its contract: four numbers, one behind the other. Assumes nothing.
use native.Mathlib.Omega.{arith}
use Rattle.byte_writer.specs.Chains.{put-long}
use Rattle.sheet_writer.proofs.Parts.{opening-length, opening-put}
use Rattle.sheet_writer.proofs.Map.put_opening.Goals as goal

pub put_shortest-requires : goal.put_shortest-requires
put_shortest-requires c =
    omega (arith, c.requires, opening-length c.args.self.pass c.args.self.width c.args.self.height)

pub put_shortest-requires-2 : goal.put_shortest-requires-2
put_shortest-requires-2 c =
    omega (arith, c.requires, opening-length c.args.self.pass c.args.self.width c.args.self.height, c.put_shortest.ensures.put.next_is, put-long c.put_shortest.ensures.put)

pub put_shortest-requires-3 : goal.put_shortest-requires-3
put_shortest-requires-3 c =
    omega (
      arith,
      c.requires,
      opening-length c.args.self.pass c.args.self.width c.args.self.height,
      c.put_shortest.ensures.put.next_is,
      put-long c.put_shortest.ensures.put,
      c.put_shortest-2.ensures.put.next_is,
      put-long c.put_shortest-2.ensures.put,
    )

pub put_shortest-requires-4 : goal.put_shortest-requires-4
put_shortest-requires-4 c =
    omega (
      arith,
      c.requires,
      opening-length c.args.self.pass c.args.self.width c.args.self.height,
      c.put_shortest.ensures.put.next_is,
      put-long c.put_shortest.ensures.put,
      c.put_shortest-2.ensures.put.next_is,
      put-long c.put_shortest-2.ensures.put,
      c.put_shortest-3.ensures.put.next_is,
      put-long c.put_shortest-3.ensures.put,
    )

pub returns : goal.returns
returns c =
    let given = c.args in
    opening-put given.self.pass given.self.width given.self.height c.put_shortest.ensures c.put_shortest-2.ensures
    c.put_shortest-3.ensures c.put_shortest-4.ensures
