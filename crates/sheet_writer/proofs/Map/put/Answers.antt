-- `sheet_writer::Map::put` meets its contract: the parts of the sheet, one behind the other. Assumes nothing.
use native.Mathlib.Omega.{arith}
use Rattle.sheet_writer.proofs.Parts.{sheet-length, sheet-put}
use Rattle.byte_writer.specs.Chains.{put-long}
use Rattle.sheet_writer.proofs.Map.put.Goals as goal

pub put_opening-requires : goal.put_opening-requires
put_opening-requires c =
    omega (arith, c.requires, sheet-length c.args.self.pass c.args.self.width c.args.self.height c.args.self.cells.now c.args.self.boundaries.now c.args.self.anchors.now)

pub put_numbers-requires : goal.put_numbers-requires
put_numbers-requires c =
    omega (
      arith,
      c.requires,
      sheet-length c.args.self.pass c.args.self.width c.args.self.height c.args.self.cells.now c.args.self.boundaries.now c.args.self.anchors.now,
      c.put_opening.ensures.put.next_is,
      put-long c.put_opening.ensures.put,
    )

pub put_list-requires : goal.put_list-requires
put_list-requires c = (
  omega arith,
  omega (
    arith,
    c.requires,
    sheet-length c.args.self.pass c.args.self.width c.args.self.height c.args.self.cells.now c.args.self.boundaries.now c.args.self.anchors.now,
    c.put_opening.ensures.put.next_is,
    put-long c.put_opening.ensures.put,
    c.put_numbers.ensures.put.next_is,
    put-long c.put_numbers.ensures.put,
  ),
)

pub put_list-requires-2 : goal.put_list-requires-2
put_list-requires-2 c = (
  omega arith,
  omega (
    arith,
    c.requires,
    sheet-length c.args.self.pass c.args.self.width c.args.self.height c.args.self.cells.now c.args.self.boundaries.now c.args.self.anchors.now,
    c.put_opening.ensures.put.next_is,
    put-long c.put_opening.ensures.put,
    c.put_numbers.ensures.put.next_is,
    put-long c.put_numbers.ensures.put,
    c.put_list.ensures.put.next_is,
    put-long c.put_list.ensures.put,
  ),
)

pub returns : goal.returns
returns c =
    sheet-put c.args.self.pass c.args.self.width c.args.self.height c.args.self.cells.now c.args.self.boundaries.now c.args.self.anchors.now
    c.put_opening.ensures c.put_numbers.ensures c.put_list.ensures c.put_list-2.ensures
