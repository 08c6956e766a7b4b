-- `sheet_converter::put_converted` meets its contract: kind 3, what stands before the spans, and what stands behind them. Assumes nothing.
use Rattle.std.proofs.Common.{rules, arith}
use Rattle.results.specs.Shortest.{shortest_within, shortest}
use Rattle.byte_writer.specs.Chains.{put-long, appends_then, put_left}
use Rattle.sheet_converter.specs.Contract.{cut_out}
use Rattle.sheet_converter.proofs.Copying.{put_whole, front_long, back_long}
use Rattle.sheet_converter.proofs.put_converted.Goals as goal

pub put_shortest-requires : goal.put_shortest-requires
unfolding shortest shortest_within
put_shortest-requires c =
    omega (arith, c.requires.begun, c.requires.fits)

pub put-requires : goal.put-requires
unfolding shortest shortest_within
put-requires c =
    omega (
      arith,
      c.requires.begun,
      c.requires.ordered,
      c.requires.inside,
      c.requires.fits,
      front_long c.args.bytes.now c.args.front c.requires.begun (omega (arith, c.requires.ordered, c.requires.inside)),
      c.put_shortest.ensures.put.next_is,
      put-long c.put_shortest.ensures.put,
    )

pub put-requires-2 : goal.put-requires-2
unfolding shortest shortest_within
put-requires-2 c =
    omega (
      arith,
      c.requires.begun,
      c.requires.ordered,
      c.requires.inside,
      c.requires.fits,
      front_long c.args.bytes.now c.args.front c.requires.begun (omega (arith, c.requires.ordered, c.requires.inside)),
      back_long c.args.bytes.now c.args.back,
      c.put_shortest.ensures.put.next_is,
      put-long c.put_shortest.ensures.put,
      c.put.ensures.put.next_is,
      put-long c.put.ensures.put,
    )

pub returns : goal.returns
unfolding cut_out
returns c =
    let bytes = c.args.bytes.now in
    put_left (appends_then (appends_then c.put_shortest.ensures c.put.ensures) (put_whole bytes c.args.back c.put-2.ensures)) (search rules)
