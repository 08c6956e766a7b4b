-- `put_shortest::put_shortest` meets its contract. The loop's invariant is `Shortening`; the measure is what is left. Assumes nothing.
use borrow.Author.Rules.{rules}
use Rattle.put_shortest.proofs.Writing.{shortening_starts, room_more, shortening_goes_on, room_last, shortening_ends}
use Rattle.put_shortest.proofs.put_shortest.Goals as goal

pub loop-left-init : goal.loop-left-init
loop-left-init c = shortening_starts (search rules) c.requires

pub put_byte-requires : goal.put_byte-requires
put_byte-requires c = room_more c.loop-left.invariant c.loop-left-test.true

pub loop-left-preserved : goal.loop-left-preserved
loop-left-preserved c = shortening_goes_on c.loop-left.invariant c.loop-left-test.true (rw c.continued.ensures at c.put_byte.ensures)

pub put_byte-requires-2 : goal.put_byte-requires-2
put_byte-requires-2 c = room_last c.loop-left.invariant c.loop-left-test.false

pub returns : goal.returns
returns c = shortening_ends c.loop-left.invariant c.loop-left-test.false (rw c.last.ensures at c.put_byte-2.ensures)
