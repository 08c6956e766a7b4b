-- `printed::put_rows` meets its contract. The loop's invariant is `Listing`: the rows so far stand one behind the other. Assumes nothing.
use borrow.Author.Rules.{rules}
use Rattle.printed.proofs.Listing.{listing_none, listing_room, listing_more}
use Rattle.printed.proofs.put_rows.Goals as goal

pub loop-row-init : goal.loop-row-init
loop-row-init c = listing_none _ _

pub put_row-requires : goal.put_row-requires
put_row-requires c = listing_room c.loop-row.invariant c.requires (search rules)

pub loop-row-preserved : goal.loop-row-preserved
loop-row-preserved c = listing_more c.loop-row.invariant _ (search rules) c.put_row.ensures.put c.put_row.ensures.bound
