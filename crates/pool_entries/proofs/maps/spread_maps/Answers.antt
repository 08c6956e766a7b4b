-- `maps::spread_maps` meets its contract. The invariant: the entries from k on are written, and what lies in front is as it was. Assumes nothing.
use Rattle.std.proofs.Common.{arith}
use Rattle.pool_entries.proofs.Spreading.{spreading_starts, spreading_goes_on, spreading_ends}
use Rattle.pool_entries.proofs.maps.spread_maps.Goals as goal

pub loop-k-init : goal.loop-k-init
loop-k-init c = spreading_starts (omega arith)

pub loop-k-preserved : goal.loop-k-preserved
loop-k-preserved c =
    spreading_goes_on c.loop-k.invariant c.loop-k-test.true c.put_entry.ensures

pub returns : goal.returns
returns c = spreading_ends c.loop-k.invariant c.loop-k-test.false
