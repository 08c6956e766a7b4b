-- `maps::put_entry` meets its contract: four numbers are copied. Assumes nothing.
use Rattle.std.proofs.Common.{arith, ◌*◌}
use Rattle.catalogue.proofs.Copying.{put_four}
use Rattle.pool_entries.proofs.maps.put_entry.Goals as goal

pub returns : goal.returns
returns c = put_four c.args.entries.now (4 * c.args.k) c.args.map 0 0 0 (omega (arith, c.requires)) c.copy_from_slice.ensures.after
