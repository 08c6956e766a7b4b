-- `sets::meet` meets its contract: a number of 32 bits is not 0 where some bit is set. Assumes nothing.
use Rattle.game_sets.proofs.Bits.{meet_is}
use Rattle.game_sets.proofs.sets.meet.Goals as goal

pub returns : goal.returns
returns c = meet_is c.args.a c.args.b c.ranges.a.fits c.ranges.b.fits
