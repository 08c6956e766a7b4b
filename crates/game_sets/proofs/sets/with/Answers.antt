-- `sets::with` meets its contract: a shift by i is a product with 2 ^ i. Assumes nothing.
use Rattle.game_sets.proofs.Bits.{with_bit_lem}
use Rattle.game_sets.proofs.sets.with.Goals as goal

pub returns : goal.returns
returns c = λ j l. with_bit_lem c.args.set c.args.i j c.requires l
