-- `grid_steps::place_at` meets its contract: a shift by 8 * d is a division by 2 ^ (8 * d), so that what is read is byte d of the word. Assumes nothing.
use Rattle.grid_steps.proofs.Ways.{word_at, word_below}
use Rattle.grid_steps.proofs.place_at.Goals as goal

pub returns : goal.returns
returns c = record { direction = word_at c.args.d c.requires; bound = word_below c.args.d c.requires }
