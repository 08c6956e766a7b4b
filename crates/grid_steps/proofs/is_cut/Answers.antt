-- `grid_steps::is_cut` meets its contract: the bit of the cell's mask. Assumes nothing.
use Rattle.grid_steps.specs.Masks.{cut_bit}
use Rattle.grid_steps.proofs.is_cut.Goals as goal

pub returns : goal.returns
unfolding cut_bit
returns c = c.is_set.ensures
