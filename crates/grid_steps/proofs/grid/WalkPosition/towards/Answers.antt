-- `grid_steps::grid::WalkPosition::towards` meets its contract, by the search; written so that a wrong body is refused sooner. Assumes nothing.
use Rattle.std.proofs.Common.{rules}
use Rattle.grid_steps.proofs.grid.WalkPosition.towards.Goals as goal

pub returns : goal.returns
returns c = search rules
