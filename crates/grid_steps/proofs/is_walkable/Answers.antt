-- `grid_steps::is_walkable` meets its contract, by the search; written so that a wrong body is refused sooner. Assumes nothing.
use Rattle.std.proofs.Common.{rules}
use Rattle.grid_steps.proofs.is_walkable.Goals as goal

pub returns : goal.returns
returns c = search rules
