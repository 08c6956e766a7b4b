-- `game_solver::check_graph` meets its contract, by the search; written so that a wrong body is refused sooner. Assumes nothing.
use Rattle.std.proofs.Common.{rules}
use Rattle.game_solver.proofs.check_graph.Goals as goal

pub returns : goal.returns
returns c = search rules

pub returns-in_err-ensure : goal.returns-in_err-ensure
returns-in_err-ensure c = search rules
