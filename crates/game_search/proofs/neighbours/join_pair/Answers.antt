-- `game_search::neighbours::join_pair` meets its contract, by the search; written so that a wrong body is refused sooner. Assumes nothing.
use Rattle.std.proofs.Common.{arith}
use Rattle.std.proofs.lemmas.Grind.{common_steps}
use Rattle.game_search.proofs.neighbours.join_pair.Goals as goal

pub returns : goal.returns
returns c = grind (arith, common_steps)
