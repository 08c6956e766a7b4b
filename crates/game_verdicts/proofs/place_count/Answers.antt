-- `game_verdicts::place_count` meets its contract, by the search; written so that a wrong body is refused sooner. Assumes nothing.
use Rattle.std.proofs.Common.{rules}
use Rattle.game_verdicts.proofs.place_count.Goals as goal

pub returns : goal.returns
returns c = search rules
