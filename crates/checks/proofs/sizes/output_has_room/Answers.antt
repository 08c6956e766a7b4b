-- `checks::sizes::output_has_room` meets its contract, by the search; written so that a wrong body is refused sooner. Assumes nothing.
use Rattle.std.proofs.Common.{rules}
use Rattle.checks.proofs.sizes.output_has_room.Goals as goal

pub returns : goal.returns
returns c = search rules
