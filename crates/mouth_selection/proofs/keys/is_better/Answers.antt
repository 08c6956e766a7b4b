-- `mouth_selection::keys::is_better` meets its contract, by the search; written so that a wrong body is refused sooner. Assumes nothing.
use Rattle.std.proofs.Common.{rules}
use Rattle.mouth_selection.proofs.keys.is_better.Goals as goal

pub returns : goal.returns
returns c = search rules
