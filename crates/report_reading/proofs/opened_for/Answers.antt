-- `report_reading::opened_for` meets its contract, by the search; written so that a wrong body is refused sooner. Assumes nothing.
use Rattle.std.proofs.Common.{rules}
use Rattle.report_reading.proofs.opened_for.Goals as goal

pub returns : goal.returns
returns c = search rules
