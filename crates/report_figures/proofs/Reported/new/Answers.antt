-- `report_figures::Reported::new` meets its contract, by the search; written so that a wrong body is refused sooner. Assumes nothing.
use Rattle.std.proofs.Common.{rules}
use Rattle.report_figures.proofs.Reported.new.Goals as goal

pub returns : goal.returns
returns c = search rules
