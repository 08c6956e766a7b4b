-- `report_figures::MeanFromOptionTuple2U64U64::from` meets its contract, by the search; written so that a wrong body is refused sooner. Assumes nothing.
use Rattle.std.proofs.Common.{rules}
use Rattle.report_figures.proofs.MeanFromOptionTuple2U64U64.from.Goals as goal

pub returns-in-None : goal.returns-in-None
returns-in-None c = search rules
