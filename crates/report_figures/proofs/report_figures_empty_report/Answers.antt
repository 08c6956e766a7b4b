-- `report_figures_empty_report` meets its contract: every default is 0. Assumes nothing.
use Rattle.std.proofs.Common.{rules}
use Rattle.report.specs.Report.{empty_report}
use Rattle.report_figures.proofs.Adding.{zeros}
use Rattle.report_figures.proofs.report_figures_empty_report.Goals as goal

pub returns : goal.returns
unfolding empty_report
returns c = search (rules, zeros _ 25 c.default.ensures.1.0.long c.default.ensures.1.0.at)
