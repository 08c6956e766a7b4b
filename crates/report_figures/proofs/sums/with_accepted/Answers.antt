-- `sums::with_accepted` meets its contract, by the pass of the run. Assumes nothing.
use Rattle.report_figures.proofs.Adding.{first-added, second-added, third-added}
use Rattle.report_figures.proofs.sums.with_accepted.Goals as goal

pub returns-in-ReplaceRampMouths : goal.returns-in-ReplaceRampMouths
returns-in-ReplaceRampMouths c = first-added c.args.report c.args.run c.args.squared c.in-ReplaceRampMouths.is c.with_figures-added.ensures

pub returns-in-CollapseRampInteriors : goal.returns-in-CollapseRampInteriors
returns-in-CollapseRampInteriors c =
    second-added c.args.report c.args.run c.args.squared c.in-CollapseRampInteriors.is c.with_figures-added-in-CollapseRampInteriors.ensures

pub returns-in-RemoveJunctionBoundaries : goal.returns-in-RemoveJunctionBoundaries
returns-in-RemoveJunctionBoundaries c =
    third-added c.args.report c.args.run c.args.squared c.in-RemoveJunctionBoundaries.is c.with_figures-added-in-RemoveJunctionBoundaries.ensures
