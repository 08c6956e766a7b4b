-- `sums::count_at` meets its contract: a number below 25 has a place. Assumes nothing.
use Rattle.std.proofs.Common.{rules}
use Rattle.report_figures.proofs.Adding.{counted, not-counted}
use Rattle.report_figures.proofs.sums.count_at.Goals as goal

pub returns-then-number : goal.returns-then-number
returns-then-number c = counted c.args.counts c.args.number (search rules)

pub returns-else-number : goal.returns-else-number
returns-else-number c = not-counted c.args.counts c.args.number (search rules)
