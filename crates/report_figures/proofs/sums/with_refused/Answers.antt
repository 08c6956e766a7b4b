-- `sums::with_refused` meets its contract, from the counts with one more. Assumes nothing.
use mathlib.Core.Path.{refl}
use Rattle.report_figures.proofs.Adding.{refused-added}
use Rattle.report_figures.proofs.sums.with_refused.Goals as goal

pub returns : goal.returns
returns c = refused-added c.args.report _ refl c.count_at-added.ensures
