-- `held::hold_region` meets its contract, by the number of the hold. Assumes nothing.
use mathlib.Core.Path.{ap}
use Rattle.mouth_selection.specs.Held.{mark_held}
use Rattle.mouth_selection.proofs.held.hold_region.Goals as goal

pub returns : goal.returns
unfolding mark_held
returns c = ap (λ n. mark_held n c.args.marks.now c.args.r) c.number.ensures
