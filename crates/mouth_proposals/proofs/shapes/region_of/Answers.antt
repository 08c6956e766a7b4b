-- `mouth_proposals::shapes::region_of` meets its contract, by the search; written so that a wrong body is refused sooner. Assumes nothing.
use Rattle.std.proofs.Common.{rules}
use Rattle.mouth_proposals.proofs.shapes.region_of.Goals as goal

pub returns-in-true-false : goal.returns-in-true-false
returns-in-true-false c = search rules

pub returns-in_default : goal.returns-in_default
returns-in_default c = search rules
