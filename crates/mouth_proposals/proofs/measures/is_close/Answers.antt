-- `measures::is_close` meets its contract: the literal is the definition's limit. Assumes nothing.
use mathlib.Core.Path.{ap}
use mathlib.Core.Bool.{not}
use lib.Ieee.{lt}
use Rattle.mouth_proposals.proofs.Literals.{mouth-distance_is}
use Rattle.mouth_proposals.proofs.measures.is_close.Goals as goal

pub returns : goal.returns
returns c = ap (λ x. not (lt x c.args.separation)) mouth-distance_is
