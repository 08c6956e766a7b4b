-- `incidents::count_region` meets its contract: a packed entry leaves room for one more. Assumes nothing.
use mathlib.Core.Path.{refl}
use Rattle.context.proofs.Counting.{region-code}
use Rattle.context.proofs.incidents.count_region.Goals as goal

pub returns : goal.returns
returns c = region-code _ _ _ refl c.counted.ensures
