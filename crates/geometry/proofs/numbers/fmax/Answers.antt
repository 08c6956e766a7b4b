-- `numbers::fmax` meets its contract: the test is the definition's. Assumes nothing.
use mathlib.Core.Path.{sym, ap}
use mathlib.Core.Bool.{cond}
use Rattle.definitions.specs.RampGeometry.{fmax}
use Rattle.geometry.proofs.numbers.fmax.Goals as goal

pub returns-then-a-b : goal.returns-then-a-b
unfolding fmax
returns-then-a-b c = ap (λ t. cond t c.args.b c.args.a) (sym c.if-a-b.true)

pub returns-else-a-b : goal.returns-else-a-b
unfolding fmax
returns-else-a-b c = ap (λ t. cond t c.args.b c.args.a) (sym c.if-a-b.false)
