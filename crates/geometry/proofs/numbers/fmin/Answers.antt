-- `numbers::fmin` meets its contract: the test is the definition's. Assumes nothing.
use mathlib.Core.Path.{sym, ap}
use mathlib.Core.Bool.{cond}
use Rattle.definitions.specs.RampGeometry.{fmin}
use Rattle.geometry.proofs.numbers.fmin.Goals as goal

pub returns-then-b-a : goal.returns-then-b-a
unfolding fmin
returns-then-b-a c = ap (λ t. cond t c.args.b c.args.a) (sym c.if-b-a.true)

pub returns-else-b-a : goal.returns-else-b-a
unfolding fmin
returns-else-b-a c = ap (λ t. cond t c.args.b c.args.a) (sym c.if-b-a.false)
