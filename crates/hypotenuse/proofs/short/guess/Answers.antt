-- `short::guess` meets its contract, which claims nothing of the result: no pattern is that of a NaN, and no NaN is asked for its bits. Assumes nothing.
use native.Mathlib.Omega.{arith}
use Rattle.laws.specs.FloatLaws.Patterns.{no_nan}
use Rattle.hypotenuse.proofs.short.guess.Goals as goal

pub float_from_bits-x : goal.float_from_bits-x
float_from_bits-x c = no_nan c.args.larger (omega arith)

pub float_from_bits-y : goal.float_from_bits-y
float_from_bits-y c = no_nan c.args.smaller (omega arith)

pub float_from_bits-a : goal.float_from_bits-a
float_from_bits-a c = no_nan _ (omega arith)
