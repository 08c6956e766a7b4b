-- `widths::is_twice_as_wide` meets its contract: the code is the test as it stands. Assumes nothing.
use lib.Ieee.{binary64, le, mul}
use Rattle.geometry.specs.Widths.{is_twice_as_wide}
use Rattle.geometry.proofs.Literals.{two_is}
use Rattle.geometry.proofs.widths.is_twice_as_wide.Goals as goal

pub returns : goal.returns
unfolding is_twice_as_wide
returns c = λ j. le (mul binary64 (two_is j) (c.width_of.ensures j)) (c.width_of-2.ensures j)
