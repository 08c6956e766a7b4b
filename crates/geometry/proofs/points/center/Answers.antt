-- `points::center` meets its contract: the coordinates are what `float` ensures. Assumes nothing.
use lib.Ieee.{binary64, add, div}
use Rattle.definitions.specs.Geometry.{center}
use Rattle.geometry.proofs.Literals.{two_is}
use Rattle.geometry.proofs.points.center.Goals as goal

pub returns : goal.returns
unfolding center
returns c =
    λ i.
    record {
      px = div binary64 (add binary64 (c.float.ensures i) (c.float-2.ensures i)) (two_is i);
      py = div binary64 (add binary64 (c.float-3.ensures i) (c.float-4.ensures i)) (two_is i);
    }
