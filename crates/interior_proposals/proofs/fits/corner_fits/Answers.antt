-- `fits::corner_fits` meets its contract, from the two tests. Assumes nothing.
use Rattle.interior_proposals.proofs.FitLaws.{corner_first, corner-second}
use Rattle.interior_proposals.proofs.fits.corner_fits.Goals as goal

pub returns-then-within_distance : goal.returns-then-within_distance
returns-then-within_distance c = λ m n. corner_first _ _ _ (c.within_distance.ensures m) c.if-within_distance.true

pub returns-else-within_distance : goal.returns-else-within_distance
returns-else-within_distance c =
    λ m n. corner-second _ _ _ (c.within_distance.ensures m) c.if-within_distance.false (c.within_distance-else-within_distance.ensures n)
