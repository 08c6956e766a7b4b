-- `fits::region_fits` meets its contract: the elevations' test is the code's, and each corner is measured within the hypotenuse's range. Assumes nothing.
use Rattle.std.proofs.Common.{rules, tests, ap, not, true, false}
use Rattle.std.proofs.lemmas.Iterator.{cases_from_all, YieldsList-from_slice}
use Rattle.interior_proposals.proofs.FitLaws.{fits-fails, Answer, fits-corners}
use Rattle.interior_proposals.proofs.fits.region_fits.Goals as goal

pub returns-then-not-elevations_fit : goal.returns-then-not-elevations_fit
returns-then-not-elevations_fit c = λ C a b q A e R. fits-fails C a b q A (ap (λ s. s.elevations) e) c.elevations_fit.ensures (ap not c.if-not-elevations_fit.true)

pub returns : goal.returns
returns c =
    let l = c.corners.result in
    λ C a b q A e R.
    fits-corners C a b q A R l e c.corners.ensures (ap (λ s. s.elevations) e) c.elevations_fit.ensures (ap not c.if-not-elevations_fit.false) c.all.result
    (cases_from_all _ _ c.all.result (Answer C a b q A R l e c.corners.ensures true) (Answer C a b q A R l e c.corners.ensures false) c.all.ensures.ran (YieldsList-from_slice _ cc) (λ x f k. search (rules, tests)) (λ x f k. search (rules, tests)))
