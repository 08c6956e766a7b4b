-- `fits::ports_fit` meets its contract, from what the readers of both ports ensure: the lists show their fields. Assumes nothing.
use mathlib.Core.Path.{◌∙◌}
use mathlib.Core.Bool.{not, ◌&&◌}
use lib.Dec.{eqb}
use Rattle.interior_proposals.proofs.FitLaws.{ports_fit_is}
use Rattle.interior_proposals.proofs.fits.ports_fit.Goals as goal

pub returns : goal.returns
returns c =
    λ C B T l m.
    (λ j. c.has_ramp.ensures j && c.has_ramp-2.ensures j && c.full_cut.result && c.full_cut-2.result && eqb (c.ramp_at.ensures j) (c.ramp_at-2.ensures j) && not (c.same_kind.ensures j))
    ∙ ports_fit_is B l m (c.full_cut.ensures C T l) (c.full_cut-2.ensures C T m)
