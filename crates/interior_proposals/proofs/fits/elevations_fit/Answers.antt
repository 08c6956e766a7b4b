-- `fits::elevations_fit` meets its contract, by what `all` gives. Assumes nothing.
use Rattle.std.proofs.Common.{rules, tests, ◌≡◌, true, false}
use Rattle.laws.specs.ListLaws.Chains.{all_from_range, all_is}
use Rattle.interior_proposals.specs.Fits.{elevation_fits}
use Rattle.interior_proposals.proofs.fits.elevations_fit.Goals as goal

pub returns : goal.returns
returns c =
    all_is (elevation_fits c.args.mask c.args.lower c.args.upper) 8 _
    (all_from_range _ _ _ c.all.result (λ e. elevation_fits c.args.mask c.args.lower c.args.upper e ≡ true) (λ e. elevation_fits c.args.mask c.args.lower c.args.upper e ≡ false)
    c.all.ensures.ran (λ x q k. search (rules, tests)) (λ x q k. search (rules, tests)))
