-- `most_common_elevation` meets its contract, which is three comparisons. Assumes nothing.
use mathlib.Core.Path.{◌∙◌, ap}
use Rattle.definitions.specs.RegionRecord.{better, most_common_elevation}
use Rattle.elevations.proofs.most_common_elevation.Goals as goal

pub returns : goal.returns
unfolding most_common_elevation
returns c =
    let counts = c.args.counts in
    let first = ap (λ best. better counts best 2) c.more_common.ensures.answer in
    record { answer = c.more_common-3.ensures.answer ∙ ap (λ best. better counts best 3) (c.more_common-2.ensures.answer ∙ first); bound = c.more_common-3.ensures.bound }
