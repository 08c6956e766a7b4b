-- `accepted_elevation` meets its contract, from what `dominance` and `is_accepted` ensure. Assumes nothing.
use mathlib.Core.Path.{ap, ◌∙◌}
use Rattle.laws.specs.ListLaws.Options.{only_then}
use Rattle.definitions.specs.Scan.{only_if}
use Rattle.definitions.specs.RegionRecord.{accepts}
use Rattle.junction_regions.specs.Tests.{accepted_of}
use Rattle.junction_regions.proofs.accepted_elevation.Goals as goal

pub returns : goal.returns
unfolding accepted_of
returns c =
    c.then_some.ensures ∙ only_then _ _ ∙ ap (λ b. only_if b c.dominance-dominance.result.elevation) c.is_accepted.ensures
    ∙ ap (λ d. only_if (accepts d.share) d.elevation) c.dominance-dominance.ensures
