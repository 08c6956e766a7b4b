-- `proposals::first_of` meets its contract, by what `contains` gives of the owners before. Assumes nothing.
use Rattle.std.proofs.Common.{rules, tests, ◌∙◌}
use Rattle.interior_proposals.proofs.ProgressLaws.{none_first, owned_among, first_by}
use Rattle.interior_proposals.proofs.proposals.first_of.Goals as goal

pub returns-in_default : goal.returns-in_default
returns-in_default c = none_first _ _ c.in_default.not-One

pub returns : goal.returns
returns c =
    rw c.then_some.ensures (first_by _ _ c.in-One.is c.contains.result (c.contains.ensures.value ∙ owned_among _ _ c.in-One.name (λ o. search (rules, tests)) (search rules)))
