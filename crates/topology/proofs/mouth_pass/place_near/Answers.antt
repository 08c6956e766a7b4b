-- `mouth_pass::place_near` meets its contract: the record read is that of the region named. Assumes nothing.
use Rattle.std.proofs.Common.{sym, ap, ◌∙◌}
use Rattle.context.proofs.ShownLaws.{shown-stretch}
use Rattle.rest.specs.Picking.{get_d_inside}
use Rattle.mouth_regions.specs.Near.{region_near}
use Rattle.mouth_regions.specs.Inner.{passes}
use Rattle.mouth_proposals.specs.Candidates.{is_broad}
use Rattle.topology.proofs.MouthLoops.{region_named, near-place, near-judged}
use Rattle.topology.proofs.mouth_pass.place_near.Goals as goal

pub inner_region-requires : goal.inner_region-requires
inner_region-requires c = record { stretch = shown-stretch c.requires.located.1.rows _ c.requires.located.1.mouth; k_within = c.requires.k_within }

pub overflow_sub-region : goal.overflow_sub-region
overflow_sub-region c = (region_named c.args.proposal c.requires.located.1 c.requires.k_within (sym c.in-Some.is ∙ c.inner_region.ensures)).0

pub bounds-records-r : goal.bounds-records-r
bounds-records-r c = near-place c.args.proposal c.requires.located.1 c.requires.k_within (sym c.in-Some.is ∙ c.inner_region.ensures)

pub region_near-requires : goal.region_near-requires
region_near-requires c = (c.requires.located.1.mouth-placed, c.requires.located.1.ramp-placed)

pub returns-in-Some : goal.returns-in-Some
returns-in-Some c = λ C L.
    near-judged c.args.proposal L c.requires.k_within (sym c.in-Some.is ∙ c.inner_region.ensures) (λ d. get_d_inside _ _ d _ (near-place c.args.proposal L c.requires.k_within (sym c.in-Some.is ∙ c.inner_region.ensures))) c.region_near.ensures

pub returns-in-None : goal.returns-in-None
returns-in-None c = λ C L.
    let p = c.args.proposal in
    ap (passes (λ r. region_near C p.mouth p.ramp (is_broad p.kind) (C.region r))) (sym c.in-None.is ∙ c.inner_region.ensures)
