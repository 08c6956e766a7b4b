-- `junction_proposals::ports::ports_fit` meets its contract. The outer loop's invariant: the regions passed fit. The inner loop's: of the incidents passed none is unfit,
-- and `met` of them name the region. Assumes nothing.
use Rattle.std.proofs.Common.{arith, refl, ◌∙◌}
use borrow.Author.Tests.{eq-eqb, ne_eqb}
use Rattle.context.specs.Rows.{pair_form}
use Rattle.junction_proposals.proofs.RegionPorts.{met_start, met-other, met-named, met-unfit, region-stops, region-counted, walk-stops, walk-next, walk-ends, side_named}
use Rattle.junction_proposals.proofs.ports.ports_fit.Goals as goal
use Rattle.junction_proposals.proofs.ports.ports_fit.Goals.{then-names_region+else-j-divider, else-names_region}

pub regions-init : goal.regions-init
regions-init c = (refl, refl)

pub loop-j-init : goal.loop-j-init
loop-j-init c = (c.regions.invariant.0, met_start _ _ _ _ _)

pub overflow_add-met : goal.overflow_add-met
overflow_add-met c = omega (arith, c.loop-j.invariant.1.few, c.loop-j-test.true, c.loop-j.auto.j-index-end)

pub loop-j-preserved : goal.loop-j-preserved
loop-j-preserved c =
    let m = c.loop-j.invariant.1 in (
      c.loop-j.invariant.0,
      elim c.if-names_region.branch [
        | then-names_region+else-j-divider w ↦ met-named _ _ _ _ _ c.loop-j.j-index c.loop-j-test.true m c.names_region.ensures w.if-names_region.true w.fits_union.ensures w.if-j-divider.false w.met-is
        | else-names_region w ↦ met-other _ _ _ _ _ c.loop-j.j-index c.loop-j-test.true m c.names_region.ensures w.if-names_region.false w.met-is
      ],
    )

pub regions-preserved : goal.regions-preserved
regions-preserved c =
    let l = c.args.lists.now in
    let d = c.args.divider.now in
    let p = pair_form d.union in
    let s = c.regions.r-index in (
      c.loop-j.invariant.0,
      walk-next l.full.now l.counts.now l.count d.index p s c.regions-test.true c.regions.invariant.1
          (region-counted l.full.now d.index p _ d.incidents.now l.counts.now l.count (side_named p s c.regions-test.true) c.requires.incidents c.loop-j.invariant.1 (omega (arith, c.loop-j-test.false))
          ∙ eq-eqb _ _ c.if-met-lists.false),
    )

pub returns-after-regions : goal.returns-after-regions
returns-after-regions c =
    let l = c.args.lists.now in
    let d = c.args.divider.now in
    walk-ends l.full.now l.counts.now l.count d.index (pair_form d.union) c.regions.r-index (omega (arith, c.regions-test.false)) c.regions.invariant.0 c.regions.invariant.1

pub returns-then-j-divider : goal.returns-then-j-divider
returns-then-j-divider c =
    let l = c.args.lists.now in
    let d = c.args.divider.now in
    let p = pair_form d.union in
    let s = c.regions.r-index in
    let unfit = met-unfit _ _ _ _ _ c.loop-j.j-index c.loop-j-test.true c.names_region.ensures c.if-names_region.true c.fits_union.ensures c.if-j-divider.true in
    walk-stops l.full.now l.counts.now l.count d.index p s c.regions-test.true
    (region-stops l.full.now d.index p _ d.incidents.now l.counts.now l.count (side_named p s c.regions-test.true) c.requires.incidents unfit)

pub returns-then-met-lists : goal.returns-then-met-lists
returns-then-met-lists c =
    let l = c.args.lists.now in
    let d = c.args.divider.now in
    let p = pair_form d.union in
    let s = c.regions.r-index in
    walk-stops l.full.now l.counts.now l.count d.index p s c.regions-test.true
    (region-counted l.full.now d.index p _ d.incidents.now l.counts.now l.count (side_named p s c.regions-test.true) c.requires.incidents c.loop-j.invariant.1 (omega (arith, c.loop-j-test.false))
    ∙ ne_eqb _ _ c.if-met-lists.true)
