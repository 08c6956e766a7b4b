-- `junction_proposals::unions::has_union_shape` meets its contract, from what its callees ensure: each return by the tests that led there. Assumes nothing.
use Prim.Native.Nat.{◌<◌}
use mathlib.Core.Path.{◌≡◌, sym, ap, ◌∙◌}
use mathlib.Core.Bool.{true, true≢false}
use borrow.Author.Tests.{not-true, not-false, ltb-true}
use Rattle.context.specs.Rows.{pair_form}
use Rattle.junction_proposals.specs.Unions.{no_ramp_at, marks_of, ports_pass}
use Rattle.junction_proposals.proofs.Shapes.{has_ramp_lem, both-anchored, few-incidents, both_marked, few_marked, one_marked, fit_fails, three_fail, by_ports}
use Rattle.junction_proposals.proofs.unions.has_union_shape.Goals as goal
use Rattle.junction_proposals.proofs.unions.has_union_shape.Goals.{then-ports_fit, else-ports_fit}

pub returns-then-has_ramp : goal.returns-then-has_ramp
returns-then-has_ramp c =
    let l = c.args.lists.now in
    has_ramp_lem l.boundaries.now l.full.now l.counts.now l.marks.now l.count c.args.index (pair_form c.args.union) (not-true _ (sym c.has_ramp.ensures ∙ c.if-has_ramp.true))

pub returns-then-lower-upper : goal.returns-then-lower-upper
returns-then-lower-upper c =
    let l = c.args.lists.now in
    both-anchored l.boundaries.now l.full.now l.counts.now l.marks.now l.count c.args.index (pair_form c.args.union) (not-false _ (sym c.has_ramp.ensures ∙ c.if-has_ramp.false))
    (both_marked c.is_anchored-lower.ensures c.is_anchored-upper.ensures c.if-lower-upper.true)

pub returns-then-has_few_incidents : goal.returns-then-has_few_incidents
returns-then-has_few_incidents c =
    let l = c.args.lists.now in
    few-incidents l.boundaries.now l.full.now l.counts.now l.marks.now l.count c.args.index (pair_form c.args.union) (not-false _ (sym c.has_ramp.ensures ∙ c.if-has_ramp.false))
    (few_marked c.is_anchored-lower.ensures c.is_anchored-upper.ensures c.if-lower-upper.false) c.requires.union_full c.requires.index_within
    (ltb-true _ 5 (sym c.has_few_incidents.ensures ∙ c.if-has_few_incidents.true))

pub returns-then-has_three_exteriors : goal.returns-then-has_three_exteriors
returns-then-has_three_exteriors c =
    let l = c.args.lists.now in
    let p = pair_form c.args.union in
    let plain : no_ramp_at l.boundaries.now c.args.index ≡ true = not-false _ (sym c.has_ramp.ensures ∙ c.if-has_ramp.false) in
    let anchored : marks_of l.marks.now p < 2 = few_marked c.is_anchored-lower.ensures c.is_anchored-upper.ensures c.if-lower-upper.false in
    elim c.if-ports_fit.branch [
      | then-ports_fit w ↦
          by_ports l.boundaries.now l.full.now l.counts.now l.marks.now l.count c.args.index p plain anchored c.ports_fit.ensures w.if-ports_fit.true w.has_three_exteriors.ensures (sym w.value-is ∙ c.if-has_three_exteriors.true)
          (c.ports_pass.ensures ∙ ap (ports_pass l.boundaries.now l.full.now l.count c.args.index p) (one_marked c.is_anchored-lower.ensures c.is_anchored-upper.ensures))
      | else-ports_fit w ↦ absurd (true≢false (sym c.if-has_three_exteriors.true ∙ w.value-is ∙ w.if-ports_fit.false))
    ]

pub returns-else-has_three_exteriors : goal.returns-else-has_three_exteriors
returns-else-has_three_exteriors c =
    let l = c.args.lists.now in
    let p = pair_form c.args.union in
    let plain : no_ramp_at l.boundaries.now c.args.index ≡ true = not-false _ (sym c.has_ramp.ensures ∙ c.if-has_ramp.false) in
    let anchored : marks_of l.marks.now p < 2 = few_marked c.is_anchored-lower.ensures c.is_anchored-upper.ensures c.if-lower-upper.false in
    c.if-has_three_exteriors.false
    ∙ elim c.if-ports_fit.branch [
      | then-ports_fit w ↦ three_fail l.boundaries.now l.full.now l.counts.now l.marks.now l.count c.args.index p plain anchored c.ports_fit.ensures w.if-ports_fit.true w.has_three_exteriors.ensures (sym w.value-is ∙ c.if-has_three_exteriors.false)
      | else-ports_fit w ↦ fit_fails l.boundaries.now l.full.now l.counts.now l.marks.now l.count c.args.index p plain anchored c.ports_fit.ensures w.if-ports_fit.false
    ]
