-- `mouth_pass::find_bests` meets its contract. The invariant: of every context that is shown, the bests of the ramps passed are known. Assumes nothing.
use native.Mathlib.Omega.{arith}
use mathlib.Core.Path.{◌≡◌, ◌∙◌, subst}
use lib.ListN.{length, length-set}
use lib.Seq.{length-take-le}
use Rattle.mouth_selection.specs.Selecting.{Progress}
use Rattle.mouth_selection.proofs.BestSteps.{best_put}
use Rattle.topology.proofs.MouthLoops.{pass-ramp, bests-none, bests-front}
use borrow.Author.Rules.{rules}
use Rattle.topology.proofs.mouth_pass.find_bests.Goals as goal

pub slice_bounds-best-items-end : goal.slice_bounds-best-items-end
slice_bounds-best-items-end c =
    let R = c.requires.1.1.0 in
    let long : length c.args.bests.now ≡ 256 = search rules in
    omega (arith, R.shows.counted, R.shows.bounds.few, long)

pub loop-a-init : goal.loop-a-init
loop-a-init c =
    let R = c.requires.1.1.0 in
    let long : length c.args.bests.now ≡ 256 = search rules in
    (length-take-le c.args.context.count c.args.bests.now (omega (arith, R.shows.counted, R.shows.bounds.few, long)), λ C m R P. bests-none P)

pub best_of_ramp-requires : goal.best_of_ramp-requires
best_of_ramp-requires c =
    let R = c.requires.1.1.0 in
    let P = c.requires.1.1.1 in
    let long : length c.args.bests.now ≡ 256 = search rules in
    let few = length-take-le c.args.context.count c.args.bests.now (omega (arith, R.shows.counted, R.shows.bounds.few, long)) in
    (c.requires.0, (P.chosen, (pass-ramp R P.anchored (omega (arith, c.loop-a-test.true, few)), P.state)))

pub loop-a-preserved : goal.loop-a-preserved
loop-a-preserved c =
    let at = c.loop-a in
    let R₀ = c.requires.1.1.0 in
    let long : length c.args.bests.now ≡ 256 = search rules in
    let few = length-take-le c.args.context.count c.args.bests.now (omega (arith, R₀.shows.counted, R₀.shows.bounds.few, long)) in (
      length-set at.best-items at.a c.best_of_ramp.result ∙ at.invariant.0,
      λ C m R P₀.
          let P = at.invariant.1 C m R P₀ in
          best_put P (c.best_of_ramp.ensures.best C P.chosen (pass-ramp R P.anchored (omega (arith, c.loop-a-test.true, few))) P.state)
          (omega (arith, at.invariant.0, c.loop-a-test.true, few)) (λ i h d. omega (arith, h, d)),
    )

pub returns : goal.returns
returns c = λ C m R P₀.
    let at = c.loop-a in
    let long : length c.args.bests.now ≡ 256 = search rules in
    let few = length-take-le c.args.context.count c.args.bests.now (omega (arith, R.shows.counted, R.shows.bounds.few, long)) in
    let now = c.args.taken.now in
    let done : at.a ≡ c.args.context.count = omega (arith, at.auto.a-end, c.loop-a-test.false, few) in
    subst (Progress C now.marks.now now.removed.now now.ramp_ends _) done (bests-front _ (omega (arith, at.invariant.0, done)) (at.invariant.1 C m R P₀))
