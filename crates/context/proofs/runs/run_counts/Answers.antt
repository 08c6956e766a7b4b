-- `context::runs::run_counts` meets its contract. The loop's invariant is `Counting`: the cells before those that are left are counted. Assumes nothing.
use Rattle.std.proofs.Common.{arith, rules, tests, ap, ◌∙◌, ℕ, zero, suc, ◌*◌, ◌≤◌, length}
use Rattle.std.proofs.lemmas.Fn.{always_returns_same}
use lib.Dec.{eqb}
use Rattle.context.proofs.RunCounting.{counting-starts, counting-few, counting_each, counting-room, counting-low, counting-goes_on}
use Rattle.context.proofs.runs.run_counts.Goals as goal

product : (n r : ℕ) → r ≤ 1 → n * r ≤ n
product n zero h = omega arith
product n (suc zero) h = omega arith
product n (suc (suc r)) h = absurd (omega arith)

pub loop-alike-init : goal.loop-alike-init
loop-alike-init c =
    counting-starts _ (ap (λ i. i.rest.now) c.into_iter-alike-iterator.ensures.into_iter_gives ∙ c.chunk_by-alike-items.ensures.rest)

pub overflow_add-ramps : goal.overflow_add-ramps
overflow_add-ramps c =
    let inv = c.loop-alike.invariant in
    omega (arith, product (length c.in-Some.alike.now) c.ramp_bit.result c.ramp_bit.ensures.1, c.requires.narrow, counting-room inv c.in-Some.alike.now c.next.new.self.rest.now c.in-Some.ensures.steps.0 _ (counting-few inv))

pub overflow_add-elevations : goal.overflow_add-elevations
overflow_add-elevations c =
    let inv = c.loop-alike.invariant in
    omega (arith, c.requires.narrow, counting-room inv c.in-Some.alike.now c.next.new.self.rest.now c.in-Some.ensures.steps.0 _ (counting_each inv c.elevation_of-e.result))

pub loop-alike-preserved : goal.loop-alike-preserved
loop-alike-preserved c =
    let inv = c.loop-alike.invariant in
    let step = c.in-Some.ensures.steps in
    counting-goes_on inv _ _ step.0 step.1 (step.2 eqb (always_returns_same _ _ _ (λ a r f q. search (rules, tests)))).1.0 (counting-low inv _ _ step.0 c.requires step.1) c.elevation_of-e.ensures c.ramp_bit.ensures.0
