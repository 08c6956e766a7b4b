-- `first_place` meets its contract: a quotient and its remainder (`begins`). Assumes nothing.
use Prim.Native.Nat.{◌+◌, ◌-◌, ◌*◌, ◌/◌, ◌≤◌, ◌<◌}
use native.Mathlib.Omega.{arith}
use mathlib.Core.Path.{ap}
use Rattle.line_crossings.specs.Crossings.{run_of, line_total}
use Rattle.line_crossings.proofs.Moving.{products, rest_below, begins}
use Rattle.line_crossings.proofs.first_place.Goals as goal

pub overflow_mul-total : goal.overflow_mul-total
overflow_mul-total c =
    let sizes : let t = c.args.strip in let u = c.middle_of.result - t.major0 in (t.minor0 * (run_of t - u) ≤ 67108864) × (t.minor1 * u ≤ 67108864) = let p = c.requires in
    products p.0 (c.middle_of.result - c.args.strip.major0) (omega (arith, c.middle_of.ensures, p.1.to)) in
    omega (arith, sizes)

pub overflow_mul-total-2 : goal.overflow_mul-total-2
overflow_mul-total-2 c =
    let sizes : let t = c.args.strip in let u = c.middle_of.result - t.major0 in (t.minor0 * (run_of t - u) ≤ 67108864) × (t.minor1 * u ≤ 67108864) = let p = c.requires in
    products p.0 (c.middle_of.result - c.args.strip.major0) (omega (arith, c.middle_of.ensures, p.1.to)) in
    omega (arith, sizes)

pub overflow_add-total : goal.overflow_add-total
overflow_add-total c =
    let sizes : let t = c.args.strip in let u = c.middle_of.result - t.major0 in (t.minor0 * (run_of t - u) ≤ 67108864) × (t.minor1 * u ≤ 67108864) = let p = c.requires in
    products p.0 (c.middle_of.result - c.args.strip.major0) (omega (arith, c.middle_of.ensures, p.1.to)) in
    omega (arith, sizes)

pub overflow_add-total-2 : goal.overflow_add-total-2
overflow_add-total-2 c =
    let sizes : let t = c.args.strip in let u = c.middle_of.result - t.major0 in (t.minor0 * (run_of t - u) ≤ 67108864) × (t.minor1 * u ≤ 67108864) = let p = c.requires in
    products p.0 (c.middle_of.result - c.args.strip.major0) (omega (arith, c.middle_of.ensures, p.1.to)) in
    omega (arith, sizes, c.requires.2)

pub overflow_add-raised : goal.overflow_add-raised
overflow_add-raised c =
    let sizes : let t = c.args.strip in let u = c.middle_of.result - t.major0 in (t.minor0 * (run_of t - u) ≤ 67108864) × (t.minor1 * u ≤ 67108864) = let p = c.requires in
    products p.0 (c.middle_of.result - c.args.strip.major0) (omega (arith, c.middle_of.ensures, p.1.to)) in
    omega (arith, sizes, c.requires.2, c.requires.0.major_in)

pub overflow_sub-result-2 : goal.overflow_sub-result-2
overflow_sub-result-2 c =
    let step : 0 < 8 * run_of c.args.strip = omega (arith, c.requires.0.forward) in
    rest_below _ step

pub returns : goal.returns
returns c =
    let t = c.args.strip in
    begins _ c.requires.0 (ap (λ x. line_total t (x - t.major0) + c.args.tie + (8 * run_of t / 2 - 1)) c.middle_of.ensures)
