-- `pairs::pair_starts` meets its contract. The invariant: of every context whose rows the list begins with, k is where span s begins, and the beginnings of the spans
-- passed are stored. Assumes nothing.
use native.Mathlib.Omega.{arith}
use mathlib.Core.Path.{◌≡◌, sym, ap, ◌∙◌}
use lib.ListN.{length, drop, length-append, length-drop, length-set, get_or-append}
use lib.Seq.{length-take-le}
use Rattle.context.proofs.PairStarts.{before, before-zero, next_is, starts_more, starts-shown}
use Rattle.context.proofs.pairs.pair_starts.Goals as goal

pub loop-s-init : goal.loop-s-init
loop-s-init c = (omega arith, λ C R. (sym (before-zero C), λ j h. absurd (omega arith)))

pub span_end-k-requires-clause-ordered : goal.span_end-k-requires-clause-ordered
span_end-k-requires-clause-ordered c = c.loop-s.invariant.0

pub loop-s-preserved : goal.loop-s-preserved
loop-s-preserved c =
    let at = c.loop-s in
    let inv = at.invariant in
    let few = length-take-le c.args.count c.args.starts.now (omega (arith, c.requires.sizes.0, c.requires.sizes.1)) in (
      c.span_end-k.ensures.upto,
      λ C R. (
        next_is R at.s at.k c.span_end-k.result (omega (arith, c.loop-s-test.true, few)) (inv.1 C R).0 c.span_end-k.ensures,
        starts_more C at.start-items at.s at.k (omega (arith, at.auto.start-items, c.loop-s-test.true)) (inv.1 C R).0 (inv.1 C R).1,
      ),
    )

pub returns : goal.returns
returns c =
    let at = c.loop-s in
    let inv = at.invariant in
    let starts = c.args.starts.now in
    let few = length-take-le c.args.count starts (omega (arith, c.requires.sizes.0, c.requires.sizes.1)) in
    let rest = drop c.args.count starts in
    let long : length at.start-items ≡ c.args.count = omega (arith, at.auto.start-items, few) in
    let all = length-append at.start-items rest in
    let back = length-drop c.args.count starts in
    λ C R.
    let done : at.s ≡ c.args.count = omega (arith, at.auto.s-end, c.loop-s-test.false, few) in
    starts-shown R c.requires.sizes.0 (length-set _ _ _ ∙ omega (arith, all, back, long, c.requires.sizes.0, c.requires.sizes.1))
    (starts_more C _ c.args.count at.k (omega (arith, all, back, long, c.requires.sizes.0, c.requires.sizes.1)) ((inv.1 C R).0 ∙ ap (before C) done)
    (λ j l. get_or-append at.start-items rest 0 j (omega (arith, l, long)) ∙ (inv.1 C R).1 j (omega (arith, l, done))))
