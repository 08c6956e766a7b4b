-- `game_lists::kept::divide_kept` meets its contract: the spans that are kept, the lists of the first partition cleared, and divided again, which is not
-- refused (DividingKept). Assumes nothing.
use native.Mathlib.Omega.{arith}
use mathlib.Core.Path.{sym, refl}
use lib.Seq.{length-take-le}
use Rattle.game_lists.proofs.KeptSpans.{few-kept}
use Rattle.game_lists.proofs.DividingKept.{tallies-room, pairs-room, tallies-cleared, pairs-cleared, spans-room, kept-are, kept-fit, is-ready, kept-ready}
use Rattle.game_lists.proofs.kept.divide_kept.Goals as goal

pub overflow_mul-end : goal.overflow_mul-end
overflow_mul-end c =
    let a = c.args in
    record { fits = omega (arith, few-kept a.spans.now a.spans.now a.removed.now c.kept_spans-count.ensures.answer, (spans-room _ c.requires.1).1) }

pub overflow_mul-paired : goal.overflow_mul-paired
overflow_mul-paired c = record { fits = omega (arith, pairs-room _ c.requires.1) }

pub slice_bounds-kept-end : goal.slice_bounds-kept-end
slice_bounds-kept-end c =
    let a = c.args in
    omega (arith, few-kept a.spans.now a.spans.now a.removed.now c.kept_spans-count.ensures.answer, (spans-room _ c.requires.1).1)

pub slice_bounds-redivide-end : goal.slice_bounds-redivide-end
slice_bounds-redivide-end c =
    let a = c.args in
    sym (length-take-le _ _ (omega (arith, few-kept a.spans.now a.spans.now a.removed.now c.kept_spans-count.ensures.answer, (spans-room _ c.requires.1).1)))

pub redivide-requires-clause-filled : goal.redivide-requires-clause-filled
redivide-requires-clause-filled c =
    let a = c.args in
    let few = few-kept a.spans.now a.spans.now a.removed.now c.kept_spans-count.ensures.answer in
    (omega (arith, few, tallies-room _ c.requires.1), pairs-room _ c.requires.1)

pub redivide-requires-clause-fit : goal.redivide-requires-clause-fit
redivide-requires-clause-fit c =
    let D = c.requires.1 in
    kept-fit _ D _ c.args.lists.now.tallies.now c.args.lists.now.pairs.now (kept-are _ D c.kept_spans-count.ensures.kept) refl refl

pub unwrap-requires : goal.unwrap-requires
unwrap-requires c =
    let D = c.requires.1 in
    is-ready _ D _ _ _ (kept-are _ D c.kept_spans-count.ensures.kept) (tallies-cleared _ D) (pairs-cleared _ D)
    _ _ _ _ _ _ c.redivide.ensures.divided

pub returns-clause-divided : goal.returns-clause-divided
returns-clause-divided c =
    λ S D.
    kept-ready _ D _ _ _ (kept-are _ D c.kept_spans-count.ensures.kept) (tallies-cleared _ D) (pairs-cleared _ D)
    _ _ _ _ _ _ c.redivide.ensures.divided c.unwrap.ensures refl refl
