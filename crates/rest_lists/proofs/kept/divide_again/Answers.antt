-- `rest_lists::kept::divide_again` meets its contract: the spans' front is that of what is kept, and `redivide`, which clears tallies and pairs as far as the
-- first partition filled them, does not refuse it (Inner). Assumes nothing.
use mathlib.Core.Path.{sym, refl}
use native.Mathlib.Omega.{arith}
use lib.Seq.{length-take-le}
use Rattle.rest_lists.proofs.Inner.{tallies-fit, pairs-fit, tallies-cleared, pairs-cleared, spans_fit, again-fits, is-ready, redivided}
use Rattle.rest_lists.proofs.kept.divide_again.Goals as goal

pub overflow_mul-filled : goal.overflow_mul-filled
overflow_mul-filled c =
    record { fits = omega (arith, tallies-fit c.requires.4) }

pub overflow_mul-paired : goal.overflow_mul-paired
overflow_mul-paired c =
    record { fits = omega (arith, pairs-fit c.requires.4) }

pub overflow_mul-end : goal.overflow_mul-end
overflow_mul-end c =
    record { fits = omega (arith, spans_fit c.requires.4) }

pub slice_bounds-redivide-end : goal.slice_bounds-redivide-end
slice_bounds-redivide-end c =
    sym (length-take-le _ _ (spans_fit c.requires.4))

pub redivide-requires-clause-filled : goal.redivide-requires-clause-filled
redivide-requires-clause-filled c =
    (omega (arith, tallies-fit c.requires.4), omega (arith, pairs-fit c.requires.4))

pub redivide-requires-clause-fit : goal.redivide-requires-clause-fit
redivide-requires-clause-fit c = again-fits c.requires.4 _ _ refl refl

pub unwrap-ready-requires : goal.unwrap-ready-requires
unwrap-ready-requires c =
    let D = c.requires.4 in
    is-ready D _ _ (tallies-cleared D) (pairs-cleared D) _ _ _ _ _ _ c.redivide.ensures.divided

pub returns-clause-divided : goal.returns-clause-divided
returns-clause-divided c =
    λ O anchors s places D.
    redivided D _ _ (tallies-cleared D) (pairs-cleared D) _ _ _ _ _ _ c.redivide.ensures.divided c.unwrap-ready.ensures refl refl
