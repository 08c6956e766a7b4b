-- `stretches::with_stretch` meets its contract: the stretch is a run that fits, and what `with_run` gives is the record of the cells before its end (`added`).
-- Assumes nothing.
use native.Mathlib.Omega.{arith}
use Rattle.stretches.proofs.Adding.{wide, adding-counted, adding-fits, added}
use Rattle.stretches.proofs.with_stretch.Goals as goal

pub nonzero_rem-from : goal.nonzero_rem-from
nonzero_rem-from c = omega (arith, wide c.requires.2)

pub nonzero_div-from : goal.nonzero_div-from
nonzero_div-from c = omega (arith, wide c.requires.2)

pub with_run-requires : goal.with_run-requires
with_run-requires c = let A = c.requires.2 in record { counted = adding-counted A; fitting = adding-fits A }

pub returns : goal.returns
returns c = λ M id A. added A c.with_run.ensures
