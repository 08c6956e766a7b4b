-- Of every context that is shown, the places before `k` are looked at.
use Rattle.std.proofs.Common.{◌≤◌}
use Rattle.definitions.specs.Context.{Context}
use Rattle.topology.specs.Interiors.{Asks}
use Rattle.topology.proofs.InteriorLoops.{Looking}
use Rattle.topology.proofs.interior_pass.interior_fits.Given as goal

abbrev pub invariant-loop-k : goal.invariant-loop-k
invariant-loop-k l = (l.k ≤ l.interior.end) × ((C : Context) → Asks C l.records l.context.boundaries.now l.context.pairs.now l.names l.interior → Looking C l.context.pairs.now l.names l.interior l.fits l.ramp l.k)
