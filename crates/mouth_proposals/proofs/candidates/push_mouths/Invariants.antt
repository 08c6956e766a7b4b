-- `candidates::push_mouths` meets its contract. The invariant: the entries are the candidates of the mouths passed, at most one a mouth. Assumes nothing.
use Prim.Native.Nat.{◌≤◌}
use mathlib.Core.Path.{◌≡◌}
use mathlib.Core.Bool.{true, false}
use Rattle.definitions.specs.Scan.{collect}
use Rattle.definitions.specs.Context.{Context, full_cut, no_ramp}
use Rattle.context.specs.Shown.{ShownTallies}
use Rattle.mouth_proposals.specs.Lent.{PassShows}
use Rattle.mouth_proposals.specs.Candidates.{mouth_candidate}
use Rattle.mouth_proposals.specs.Ends.{EndsOf}
use Rattle.mouth_proposals.specs.Listed.{Filled, Roomy}
use Rattle.mouth_proposals.proofs.candidates.push_mouths.Given as goal

abbrev pub invariant-loop-m : goal.invariant-loop-m
invariant-loop-m l =
    (l.m ≤ l.context.count) × ((l.n ≤ l.m) × (Roomy l.entries × ((C : Context) → PassShows l.context l.regions C → ShownTallies C l.context.tallies.now
    → no_ramp C l.ramp.boundary ≡ false → full_cut C l.ramp.boundary ≡ true → EndsOf C l.ramp.boundary l.ramp.ends → Filled C l.entries l.n (collect l.m (mouth_candidate C l.ramp.boundary)))))
