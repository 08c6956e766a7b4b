-- `components::join_cuts` meets its contract. The invariant: the links of the boundaries passed are merged. Assumes nothing.
use Prim.Native.Nat.{◌≤◌}
use mathlib.Core.Path.{◌≡◌}
use Rattle.definitions.specs.Scan.{gather}
use Rattle.definitions.specs.Context.{Context}
use Rattle.interior_proposals.specs.Forest.{Parented, Merged}
use Rattle.interior_proposals.specs.Given.{Given, alone, links_of}
use Rattle.interior_proposals.proofs.components.join_cuts.Given as goal

abbrev pub invariant-loop-i : goal.invariant-loop-i
invariant-loop-i l = (l.i ≤ l.context.count) × ((C : Context) → Given C l.context.boundaries.now l.context.tallies.now l.context.pairs.now l.context.starts.now → C.count ≡ l.context.count → Parented (alone C) l.initial.parents → Merged (alone C) l.initial.parents (gather l.i (links_of C)) l.parents)
