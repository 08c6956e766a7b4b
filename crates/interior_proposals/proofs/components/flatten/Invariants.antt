-- `components::flatten` meets its contract. The invariant: the parents of the regions up to k are their names, and the others still lead to theirs. Assumes nothing.
use Prim.Native.Nat.{ℕ, suc, ◌≤◌}
use mathlib.Core.Path.{◌≡◌}
use mathlib.Core.List.{List}
use lib.ListN.{length}
use Rattle.laws.specs.ListLaws.Beyond.{Beyond}
use Rattle.interior_proposals.specs.Forest.{Parented}
use Rattle.interior_proposals.proofs.Forests.{Flat}
use Rattle.interior_proposals.proofs.components.flatten.Given as goal

abbrev pub invariant-loop-k : goal.invariant-loop-k
invariant-loop-k l = (l.k ≤ l.regions) × Beyond l.regions l.initial.parents l.parents × ((cs : List ℕ) → Parented cs l.initial.parents → length cs ≡ suc l.regions → Flat cs l.initial.parents l.parents l.k)
