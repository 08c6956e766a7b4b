-- `replay_cases` meets its contract. The invariant: what is left is what stands behind the cases so far. Assumes nothing.
use Rattle.std.proofs.Common.{◌≡◌}
use Rattle.std.specs.Prelude.{IfSome, Some}
use Rattle.replay_lists.specs.Openings.{behind_cases}
use Rattle.replay_lists.proofs.replay_cases.Given as goal

abbrev pub invariant-loop : goal.invariant-loop
invariant-loop g l = IfSome (g.R.Read.remaining l.initial.input) (λ xs. g.R.Read.remaining l.input ≡ Some (behind_cases l.counter xs))
