-- `write_partition` meets its contract: what is written of a list is what changed of the entries that were lent. Assumes nothing.
use Rattle.std.proofs.Common.{subst, ◌≡◌}
use Rattle.replay_lists.specs.Contract.{Changed}
use Rattle.replay_lists.proofs.write_partition.Goals as goal

pub returns-clause-labels_changed : goal.returns-clause-labels_changed
returns-clause-labels_changed g c = subst (λ l. Changed (λ x y. y ≡ x) l c.in_ok-labels.labels) c.lent.ensures c.in_ok-labels.ensures

pub returns-clause-tallies_changed : goal.returns-clause-tallies_changed
returns-clause-tallies_changed g c = subst (λ l. Changed (λ x y. y ≡ x) l c.in_ok-tallies.tallies) c.lent-2.ensures c.in_ok-tallies.ensures

pub returns-clause-pairs_changed : goal.returns-clause-pairs_changed
returns-clause-pairs_changed g c = subst (λ l. Changed (λ x y. y ≡ x) l c.in_ok-pairs.pairs) c.lent-3.ensures c.in_ok-pairs.ensures
