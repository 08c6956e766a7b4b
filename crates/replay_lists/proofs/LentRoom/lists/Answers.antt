-- `LentRoom::lists` meets its contract: of each list the part that its number asks for. Assumes nothing.
use Rattle.std.proofs.Common.{ap, take}
use Rattle.replay_lists.proofs.LentRoom.lists.Goals as goal

pub returns-clause-labels : goal.returns-clause-labels
returns-clause-labels c = ap (λ n. take n c.args.self.now.labels) c.length_within.ensures.least

pub returns-clause-masks : goal.returns-clause-masks
returns-clause-masks c = ap (λ n. take n c.args.self.now.masks) c.length_within-2.ensures.least

pub returns-clause-queue : goal.returns-clause-queue
returns-clause-queue c = ap (λ n. take n c.args.self.now.queue) c.length_within-3.ensures.least

pub returns-clause-tallies : goal.returns-clause-tallies
returns-clause-tallies c = ap (λ n. take n c.args.self.now.tallies) c.length_within-4.ensures.least

pub returns-clause-pairs : goal.returns-clause-pairs
returns-clause-pairs c = ap (λ n. take n c.args.self.now.pairs) c.length_within-5.ensures.least
