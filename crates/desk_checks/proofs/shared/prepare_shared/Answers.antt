-- `desk_checks::shared::prepare_shared` meets its contract: it gives what the call with no boundaries, no anchors and no output is answered, of pass 1.
-- Assumes nothing.
use Rattle.std.proofs.Common.{rules}
use Rattle.desk_checks.proofs.SharedRefusals.{shared-as}
use Rattle.desk_checks.proofs.shared.prepare_shared.Goals as goal

pub returns-clause-shared : goal.returns-clause-shared
returns-clause-shared c =
    let last = c.prepare_lists.new.lists in
    let first = c.args.lists.now in
    shared-as _ _ _ _ _ first.labels.now first.masks.now first.queue.now first.tallies.now first.pairs.now c.prepare_lists.result last.labels.now last.masks.now last.queue.now last.tallies.now last.pairs.now (c.prepare_lists.ensures.prepared 1 (search rules))
