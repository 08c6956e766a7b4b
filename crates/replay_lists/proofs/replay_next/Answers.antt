-- `replay_lists::replay_next` meets its contract, by the search; written so that a wrong body is refused sooner. Assumes nothing.
use Rattle.std.proofs.Common.{rules}
use Rattle.replay_lists.proofs.Reading.{none_behind}
use Rattle.replay_lists.proofs.replay_next.Goals as goal

pub slice_bounds-replay-end : goal.slice_bounds-replay-end
slice_bounds-replay-end c = search rules

pub returns-in_default-clause-taken : goal.returns-in_default-clause-taken
returns-in_default-clause-taken g c =
    let r = c.in_ok-opening in
    none_behind r.field-0 _ _ (search rules) r.ensures.next r.ensures.taken
