-- `apart::least_doubtful` meets its contract: the keys are sorted, and neighbours compared. Assumes nothing.
use Rattle.pool_faults.proofs.Neighbours.{sorted_tells, positions_kept}
use Rattle.pool_faults.proofs.apart.least_doubtful.Goals as goal

pub least_astray-requires : goal.least_astray-requires
least_astray-requires c =
    positions_kept _ _ c.sort_numbers.ensures c.requires

pub returns : goal.returns
returns c =
    (c.least_astray.ensures.0, sorted_tells _ _ _ c.sort_numbers.ensures c.least_astray.ensures.1)
