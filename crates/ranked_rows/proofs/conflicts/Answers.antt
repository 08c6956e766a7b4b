-- `ranked_rows::conflicts` meets its contract: its parts are those of `conflict_at`. Assumes nothing.
use mathlib.Core.Bool.{◌||◌}
use Rattle.junction_selection.specs.Ranks.{conflict_at}
use Rattle.ranked_rows.proofs.conflicts.Goals as goal

pub returns : goal.returns
unfolding conflict_at
returns c =
    λ i. c.reserves-own.ensures i || c.reserves-its.ensures i || c.share_port-port.ensures i || c.region_conflict.ensures i
