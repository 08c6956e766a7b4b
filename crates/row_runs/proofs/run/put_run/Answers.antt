-- `row_runs::run::put_run` meets its contract: what is filled with the first cell is the run's. Assumes nothing.
use Rattle.row_runs.proofs.RunNames.{run_put}
use Rattle.row_runs.proofs.run.put_run.Goals as goal

pub returns : goal.returns
returns c =
    λ n name F fresh ends. run_put F fresh c.requires.low ends c.put_alike.ensures
