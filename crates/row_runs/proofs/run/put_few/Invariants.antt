-- `row_runs::run::put_few` meets its contract: the entries before c are filled. Assumes nothing.
use Rattle.row_runs.specs.Numbered.{Filled}
use Rattle.row_runs.proofs.run.put_few.Given as goal

abbrev pub invariant-loop-c : goal.invariant-loop-c
invariant-loop-c l = Filled l.from l.c l.value l.initial.list l.list
