-- `runs::call` meets its contract: the call is lent what `lent_for` says. Assumes nothing.
use Rattle.sheet_answer.proofs.Calling.{called}
use Rattle.sheet_answer.proofs.runs.call.Goals as goal

pub returns : goal.returns
returns c = called c.requires c.kept_boundaries_here.ensures.ran.ran
