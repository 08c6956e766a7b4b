-- `step` meets its contract, in the two cases of Gathering. Assumes nothing.
use Rattle.assessments.proofs.Gathering.{assesses-together, assesses-apart}
use Rattle.assessments.proofs.Assessing.step.Goals as goal

pub returns-then-left-right-clause-assessed : goal.returns-then-left-right-clause-assessed
returns-then-left-right-clause-assessed c = assesses-together _ _ c.if-left-right.true

pub returns-clause-assessed : goal.returns-clause-assessed
returns-clause-assessed c = assesses-apart _ _ c.if-left-right.false c.min.ensures c.max.ensures c.put_pair-put.ensures.added
