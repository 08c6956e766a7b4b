-- `result_writer::in_turn` meets its contract. The loop's invariant is `Turning`: the labels that are left, with the numbers started, say what all do. Assumes
-- nothing.
use Rattle.std.proofs.Common.{sym, ◌∙◌}
use Rattle.result_writer.proofs.Turning.{turning-goes_on, turning-stops, turning-ends}
use Rattle.result_writer.proofs.in_turn.Goals as goal

pub loop-label-preserved : goal.loop-label-preserved
loop-label-preserved c = turning-goes_on c.loop-label.invariant c.loop-label-test.true (sym c.after_label.ensures ∙ c.in-Some.is)

pub returns-in_default : goal.returns-in_default
returns-in_default c = turning-stops c.loop-label.invariant c.loop-label-test.true (sym c.after_label.ensures ∙ c.in_default.is)

pub returns : goal.returns
returns c = turning-ends c.loop-label.invariant c.loop-label-test.false
