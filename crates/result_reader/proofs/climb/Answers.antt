-- `result_reader::climb` meets its contract: by what is remembered. Assumes nothing.
use Rattle.std.proofs.Common.{sym, ap, ◌∙◌}
use Rattle.std.specs.Prelude.{Ok}
use Rattle.result_writer.proofs.ListOrder.{less_is}
use Rattle.result_reader.proofs.Steps.{climbed_on, climbed_not}
use Rattle.result_reader.proofs.climb.Goals as goal

pub returns-then-lt : goal.returns-then-lt
returns-then-lt g c = climbed_on _ _ (c.in_ok-before.was ∙ ap Ok c.in-Some.is) (sym (less_is _ _ _ c.lt.ensures) ∙ c.if-lt.true)

pub returns-else-lt : goal.returns-else-lt
returns-else-lt g c = climbed_not _ _ (c.in_ok-before.was ∙ ap Ok c.in-Some.is) (sym (less_is _ _ _ c.lt.ensures) ∙ c.if-lt.false)
