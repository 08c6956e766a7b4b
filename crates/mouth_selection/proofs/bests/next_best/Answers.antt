-- `bests::next_best` meets its contract: nothing is left where no boundary can be a mouth, else the least of the bests is next. Assumes nothing.
use mathlib.Core.Path.{sym, subst, ◌∙◌}
use borrow.Author.Rules.{rules}
use Rattle.laws.specs.ListLaws.Options.{absent}
use Rattle.mouth_selection.specs.Selecting.{NextBest}
use Rattle.mouth_selection.proofs.RoundLaws.{least_taken, next_is}
use Rattle.mouth_selection.proofs.bests.next_best.Goals as goal

pub returns-then-all_gone : goal.returns-then-all_gone
returns-then-all_gone c = λ C T L S B. record { listed = absent; least = c.all_gone.ensures C T L S c.if-all_gone.true }

pub returns : goal.returns
returns c = λ C T L S B. subst (NextBest C T c.args.bests.now c.args.context.count) (sym (c.least_best.ensures ∙ least_taken c.args.context.boundaries.now c.args.bests.now c.args.context.count (search rules))) (next_is L.bounds L.counted B)
