-- `accession::rules::own_ascends` meets its contract. Assumes nothing.
use mathlib.Core.Path.{ap, ap₂, ◌∙◌}
use lib.Dec.{ltb}
use borrow.Author.Rules.{rules}
use Rattle.accession.proofs.Steps.{ascends_first, ascends_next}
use Rattle.accession.proofs.rules.own_ascends.Goals as goal

pub returns-then-i-eq0 : goal.returns-then-i-eq0
returns-then-i-eq0 c =
    ap (λ r. ltb 0 r.own) c.accession_at.ensures ∙ ascends_first c.args.records.now c.args.i c.if-i-eq0.true

pub returns : goal.returns
returns c =
    ap₂ (λ q r. ltb q.own r.own) c.accession_at-2.ensures c.accession_at-3.ensures ∙ ascends_next c.args.records.now c.args.i (search rules)
