-- `owners::owner_of` meets its contract, by the test. Assumes nothing.
use mathlib.Core.Path.{sym, ap₂, subst, ◌∙◌}
use Rattle.context.specs.Shown.{pairs_between}
use Rattle.interior_proposals.specs.Owners.{Common}
use Rattle.interior_proposals.proofs.Preparing.{components-size}
use Rattle.interior_proposals.proofs.Walks.{names-long, shown-walkable}
use Rattle.interior_proposals.proofs.Commons.{owned_none, owned}
use Rattle.interior_proposals.proofs.owners.owner_of.Goals as goal

pub common_name-requires : goal.common_name-requires
common_name-requires c =
    let K = c.requires.1.0 in
    rw (c.rows.ensures.0, c.rows.ensures.1) (shown-walkable K.given.paired (names-long c.requires.0 K.named) c.args.i c.requires.1.1)

pub returns-then-is_ordinary : goal.returns-then-is_ordinary
returns-then-is_ordinary c =
    λ C K l.
    owned C _ K.named (components-size C) K.given.paired l (sym (c.is_ordinary.ensures C K.given.bounds K.given.tallied l) ∙ c.if-is_ordinary.true) (subst (λ ps. Common c.args.names.now ps c.common_name.result) (ap₂ (pairs_between c.args.context.pairs.now) c.rows.ensures.0 c.rows.ensures.1) c.common_name.ensures)

pub returns-else-is_ordinary : goal.returns-else-is_ordinary
returns-else-is_ordinary c =
    λ C K l. owned_none C _ (sym (c.is_ordinary.ensures C K.given.bounds K.given.tallied l) ∙ c.if-is_ordinary.false)
