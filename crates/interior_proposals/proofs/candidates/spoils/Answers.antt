-- `candidates::spoils` meets its contract: by the owner, an edge has all its pairs in the component, or some elsewhere. Assumes nothing.
use mathlib.Core.Path.{sym, ap, ap₂, ◌∙◌}
use borrow.Author.Tests.{ne_eqb}
use Rattle.definitions.specs.Scan.{any}
use Rattle.context.specs.Shown.{pairs_between}
use Rattle.interior_proposals.specs.Owners.{owned_by, pair_named}
use Rattle.interior_proposals.specs.Candidates.{pair_marked}
use Rattle.interior_proposals.proofs.Walks.{shown-walkable}
use Rattle.interior_proposals.proofs.Commons.{nobody_several}
use Rattle.interior_proposals.proofs.CandidateLaws.{spoils_one, spoils_not, spoils_other, spoils_several, anchored_is, touches_edge}
use Rattle.interior_proposals.proofs.candidates.spoils.Goals as goal

pub any_anchored-requires : goal.any_anchored-requires
any_anchored-requires c =
    rw (c.rows-rows.ensures.0, c.rows-rows.ensures.1) (shown-walkable c.requires.1.0.paired c.requires.1.0.marked.long c.args.i c.requires.1.1)

pub touches-requires : goal.touches-requires
touches-requires c =
    rw (c.rows-rows.ensures.0, c.rows-rows.ensures.1) (shown-walkable c.requires.1.0.paired c.requires.1.0.told.long c.args.i c.requires.1.1)

pub returns-in-None : goal.returns-in-None
returns-in-None c =
    λ C M l o. sym (spoils_other C _ _ M.from M.upto o (ap (owned_by c.args.r) c.in-None.is) (λ e. nobody_several (sym c.in-None.is ∙ e)))

pub returns-then-name-r : goal.returns-then-name-r
returns-then-name-r c =
    λ C M l o. spoils_one C _ _ M.from M.upto o c.in-One.is c.if-name-r.true (c.any_anchored.ensures ∙ ap (any (pair_marked c.args.known.marks.now)) (ap₂ (pairs_between c.args.context.pairs.now) c.rows-rows.ensures.0 c.rows-rows.ensures.1) ∙ anchored_is M _ l)

pub returns-else-name-r : goal.returns-else-name-r
returns-else-name-r c =
    λ C M l o. ne_eqb _ _ c.if-name-r.false ∙ spoils_not C _ _ M.from M.upto o c.in-One.is c.if-name-r.false

pub returns-in-Several : goal.returns-in-Several
returns-in-Several c =
    λ C M l o. c.touches.ensures ∙ ap (any (pair_named c.args.known.names.now c.args.r)) (ap₂ (pairs_between c.args.context.pairs.now) c.rows-rows.ensures.0 c.rows-rows.ensures.1) ∙ touches_edge M _ l (o.ordinary c.in-Several.is) ∙ sym (spoils_several C _ _ M.from M.upto o c.in-Several.is)
