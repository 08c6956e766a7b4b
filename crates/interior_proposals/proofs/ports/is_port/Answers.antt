-- `ports::is_port` meets its contract: of a candidate, the edges are the boundaries that it owns. Assumes nothing.
use mathlib.Core.Path.{ap, ap₂, ◌∙◌}
use mathlib.Core.Logic.{⊎_elim}
use Rattle.definitions.specs.Scan.{any}
use Rattle.context.specs.Shown.{pairs_between}
use Rattle.interior_proposals.specs.Owners.{owned_by, pair_named}
use Rattle.interior_proposals.proofs.Walks.{shown-walkable}
use Rattle.interior_proposals.proofs.CandidateLaws.{port-other, port-one, touches_is}
use Rattle.interior_proposals.proofs.ports.is_port.Goals as goal

pub touches-requires : goal.touches-requires
touches-requires c =
    rw (c.rows.ensures.0, c.rows.ensures.1) (shown-walkable c.requires.1.0.paired c.requires.1.0.told.long c.args.i c.requires.1.1)

pub returns-in-One : goal.returns-in-One
returns-in-One c = λ C M l o h. port-one M _ l o h _ c.in-One.is

pub returns-in-None : goal.returns-in-None
returns-in-None c =
    λ C M l o h. c.touches.ensures ∙ ap (any (pair_named c.args.known.names.now c.args.r)) (ap₂ (pairs_between c.args.context.pairs.now) c.rows.ensures.0 c.rows.ensures.1) ∙ touches_is M _ l ∙ port-other C _ _ M.from M.upto o l h (⊎_elim (λ e. ap (owned_by c.args.r) e) (λ e. ap (owned_by c.args.r) e) c.in-None.is)
