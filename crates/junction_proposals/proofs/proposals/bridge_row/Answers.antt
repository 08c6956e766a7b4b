-- `junction_proposals::proposals::bridge_row` meets its contract: the boundary of a bridge is one of `count`, so that its number fits. Assumes nothing.
use Rattle.std.proofs.Common.{arith, ℕ, ◌∙◌, sym, ap, subst}
use Rattle.std.specs.Prelude.{Some}
use Rattle.definitions.specs.Junctions.{Proposal}
use Rattle.laws.specs.ListLaws.Options.{OnO, present}
use Rattle.junction_proposals.specs.Bridges.{bridge_form}
use Rattle.junction_proposals.specs.Rows.{RowFits}
use Rattle.junction_proposals.proofs.BridgeIndex.{bridge_fits_lem}
use Rattle.junction_proposals.proofs.proposals.bridge_row.Goals as goal

there : {count regions : ℕ} {p : Proposal} → OnO (RowFits count regions) (Some p) → RowFits count regions p
there (present h) = h

pub overflow_cast-result : goal.overflow_cast-result
overflow_cast-result c =
    let l = c.args.lists.now in
    let fits = there (subst (OnO (RowFits l.count l.regions)) (sym c.bridge_of.ensures ∙ ap (bridge_form c.args.r) c.in_ok-bridge.was)
    (bridge_fits_lem l.boundaries.now l.full.now l.marks.now c.args.r l.count l.regions c.requires.lent.pairs c.requires.r_named.0 c.requires.r_named.1 l.counts.now)) in
    record { fits = omega (arith, fits.index_in, c.requires.lent.bounds.few) }
