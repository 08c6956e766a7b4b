-- `junction_proposals::ports::find_incidents` meets its contract. The loop's invariant: the first n entries are the boundaries below j that name a region of the union.
-- Assumes nothing.
use Rattle.std.proofs.Common.{rules, arith, ◌≡◌, ◌<◌, length, get_or, sym, ap, ap₂, ◌∙◌}
use mathlib.Core.Bool.{◌||◌}
use lib.ListN.{take, length-set}
use lib.Seq.{get_or-take, length-take-le}
use Rattle.std.specs.Prelude.{None}
use Rattle.definitions.specs.Grid.{contains}
use Rattle.definitions.specs.Context.{holds}
use Rattle.context.specs.Rows.{pair_form, full_pair_of}
use Rattle.junction_proposals.specs.Ports.{names, names_either}
use Rattle.junction_proposals.proofs.Incidents.{listed_start, listed-other, listed-named}
use Rattle.junction_proposals.proofs.ports.find_incidents.Goals as goal
use Rattle.junction_proposals.proofs.ports.find_incidents.Goals.{then-names_region, else-names_region}

pub loop-j-init : goal.loop-j-init
loop-j-init c = (search rules, (c.requires.1, listed_start _ _ _))

pub loop-j-preserved : goal.loop-j-preserved
unfolding names
loop-j-preserved c =
    let full = c.args.full.now in
    let j = c.loop-j.j in
    let long : length full ≡ 256 = search rules in
    let within : j < c.args.count = omega (arith, c.loop-j-test.true, length-take-le c.args.count full (omega (arith, c.requires.0, long))) in
    let item : get_or (take c.args.count full) j None ≡ get_or full j None = get_or-take c.args.count full j None within in
    let named : (c.names_region.result || c.names_region-in-loop-j.result) ≡ names_either full (pair_form c.args.union) j =
    ap₂ ◌||◌ (c.names_region.ensures ∙ ap (λ o. holds (full_pair_of o) (contains c.args.union.lo)) item) (c.names_region-in-loop-j.ensures ∙ ap (λ o. holds (full_pair_of o) (contains c.args.union.hi)) item) in (
      omega (arith, within),
      elim c.if-names_region.branch [
        | then-names_region w ↦ rw (w.incidents-is, w.n-is) (simp length-set c.loop-j.invariant.1.0, listed-named _ _ c.loop-j.invariant.1.1 (omega (arith, c.loop-j.invariant.1)) (sym named ∙ w.if-names_region.true))
        | else-names_region w ↦ rw (w.incidents-is, w.n-is) (c.loop-j.invariant.1.0, listed-other _ _ c.loop-j.invariant.1.1 (sym named ∙ w.if-names_region.false))
      ],
    )
