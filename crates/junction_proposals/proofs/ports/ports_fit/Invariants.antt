-- `junction_proposals::ports::ports_fit` meets its contract. The outer loop's invariant: the regions passed fit. The inner loop's: of the incidents passed none is unfit,
-- and `met` of them name the region. Assumes nothing.
use mathlib.Core.Path.{◌≡◌}
use mathlib.Core.Bool.{true}
use lib.ListN.{take}
use Rattle.std.specs.List.{list_all}
use Rattle.context.specs.Rows.{pair_form}
use Rattle.junction_proposals.specs.Ports.{region_fits}
use Rattle.junction_proposals.proofs.RegionPorts.{Met, both_sides}
use Rattle.junction_proposals.proofs.ports.ports_fit.Given as goal

abbrev pub invariant-loop-j : goal.invariant-loop-j
invariant-loop-j l = (l.fit ≡ true) × Met l.lists.full.now l.divider.index (pair_form l.divider.union) l.r l.divider.incidents.now l.j-index l.met

abbrev pub invariant-regions : goal.invariant-regions
invariant-regions l =
    let f = l.lists.full.now in
    let n = l.lists.counts.now in
    let p = pair_form l.divider.union in
    (l.fit ≡ true) × (list_all (region_fits f n l.lists.count l.divider.index p) (take l.r-index (both_sides f n l.lists.count l.divider.index p)) ≡ true)
