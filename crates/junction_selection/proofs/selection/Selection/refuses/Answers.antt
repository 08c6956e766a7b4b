-- `junction_selection::selection::Selection::refuses` meets its contract, from what its callees ensure. Assumes nothing.
use native.Mathlib.Omega.{arith}
use mathlib.Core.Bool.{false}
use mathlib.Core.Path.{ap, ◌∙◌}
use lib.ListN.{get_or}
use Rattle.definitions.specs.Scan.{any}
use Rattle.definitions.specs.Junctions.{region_conflict}
use Rattle.junction_proposals.specs.Rows.{row_at}
use Rattle.junction_selection.proofs.Standings.{refused, order-front}
use Rattle.junction_selection.proofs.selection.Selection.refuses.Goals as goal

pub returns : goal.returns
returns c chosen st =
    refused c.args.found.now.lists.now.full.now c.args.found.now.rows.now c.args.self.now.taken c.args.self.now.removed.now c.args.self.now.reserved c.args.found.now.lists.now.count c.args.self.now.count chosen st c.args.p c.requires.selecting.below c.requires.places.1
    c.port_taken-ports.ensures (λ i. get_or c.args.self.now.reserved (row_at c.args.found.now.rows.now c.args.p).index false) (c.region_taken.ensures ∙ ap (any (λ q. region_conflict q.kind (row_at c.args.found.now.rows.now c.args.p).kind q (row_at c.args.found.now.rows.now c.args.p)))
    (order-front c.args.found.now.rows.now c.args.self.now.taken c.args.self.now.count (omega (arith, c.requires.places.0, c.requires.selecting.few, c.requires.selecting.room))))
