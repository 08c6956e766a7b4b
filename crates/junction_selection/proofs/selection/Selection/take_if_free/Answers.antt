-- `junction_selection::selection::Selection::take_if_free` meets its contract, from what its callees ensure. Assumes nothing.
use native.Mathlib.Omega.{arith}
use mathlib.Core.Path.{refl}
use Rattle.junction_selection.proofs.Standings.{standing-kept, standing-taken}
use Rattle.junction_selection.proofs.selection.Selection.take_if_free.Goals as goal

pub returns-then-refuses-clause-standing : goal.returns-then-refuses-clause-standing
returns-then-refuses-clause-standing c =
    λ chosen st. standing-kept c.args.found.now.lists.now.full.now c.args.found.now.rows.now c.args.self.now.taken c.args.self.now.removed.now c.args.self.now.reserved c.args.found.now.lists.now.count c.args.self.now.count chosen st c.args.p (c.refuses.ensures chosen st) c.if-refuses.true

pub returns-clause-standing : goal.returns-clause-standing
returns-clause-standing c =
    λ chosen st.
    standing-taken c.args.found.now.lists.now.full.now c.args.found.now.rows.now c.args.self.now.taken c.args.self.now.removed.now c.args.self.now.reserved c.args.found.now.lists.now.count c.args.self.now.count chosen st c.args.p _ _ (c.refuses.ensures chosen st) c.if-refuses.false (omega (arith, c.requires.selecting.few, c.requires.selecting.room, c.requires.places)) c.requires.places.1 refl
    (omega (arith, c.requires.selecting.below c.args.p c.requires.places.1, c.requires.selecting.removed-long)) c.reserve_ports.ensures
