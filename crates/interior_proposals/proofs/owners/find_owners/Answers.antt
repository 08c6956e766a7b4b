-- `owners::find_owners` meets its contract. The invariant: the owners of the boundaries passed are stored. Assumes nothing.
use native.Mathlib.Omega.{arith}
use lib.ListN.{length-set}
use Rattle.interior_proposals.specs.Owners.{nobody, Owned}
use Rattle.interior_proposals.proofs.Stored.{filled_more}
use Rattle.interior_proposals.proofs.owners.find_owners.Goals as goal

pub loop-i-preserved : goal.loop-i-preserved
loop-i-preserved c =
    let inv = c.loop-i.invariant in
    (simp length-set inv.0, λ C K e. filled_more (Owned C) nobody c.loop-i.owner-items (inv.1 C K e) (omega (arith, c.loop-i-test.true)) (c.owner_of.ensures C K (omega (arith, e, inv.0, c.loop-i-test.true))))
