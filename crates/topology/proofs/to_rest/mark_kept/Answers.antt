-- The kept spans are as many as the kept boundaries, so that what is lent is what a call with these lists is asked.
use Rattle.std.proofs.Common.{◌≡◌, ◌≤◌, ◌*◌, ◌/◌, ℕ, List, ap, length, arith}
use lib.ListN.{take}
use lib.Seq.{length-take-le}
use Rattle.topology.proofs.Resting.{counted-lent, counted-marks}
use Rattle.topology.proofs.to_rest.mark_kept.Goals as goal

spans-many : (spans : List ℕ) (k : ℕ) → 4 * k ≤ length spans → length (take (4 * k) spans) / 4 ≡ k
spans-many spans k room = omega (arith, length-take-le (4 * k) spans room)

pub mark_asked-requires-clause-few : goal.mark_asked-requires-clause-few
mark_asked-requires-clause-few c = c.requires.few.1

pub mark_asked-requires-clause-map_shown : goal.mark_asked-requires-clause-map_shown
mark_asked-requires-clause-map_shown c = (_, counted-lent (spans-many c.ends.result.now c.args.standing.kept (omega (arith, c.requires.room.0, ap length c.ends.ensures))) c.front.ensures c.requires.map_shown.1)

pub returns-clause-marked : goal.returns-clause-marked
returns-clause-marked c = λ M L.
    let many = spans-many c.ends.result.now c.args.standing.kept (omega (arith, c.requires.room.0, ap length c.ends.ensures)) in
    counted-marks many c.front.ensures (c.mark_asked.ensures.marked M (counted-lent many c.front.ensures L))
