-- `mouth_pass::best_of_candidates` meets its contract: the entries are the candidates of the ramp. Assumes nothing.
use native.Mathlib.Omega.{arith}
use Rattle.topology.proofs.MouthLoops.{ramp-entries, entries-front, ramp-best}
use Rattle.mouth_selection.proofs.NearLeast.{near_front}
use mathlib.Core.Path.{◌∙◌}
use Prim.Native.Nat.{◌≤◌}
use lib.ListN.{length}
use Rattle.topology.proofs.mouth_pass.best_of_candidates.Goals as goal

pub best_near-requires : goal.best_near-requires
best_near-requires c =
    let A = c.requires.1.1.0 in
    let few : c.push_ramp-n.result ≤ length c.push_ramp-n.new.entries = omega (arith, c.push_ramp-n.ensures.bound, c.push_ramp-n.auto.entries) in
    record {
      asked = (c.requires.0, (c.requires.1.0, (entries-front few (ramp-entries A (c.push_ramp-n.ensures.filled c.requires.0 A.shows A.cuts).listed), c.requires.1.1.1)));
    }

pub returns-clause-best : goal.returns-clause-best
returns-clause-best c = λ C T A S.
    let F = c.push_ramp-n.ensures.filled C A.shows A.cuts in
    let few : c.push_ramp-n.result ≤ length c.push_ramp-n.new.entries = omega (arith, c.push_ramp-n.ensures.bound, c.push_ramp-n.auto.entries) in
    let N = c.best_near.ensures.least C T (entries-front few (ramp-entries A F.listed)) S in
    ramp-best A F (record { known = N.known; least = N.least ∙ near_front C T c.push_ramp-n.new.entries c.push_ramp-n.result few })
