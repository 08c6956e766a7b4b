-- Either order: the desk that goes second finds the terrain as the first found it (TwoDesks).
use Rattle.std.proofs.Common.{refl}
use Rattle.topology.proofs.TwoDesks.{terrain-again, route-before, coaching-before}
use Rattle.topology.proofs.two_desks.run_desks.Goals as goal

pub run_desk-coaching-requires : goal.run_desk-coaching-requires
run_desk-coaching-requires c =
    let T = c.requires.1 in
    let first = c.run_desk-route.ensures _ T in (_, terrain-again T first.same_masks first.same_queue)

pub returns-in-RouteFirst : goal.returns-in-RouteFirst
returns-in-RouteFirst c = λ G T.
    let first = c.run_desk-route.ensures G T in
    route-before (refl, refl) first (c.run_desk-coaching.ensures G (terrain-again T first.same_masks first.same_queue))

pub run_desk-route-requires-in-CoachingFirst : goal.run_desk-route-requires-in-CoachingFirst
run_desk-route-requires-in-CoachingFirst c =
    let T = c.requires.1 in
    let first = c.run_desk-coaching-in-CoachingFirst.ensures _ T in (_, terrain-again T first.same_masks first.same_queue)

pub returns-in-CoachingFirst : goal.returns-in-CoachingFirst
returns-in-CoachingFirst c = λ G T.
    let first = c.run_desk-coaching-in-CoachingFirst.ensures G T in
    coaching-before (refl, refl) first (c.run_desk-route-in-CoachingFirst.ensures G (terrain-again T first.same_masks first.same_queue))
