-- A refusal over the shared lists goes to both; of a terrain that is ready the records are filled, masks and queue cleared, and both desks served (TwoDesks).
use Rattle.std.proofs.Common.{arith, refl}
use Rattle.std.proofs.lemmas.List.{length-map}
use Rattle.topology.proofs.Calling.{ready_fills, fills-on, needed-few}
use Rattle.topology.proofs.RestCall.{zeroed-on}
use Rattle.topology.proofs.TwoDesks.{shared-ready, shared-refused, both-refused, needed-within, partitioned, terrain-filled, both-served}
use Rattle.context.specs.Records.{record_of}
use Rattle.topology.proofs.two_desks.topology_two_desks.Goals as goal

pub returns-in-Err-clause-ran : goal.returns-in-Err-clause-ran
returns-in-Err-clause-ran c =
    both-refused (shared-refused c.prepare_shared.ensures.shared c.in-Err.is (length-map c.args.records.now record_of)) (refl, refl)

pub fill_from_lists-requires : goal.fill_from_lists-requires
fill_from_lists-requires c =
    let R = shared-ready c.prepare_shared.ensures.shared c.in-Ok.is in
    (_, fills-on _ c.grid-grid.ensures (ready_fills R c.prepare_shared.ensures.same.queue_long_lem))

pub overflow_mul-grid : goal.overflow_mul-grid
overflow_mul-grid c =
    let R = shared-ready c.prepare_shared.ensures.shared c.in-Ok.is in
    rw c.grid-grid.ensures (record { fits = omega (arith, needed-few R) })

pub clear_scratch-requires : goal.clear_scratch-requires
clear_scratch-requires c =
    let R = shared-ready c.prepare_shared.ensures.shared c.in-Ok.is in
    rw c.grid-grid.ensures
    (needed-within (partitioned {s = c.args.records.now} R c.prepare_shared.ensures.same.masks_long c.prepare_shared.ensures.same.queue_long_lem))

pub run_desks-requires : goal.run_desks-requires
run_desks-requires c =
    let R = shared-ready c.prepare_shared.ensures.shared c.in-Ok.is in
    let F = c.fill_from_lists.ensures _ (fills-on _ c.grid-grid.ensures (ready_fills R c.prepare_shared.ensures.same.queue_long_lem)) in (
      _,
      terrain-filled R c.prepare_shared.ensures.same.masks_long c.prepare_shared.ensures.same.queue_long_lem F
          (zeroed-on _ _ c.grid-grid.ensures c.clear_scratch.ensures.0) (zeroed-on _ _ c.grid-grid.ensures c.clear_scratch.ensures.1),
    )

pub returns-in-Ok-clause-ran : goal.returns-in-Ok-clause-ran
returns-in-Ok-clause-ran c =
    let R = shared-ready c.prepare_shared.ensures.shared c.in-Ok.is in
    let F = c.fill_from_lists.ensures _ (fills-on _ c.grid-grid.ensures (ready_fills R c.prepare_shared.ensures.same.queue_long_lem)) in
    let T = terrain-filled R c.prepare_shared.ensures.same.masks_long c.prepare_shared.ensures.same.queue_long_lem F
    (zeroed-on _ _ c.grid-grid.ensures c.clear_scratch.ensures.0) (zeroed-on _ _ c.grid-grid.ensures c.clear_scratch.ensures.1) in
    both-served T (c.run_desks.ensures _ T)
