-- A refusal of the beginning is the call's; where the first partition is ready and the records are filled the run stands at all places; at rest the rows are
-- written (RestCall).
use Rattle.std.proofs.Common.{rules, refl, arith, ◌≡◌}
use Rattle.std.specs.Prelude.{Err}
use Rattle.call_partition.specs.Asking.{grid_in}
use Rattle.topology.proofs.Calling.{needed-few, fills-on}
use Rattle.topology.proofs.RestCall.{begun_when, refused_over, begun_fills, stands_first, rest-scratch, rest-room, rest_over, stands-on, rests-on, zeroed-on}
use Rattle.topology.proofs.to_rest.topology_run_to_rest.Goals as goal

pub returns-in_err-ready-clause-rests : goal.returns-in_err-ready-clause-rests
returns-in_err-ready-clause-rests c =
    let given : c.from_residual.result ≡ Err c.in_err-ready.field-0.0 = search rules in
    rw given (refused_over _ _ _ c.begin_rest.ensures.begun c.in_err-ready.was)

pub fill_from_lists-requires : goal.fill_from_lists-requires
fill_from_lists-requires c =
    (_, fills-on (grid_in c.args.asked) c.grid-grid.ensures (begun_fills (begun_when c.begin_rest.ensures.begun c.in_ok-ready.was) c.begin_rest.ensures.same.queue_long_lem))

pub run_turns-rest-requires : goal.run_turns-rest-requires
run_turns-rest-requires c =
    let begun = begun_when c.begin_rest.ensures.begun c.in_ok-ready.was in
    let size = c.begin_rest.ensures.same in
    let x = grid_in c.args.asked in
    let fills = fills-on x c.grid-grid.ensures (begun_fills begun size.queue_long_lem) in
    let T = stands_first begun c.args.output.now refl refl (c.fill_from_lists.ensures _ fills) c.fill_from_lists.auto.records size.labels_long size.masks_long size.queue_long_lem size.tallies_long size.pairs_long in
    (_, _, stands-on x c.grid-grid.ensures T)

pub overflow_mul-grid : goal.overflow_mul-grid
overflow_mul-grid c =
    let begun = begun_when c.begin_rest.ensures.begun c.in_ok-ready.was in
    let size = c.begin_rest.ensures.same in
    let x = grid_in c.args.asked in
    let fills = fills-on x c.grid-grid.ensures (begun_fills begun size.queue_long_lem) in
    let T = stands_first begun c.args.output.now refl refl (c.fill_from_lists.ensures _ fills) c.fill_from_lists.auto.records size.labels_long size.masks_long size.queue_long_lem size.tallies_long size.pairs_long in
    rw c.grid-grid.ensures (record { fits = omega (arith, needed-few T.lists.ready) })

pub finish_rest-requires-clause-scratch : goal.finish_rest-requires-clause-scratch
finish_rest-requires-clause-scratch c =
    let begun = begun_when c.begin_rest.ensures.begun c.in_ok-ready.was in
    let size = c.begin_rest.ensures.same in
    let x = grid_in c.args.asked in
    let fills = fills-on x c.grid-grid.ensures (begun_fills begun size.queue_long_lem) in
    let T = stands_first begun c.args.output.now refl refl (c.fill_from_lists.ensures _ fills) c.fill_from_lists.auto.records size.labels_long size.masks_long size.queue_long_lem size.tallies_long size.pairs_long in
    rw c.grid-grid.ensures (rest-scratch (rests-on x c.grid-grid.ensures (c.run_turns-rest.ensures.rests _ _ (stands-on x c.grid-grid.ensures T))))

pub finish_rest-requires-clause-room : goal.finish_rest-requires-clause-room
finish_rest-requires-clause-room c =
    let begun = begun_when c.begin_rest.ensures.begun c.in_ok-ready.was in
    let size = c.begin_rest.ensures.same in
    let x = grid_in c.args.asked in
    let fills = fills-on x c.grid-grid.ensures (begun_fills begun size.queue_long_lem) in
    let T = stands_first begun c.args.output.now refl refl (c.fill_from_lists.ensures _ fills) c.fill_from_lists.auto.records size.labels_long size.masks_long size.queue_long_lem size.tallies_long size.pairs_long in
    let room = rest-room (rests-on x c.grid-grid.ensures (c.run_turns-rest.ensures.rests _ _ (stands-on x c.grid-grid.ensures T))) in
    (room.1, room.2, room.3)

pub returns-clause-rests : goal.returns-clause-rests
returns-clause-rests c =
    let begun = begun_when c.begin_rest.ensures.begun c.in_ok-ready.was in
    let size = c.begin_rest.ensures.same in
    let x = grid_in c.args.asked in
    let fills = fills-on x c.grid-grid.ensures (begun_fills begun size.queue_long_lem) in
    let T = stands_first begun c.args.output.now refl refl (c.fill_from_lists.ensures _ fills) c.fill_from_lists.auto.records size.labels_long size.masks_long size.queue_long_lem size.tallies_long size.pairs_long in
    let K = rests-on x c.grid-grid.ensures (c.run_turns-rest.ensures.rests _ _ (stands-on x c.grid-grid.ensures T)) in
    rest_over K (zeroed-on x _ c.grid-grid.ensures c.finish_rest.ensures.scratch.0) (zeroed-on x _ c.grid-grid.ensures c.finish_rest.ensures.scratch.1) c.finish_rest.ensures.output
