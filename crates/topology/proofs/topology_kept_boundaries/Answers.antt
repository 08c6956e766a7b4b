-- What a part of the call asks is what the parts before it leave (Calling): a refused call has left the lists as `prepare` says; of a call that is ready the
-- records are filled, the marks are the pass's, and the rows are written.
use Rattle.std.proofs.Common.{rules, refl, ◌≡◌, ◌∙◌, arith}
use Rattle.std.specs.Prelude.{Err}
use Rattle.call_partition.specs.Asking.{grid_in}
use Rattle.pass_lists.proofs.AfterPartition.{ready_finishes}
use Rattle.topology.proofs.Calling.{when_named, when_refused, needed-few, ready_fills, fills-on, finished-on, ready-lent, marked_as, ran_over}
use Rattle.topology.proofs.topology_kept_boundaries.Goals as goal

pub returns-in_err-pass-clause-ran : goal.returns-in_err-pass-clause-ran
returns-in_err-pass-clause-ran c =
    let given : c.from_residual.result ≡ Err c.in_err-pass.field-0.0 = search rules in
    rw given (when_refused _ _ c.prepare.ensures.prepared c.in_err-pass.was refl refl)

pub overflow_mul-grid : goal.overflow_mul-grid
overflow_mul-grid c = rw c.grid-grid.ensures (record { fits = omega (arith, needed-few (when_named c.prepare.ensures.prepared c.in_ok-pass.was).1) })

pub fill_from_lists-requires : goal.fill_from_lists-requires
fill_from_lists-requires c =
    let R = (when_named c.prepare.ensures.prepared c.in_ok-pass.was).1 in
    (_, fills-on (grid_in c.args.asked) c.grid-grid.ensures (ready_fills R c.prepare.ensures.same.queue_long_lem))

pub mark_asked-requires-clause-map_shown : goal.mark_asked-requires-clause-map_shown
mark_asked-requires-clause-map_shown c =
    let R = (when_named c.prepare.ensures.prepared c.in_ok-pass.was).1 in
    let same = c.prepare.ensures.same in
    let F = c.fill_from_lists.ensures _ (fills-on (grid_in c.args.asked) c.grid-grid.ensures (ready_fills R same.queue_long_lem)) in
    (_, ready-lent R F same.masks_long same.queue_long_lem)

pub mark_asked-requires-clause-few : goal.mark_asked-requires-clause-few
mark_asked-requires-clause-few c = needed-few (when_named c.prepare.ensures.prepared c.in_ok-pass.was).1

pub finish-kept-requires : goal.finish-kept-requires
finish-kept-requires c =
    let R = (when_named c.prepare.ensures.prepared c.in_ok-pass.was).1 in
    let same = c.prepare.ensures.same in
    rw c.grid-grid.ensures
    (ready_finishes R (c.mark_asked.ensures.same.masks_long ∙ same.masks_long) (c.mark_asked.ensures.same.queue_long_lem ∙ same.queue_long_lem))

pub returns-clause-ran : goal.returns-clause-ran
returns-clause-ran c =
    let P = when_named c.prepare.ensures.prepared c.in_ok-pass.was in
    let same = c.prepare.ensures.same in
    let F = c.fill_from_lists.ensures _ (fills-on (grid_in c.args.asked) c.grid-grid.ensures (ready_fills P.1 same.queue_long_lem)) in
    let K = marked_as _ _ _ _ P.0 (c.mark_asked.ensures.marked _ (ready-lent P.1 F same.masks_long same.queue_long_lem)) in
    let read = c.mark_asked.ensures.read in
    rw read.labels (rw read.tallies (rw read.pairs (ran_over P.1 F K refl refl (finished-on (grid_in c.args.asked) c.grid-grid.ensures c.finish-kept.ensures))))
