-- What a part of the call asks is what the parts before it leave (Calling, RankedCalling).
use Rattle.std.proofs.Common.{ℕ, rules, refl, sym, ◌≡◌, ◌∙◌, arith}
use lib.Seq.{length-take-le}
use Rattle.std.specs.Prelude.{Err}
use Rattle.std.proofs.lemmas.List.{length-replicate}
use Rattle.call_partition.specs.Asking.{grid_in}
use Rattle.pass_lists.proofs.AfterPartition.{ready_finishes}
use Rattle.topology.proofs.Calling.{no_marks, when_ready, needed-few, ready_fills, fills-on, ready-lent}
use Rattle.topology.proofs.RankedCalling.{refused_over, listed-within, ranked-over}
use Rattle.topology.proofs.ranked.topology_ranked_junctions.Goals as goal

pub returns-in_err-ready-clause-ranked : goal.returns-in_err-ready-clause-ranked
returns-in_err-ready-clause-ranked c =
    let given : c.from_residual.result ≡ Err c.in_err-ready.field-0.0 = search rules in
    rw given (refused_over _ _ _ (c.prepare_lists.ensures.prepared 3 (search rules)) c.in_err-ready.was refl refl)

pub overflow_mul-asked : goal.overflow_mul-asked
overflow_mul-asked c =
    let R = when_ready (c.prepare_lists.ensures.prepared 3 (search rules)) c.in_ok-ready.was in
    record { fits = omega (arith, needed-few R) }

pub fill_from_lists-requires : goal.fill_from_lists-requires
fill_from_lists-requires c =
    let R = when_ready (c.prepare_lists.ensures.prepared 3 (search rules)) c.in_ok-ready.was in
    (_, fills-on (grid_in c.args.asked) c.grid.ensures (ready_fills R c.prepare_lists.ensures.same.queue_long_lem))

pub mark_ranked-n-requires-clause-map_shown : goal.mark_ranked-n-requires-clause-map_shown
mark_ranked-n-requires-clause-map_shown c =
    let R = when_ready (c.prepare_lists.ensures.prepared 3 (search rules)) c.in_ok-ready.was in
    let F = c.fill_from_lists.ensures _ (fills-on (grid_in c.args.asked) c.grid.ensures (ready_fills R c.prepare_lists.ensures.same.queue_long_lem)) in
    (_, ready-lent R F c.prepare_lists.ensures.same.masks_long c.prepare_lists.ensures.same.queue_long_lem)

pub mark_ranked-n-requires-clause-before_ranking : goal.mark_ranked-n-requires-clause-before_ranking
mark_ranked-n-requires-clause-before_ranking c = (no_marks, omega (arith, length-replicate {A = ℕ}))

pub finish_ranked-requires : goal.finish_ranked-requires
finish_ranked-requires c =
    let R = when_ready (c.prepare_lists.ensures.prepared 3 (search rules)) c.in_ok-ready.was in
    ready_finishes R (c.mark_ranked-n.auto.masks ∙ c.prepare_lists.ensures.same.masks_long) (c.mark_ranked-n.auto.queue ∙ c.prepare_lists.ensures.same.queue_long_lem)

pub slice_bounds-listed-end : goal.slice_bounds-listed-end
slice_bounds-listed-end c =
    let R = when_ready (c.prepare_lists.ensures.prepared 3 (search rules)) c.in_ok-ready.was in
    let F = c.fill_from_lists.ensures _ (fills-on (grid_in c.args.asked) c.grid.ensures (ready_fills R c.prepare_lists.ensures.same.queue_long_lem)) in
    listed-within R F (c.mark_ranked-n.ensures _ (ready-lent R F c.prepare_lists.ensures.same.masks_long c.prepare_lists.ensures.same.queue_long_lem))

pub slice_bounds-finish_ranked-end : goal.slice_bounds-finish_ranked-end
slice_bounds-finish_ranked-end c =
    let R = when_ready (c.prepare_lists.ensures.prepared 3 (search rules)) c.in_ok-ready.was in
    let F = c.fill_from_lists.ensures _ (fills-on (grid_in c.args.asked) c.grid.ensures (ready_fills R c.prepare_lists.ensures.same.queue_long_lem)) in
    sym
    (length-take-le c.mark_ranked-n.result c.mark_ranked-n.new.listed
    (listed-within R F (c.mark_ranked-n.ensures _ (ready-lent R F c.prepare_lists.ensures.same.masks_long c.prepare_lists.ensures.same.queue_long_lem))))

pub returns-clause-ranked : goal.returns-clause-ranked
returns-clause-ranked c =
    let R = when_ready (c.prepare_lists.ensures.prepared 3 (search rules)) c.in_ok-ready.was in
    let F = c.fill_from_lists.ensures _ (fills-on (grid_in c.args.asked) c.grid.ensures (ready_fills R c.prepare_lists.ensures.same.queue_long_lem)) in
    let K = c.mark_ranked-n.ensures _ (ready-lent R F c.prepare_lists.ensures.same.masks_long c.prepare_lists.ensures.same.queue_long_lem) in
    ranked-over R F K refl refl c.finish_ranked.ensures
