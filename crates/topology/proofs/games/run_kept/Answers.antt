-- Once the first partition is ready each part asks what those before it leave (Gaming).
use Rattle.std.proofs.Common.{refl, ap, ◌∙◌, length, arith}
use Rattle.call_partition.specs.Asking.{grid_in}
use Rattle.topology.proofs.Calling.{needed-few, fills-on, finished-on}
use Rattle.topology.proofs.Gaming.{runs_fills, runs-lent, runs_divides, runs_first, runs_renews, runs_finishes, ran-kept_graph, source, divides-on, kept-on, divides-still, kept-still}
use Rattle.topology.proofs.games.run_kept.Goals as goal

pub overflow_mul-grid : goal.overflow_mul-grid
overflow_mul-grid c = rw c.grid-grid.ensures (record { fits = omega (arith, needed-few c.requires.1.ready.ready) })

pub fill_from_lists-requires : goal.fill_from_lists-requires
fill_from_lists-requires c = (_, fills-on (grid_in c.args.asked) c.grid-grid.ensures (runs_fills c.requires.1))

pub mark_asked-requires-clause-map_shown : goal.mark_asked-requires-clause-map_shown
mark_asked-requires-clause-map_shown c = let G = c.requires.1 in (_, runs-lent G (c.fill_from_lists.ensures _ (fills-on (grid_in c.args.asked) c.grid-grid.ensures (runs_fills G))))

pub mark_asked-requires-clause-few : goal.mark_asked-requires-clause-few
mark_asked-requires-clause-few c = needed-few c.requires.1.ready.ready

pub divide_kept-graph-requires : goal.divide_kept-graph-requires
divide_kept-graph-requires c =
    let G = c.requires.1 in
    let F = c.fill_from_lists.ensures _ (fills-on (grid_in c.args.asked) c.grid-grid.ensures (runs_fills G)) in
    let read = c.mark_asked.ensures.read in
    let D = c.mark_asked.ensures.marked _ (runs-lent G F) in
    (source G, divides-on (grid_in c.args.asked) c.grid-grid.ensures (divides-still read.labels read.tallies read.pairs (runs_divides G F c.mark_asked.ensures.same.masks_long c.mark_asked.ensures.same.queue_long_lem D)))

pub renew_from_lists-requires-clause-first_in : goal.renew_from_lists-requires-clause-first_in
renew_from_lists-requires-clause-first_in c =
    let G = c.requires.1 in
    let F = c.fill_from_lists.ensures _ (fills-on (grid_in c.args.asked) c.grid-grid.ensures (runs_fills G)) in
    let read = c.mark_asked.ensures.read in
    let D = c.mark_asked.ensures.marked _ (runs-lent G F) in
    let m = c.mark_asked.ensures.same in
    let d = c.divide_kept-graph.ensures.same in
    let S = divides-on (grid_in c.args.asked) c.grid-grid.ensures (divides-still read.labels read.tallies read.pairs (runs_divides G F m.masks_long m.queue_long_lem D)) in
    let N = kept-still read.labels read.tallies read.pairs (kept-on (grid_in c.args.asked) c.grid-grid.ensures (c.divide_kept-graph.ensures.divided (source G) S)) in
    runs_first G F m.masks_long m.queue_long_lem D N (d.labels_long ∙ ap length read.labels) d.masks_long d.queue_long_lem c.fill_from_lists.auto.records

pub renew_from_lists-requires-clause-map_shown : goal.renew_from_lists-requires-clause-map_shown
renew_from_lists-requires-clause-map_shown c =
    let G = c.requires.1 in
    let F = c.fill_from_lists.ensures _ (fills-on (grid_in c.args.asked) c.grid-grid.ensures (runs_fills G)) in
    let read = c.mark_asked.ensures.read in
    let D = c.mark_asked.ensures.marked _ (runs-lent G F) in
    let m = c.mark_asked.ensures.same in
    let d = c.divide_kept-graph.ensures.same in
    let S = divides-on (grid_in c.args.asked) c.grid-grid.ensures (divides-still read.labels read.tallies read.pairs (runs_divides G F m.masks_long m.queue_long_lem D)) in
    let N = kept-still read.labels read.tallies read.pairs (kept-on (grid_in c.args.asked) c.grid-grid.ensures (c.divide_kept-graph.ensures.divided (source G) S)) in
    (_, fills-on (grid_in c.args.asked) c.grid-grid.ensures (runs_renews G F m.masks_long m.queue_long_lem D N (d.labels_long ∙ ap length read.labels) d.masks_long d.queue_long_lem c.fill_from_lists.auto.records))

pub finish-kept-requires : goal.finish-kept-requires
finish-kept-requires c =
    let G = c.requires.1 in
    let F = c.fill_from_lists.ensures _ (fills-on (grid_in c.args.asked) c.grid-grid.ensures (runs_fills G)) in
    let read = c.mark_asked.ensures.read in
    let D = c.mark_asked.ensures.marked _ (runs-lent G F) in
    let m = c.mark_asked.ensures.same in
    let d = c.divide_kept-graph.ensures.same in
    let S = divides-on (grid_in c.args.asked) c.grid-grid.ensures (divides-still read.labels read.tallies read.pairs (runs_divides G F m.masks_long m.queue_long_lem D)) in
    let N = kept-still read.labels read.tallies read.pairs (kept-on (grid_in c.args.asked) c.grid-grid.ensures (c.divide_kept-graph.ensures.divided (source G) S)) in
    rw c.grid-grid.ensures (runs_finishes G F m.masks_long m.queue_long_lem D N (d.labels_long ∙ ap length read.labels) d.masks_long d.queue_long_lem)

pub returns-clause-kept : goal.returns-clause-kept
returns-clause-kept c = λ B G.
    let F = c.fill_from_lists.ensures _ (fills-on (grid_in c.args.asked) c.grid-grid.ensures (runs_fills G)) in
    let read = c.mark_asked.ensures.read in
    let D = c.mark_asked.ensures.marked _ (runs-lent G F) in
    let m = c.mark_asked.ensures.same in
    let d = c.divide_kept-graph.ensures.same in
    let S = divides-on (grid_in c.args.asked) c.grid-grid.ensures (divides-still read.labels read.tallies read.pairs (runs_divides G F m.masks_long m.queue_long_lem D)) in
    let N = kept-still read.labels read.tallies read.pairs (kept-on (grid_in c.args.asked) c.grid-grid.ensures (c.divide_kept-graph.ensures.divided (source G) S)) in
    let renews = fills-on (grid_in c.args.asked) c.grid-grid.ensures (runs_renews G F m.masks_long m.queue_long_lem D N (d.labels_long ∙ ap length read.labels) d.masks_long d.queue_long_lem c.fill_from_lists.auto.records) in
    ran-kept_graph G F m.masks_long m.queue_long_lem D N (d.labels_long ∙ ap length read.labels) d.masks_long d.queue_long_lem (c.renew_from_lists.ensures _ renews)
    (finished-on (grid_in c.args.asked) c.grid-grid.ensures c.finish-kept.ensures) refl refl refl
