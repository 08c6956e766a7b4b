-- `Region::with_run` meets its contract: each field is what its call ensures, and together they are the record with the run's cells added one by one (`run-added`).
-- No count exceeds the number of cells, which leaves room for the run. Assumes nothing.
use Prim.Native.Nat.{◌+◌}
use native.Mathlib.Omega.{arith}
use mathlib.Core.Path.{◌≡◌, ap, ◌∙◌}
use lib.ListN.{length, get_or}
use lib.Dec.{eqb}
use borrow.Author.Rules.{rules}
use Rattle.definitions.specs.Grid.{is_ramp}
use Rattle.laws.specs.ListLaws.ScanSteps.{count-le}
use Rattle.context.specs.Records.{record_of}
use Rattle.context.specs.Cells.{lesser_edge, greater_edge}
use Rattle.context.proofs.RunCounting.{among-few, mask_counted, sums-counted}
use Rattle.context.proofs.RunLaws.{run-added}
use Rattle.context.proofs.Region.with_run.Goals as goal

pub sums-counts-requires-clause-more_small : goal.sums-counts-requires-clause-more_small
sums-counts-requires-clause-more_small c = λ e.
    rw c.run_counts-more.ensures.elevations (omega (arith, among-few c.args.run.now 0 (length c.args.run.now) e, c.requires.fitting.within.narrow))

pub overflow_add-result-2 : goal.overflow_add-result-2
overflow_add-result-2 c =
    let run = c.args.run.now in
    omega (arith, c.run_counts-more.ensures.ramps, count-le (λ i. is_ramp (get_or run (0 + i) 0)) (length run), c.requires.counted.ramps, c.requires.counted.few, c.requires.fitting.within.narrow)

pub returns : goal.returns
returns c =
    let four-counts : length c.args.self.elevation_counts ≡ 4 = search rules in
    let fits = c.requires.fitting in
    let s = record_of c.args.self in
    let first = eqb s.cells 0 in
    let run = c.args.run.now in
    let n = length run in
    let counts = c.run_counts-more.ensures in
    run-added s c.args.x c.args.y run 0 n (omega (arith, fits.within.some)) (omega (arith, fits.columns))
    (λ i l. fits.within.counted (0 + i) (omega arith) (omega (arith, l)))
    four-counts fits.left fits.right counts.ramps
    (c.mask_of.ensures ∙ mask_counted run 0 n counts.elevations)
    (c.sums-counts.ensures ∙ sums-counted s.elevation_counts_lem run 0 n counts.elevations)
    (c.lesser_edge.ensures ∙ ap (lesser_edge first s.min_x_lem) c.edge.ensures)
    (c.lesser_edge-2.ensures ∙ ap (lesser_edge first s.min_y_lem) c.edge-2.ensures)
    (c.greater_edge.ensures ∙ ap (greater_edge first s.max_x_lem) c.edge-3.ensures)
    (c.greater_edge-2.ensures ∙ ap (greater_edge first s.max_y_lem) c.edge-4.ensures)
