-- What is exact of single figures: shares, directions, distances and reports. In the order of the requests. Assumes nothing.
use Prim.Native.Nat.{ℕ, ◌+◌, ◌<◌, ◌≤◌}
use native.Mathlib.Omega.{arith}
use mathlib.Core.Path.{◌≡◌, refl, sym, ap, ◌∙◌}
use mathlib.Core.Logic.{◌↔◌}
use mathlib.Core.Bool.{true}
use Rattle.std.specs.Prelude.{Some}
use mathlib.Core.List.{List, [], ◌∷◌}
use lib.ListN.{length}
use Rattle.definitions.specs.Grid.{Map, Pair, Segment, cell_count}
use Rattle.definitions.specs.Partition.{labels}
use Rattle.definitions.specs.RegionRecord.{has_ramp, Share, IsShare, share_of}
use Rattle.definitions.specs.RampGeometry.{intersects}
use Rattle.definitions.specs.Context.{Context, context_of}
use Rattle.definitions.specs.Junctions.{union_regions}
use Rattle.definitions.specs.Verdict.{Answer, map_in}
use Rattle.laws.specs.ListLaws.Lists.{All}
use Rattle.laws.specs.RegionLaws.Shares as shares
use Rattle.laws.specs.RustContext.RampFlag.{flag_after}
use Rattle.laws.specs.RustContext.RampFlag as flags
use Rattle.laws.specs.RustJunctions.Unions.{proposed}
use Rattle.laws.specs.RustJunctions.UnionRegions.{union_passes}
use Rattle.laws.specs.RustJunctions.UnionRegions as unions
use Rattle.grid_steps.specs.Walk.{direction_at}
use Rattle.grid_steps.specs.Inner.{placed, byte_at}
use Rattle.grid_steps.proofs.Ways as ways
use Rattle.topology.specs.Lent.{LentLists, LeftLists, lent_map, lent_call}
use Rattle.topology.specs.Contract.{RanOver}
use Rattle.separations.specs.Distance.{SharePoint, ExactSquare, exact_square}
use Rattle.separations.specs.Listing.{boundary_count, ends_of_lem, Lists}
use Rattle.separations.proofs.Theorem.{OfBoundaries}
use Rattle.separations.proofs.Theorem as separations
use Rattle.separations.proofs.Calls.{RowHolds}
use Rattle.separations.proofs.Calls as listed
use Rattle.report.specs.Runs.{Run}
use Rattle.report.specs.Report.{Report, Mean, max_runs, empty_report, add_run, add_runs_by, add_runs, exact_runs, mean_of}
use Rattle.report.specs.ReportLaws.Possible.{Made}
use Rattle.report.proofs.ReportLaws.Order.{Reordered}
use Rattle.report.proofs.ReportLaws.Order as orders
use Rattle.report.proofs.ReportLaws.Reached.{total, total_accepted}
use Rattle.report.proofs.ReportLaws.Reached as reports
use Rattle.report.specs.ReportLaws.Means.{IsMean}
use Rattle.report.specs.ReportLaws.Means as means

-- ---- request 2: the share is exact, and there is no other

pub share_exactly : (count n : ℕ) (h : Share) → (share_of count n ≡ Some h) ↔ IsShare count n h
share_exactly count n h = (shares.share-exact count n h, shares.share_only count n h)

-- and what a union asks of two records is what the Rust's own lines ask, with its dominant elevation, of every context
pub unions_as_rust : (C : Context) (i : ℕ) (p : Pair) → union_passes C (proposed C i p) ≡ union_regions C i p
unions_as_rust = unions.passes_is

-- ---- request 5: the bytes of the word are the eight directions, in their order

pub directions_as_bytes : (d : ℕ) → d < 8 → placed (byte_at ways.direction_word d) ≡ direction_at d
directions_as_bytes = ways.word_at

-- ---- request 6: the flag that the Rust's lines ask for is a count above zero

pub ramp_flag : (M : Map) (r : ℕ) → has_ramp ((context_of M).region r) ≡ flag_after M (labels M) r (cell_count M)
unfolding context_of
ramp_flag M r = flags.ramp_flag M (labels M) r

-- ---- request 10: separations

-- for any two boundaries of the map of any call that ran a pass and returned 0: within 2 ^ -32 pixel of the exact distance, and zero exactly when they share a point
pub separation-within : {pass : ℕ} {L : LentLists} {a : Answer} {E : LeftLists} → RanOver pass L a E → a.number ≡ 0 → (i j : ℕ) → OfBoundaries (lent_map L) i j
unfolding map_in
separation-within {pass} {L} call success = separations.accepted-separations (lent_call pass L) (ap (λ x. x.number) (sym call.ran.answer) ∙ success)

-- what a call of the list of separations left in its output: the same of each row
module _ {w h : ℕ} {boundaries output : List ℕ} {a : Answer} {o : List ℕ} (call : Lists w h boundaries output a o) (success : a.number ≡ 0) where
  pub separations-listed : (i j : ℕ) → i < j → j < boundary_count boundaries → RowHolds (ends_of_lem boundaries i) (ends_of_lem boundaries j) i j o
  separations-listed = listed.listed-holds call success

-- of all segments of whole coordinates: the fraction that is computed is the square of the distance, and the test says exactly that they share a point
pub segments_exact : (s t : Segment) → ExactSquare s t (exact_square s t).num (exact_square s t).den × ((intersects s t ≡ true) ↔ SharePoint s t)
segments_exact s t = (separations.exact_square_is s t, separations.intersects_exactly s t)

-- ---- request 13: every report that runs of calls and sheets were added to from the empty one

-- boundaries in are kept and removed together
pub report_in_is_sum : {l : List Run} → All Made l → All (λ f. f.boundaries ≡ f.kept + f.removed) (add_runs empty_report l).passes
report_in_is_sum made = reports.in_is_kept_and_removed made

-- no sum wraps
pub report-exact : {l : List Run} → All Made l → add_runs empty_report l ≡ exact_runs empty_report l
report-exact made = reports.exact made

-- accepted and refused runs are all runs
pub report-counts-all : {l : List Run} → All Made l
    → total_accepted (add_runs empty_report l).passes + total (add_runs empty_report l).refused ≡ (add_runs empty_report l).runs
report-counts-all made = reports.runs-counted made

-- the order of up to 10,000 runs does not alter the report, and runs beyond them, however many, change nothing
pub report-order-free : {l m : List Run} → Reordered l m → length l ≤ max_runs → add_runs empty_report l ≡ add_runs empty_report m
unfolding empty_report
report-order-free p h = orders.order-free empty_report p (omega (arith, h))

pub report-beyond : (R : Report) (l : List Run) → max_runs ≤ R.runs → add_runs R l ≡ R
unfolding add_runs add_runs_by add_run
report-beyond R [] full = refl
report-beyond R (x ∷ l) full = ap (λ Q. add_runs Q l) (orders.beyond R x full) ∙ report-beyond R l full

-- the mean is exact, and there is no other
pub report_mean_exactly : (accepted kept : ℕ) (m : Mean) → (mean_of accepted kept ≡ Some m) ↔ IsMean accepted kept m
report_mean_exactly accepted kept m = (means.mean_exact accepted kept m, means.mean_only accepted kept m)
