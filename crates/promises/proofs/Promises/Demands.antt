-- The three demands on every call that runs a pass, and the computed cases. That a call ends as its contract says is demand 1; what follows of one that
-- returned 0 is said here. Assumes nothing.
use Prim.Native.Nat.{ℕ}
use mathlib.Core.Path.{◌≡◌}
use mathlib.Core.Bool.{Bool, true, not, ◌&&◌, ◌||◌}
use Rattle.std.specs.Prelude.{Option}
use mathlib.Core.List.{List}
use lib.Ieee.{Float, binary64, to_bits}
use Rattle.definitions.specs.Scan.{all}
use Rattle.definitions.specs.Sort.{list_lt}
use Rattle.definitions.specs.Grid.{Boundary}
use Rattle.definitions.specs.Hypotenuse.{in_range, sum_of_squares}
use Rattle.definitions.specs.Nearest.{Nearest}
use Rattle.definitions.specs.TotalOrder.{total_order}
use Rattle.definitions.specs.Context.{endpoints_key}
use Rattle.definitions.specs.Junctions.{boundary_key}
use Rattle.definitions.specs.Refusals.{width_fits}
use Rattle.definitions.specs.Verdict.{Lent, Answer, map_in}
use Rattle.definitions.specs.Printed.{keptlist, text}
use Rattle.definitions.specs.Cases as cases
use Rattle.definitions.specs.SheetExamples.{bytes_j}
use Rattle.definitions.specs.CaseJ as case_j
use Rattle.laws.specs.FloatLaws.WidthOrder as widths
use Rattle.hypotenuse.specs.Contract.{number_of, value_of, Allowed}
use Rattle.hypotenuse.specs.RootNearest as nearest
use Rattle.refusals.specs.Answers.{answer_of}
use Rattle.areas.specs.Contract as alone
use Rattle.rust_partition.specs.Literal.PartitionBySpans.{partition_by_spans}
use Rattle.island.specs.Premises.{Alike}
use Rattle.island_calls.specs.Outputs.{rows_held}
use Rattle.island_calls.specs.RustRows.{rust_rows}
use Rattle.island_calls.specs.RustPartition.{AsRust}
use Rattle.island_calls.specs.RustPartition as partitions
use Rattle.topology.specs.Lent.{LentLists, LeftLists, lent_map, lent_call}
use Rattle.topology.specs.Contract.{RanOver}
use Rattle.island_theorem.specs.Theorem.{SameOnIsland}
use Rattle.island_theorem.specs.Theorem as calls
use Rattle.std.specs.Prelude as prelude
use Rattle.refusals.specs.declared.Refusal as refusals

-- ---- 2. Exact: the hypotenuse, the order of widths, and the Rust's own steps

-- "a hypotenuse is the exact root rounded to nearest, ties to even"
pub hypotenuse_nearest : (x y : Float) (r : Option Float) → in_range x ≡ true → in_range y ≡ true → Allowed x y r
    → (number_of r ≡ 0) × Nearest (sum_of_squares x y) (to_bits binary64 (value_of r))
hypotenuse_nearest = nearest.root-nearest

-- "and widths rank by total_order": the wider first, and of equal widths by endpoints
pub widths_by_total_order : (x y : Boundary) → width_fits x.width_bits ≡ true → width_fits y.width_bits ≡ true
    → list_lt (boundary_key x) (boundary_key y)
    ≡ (not (total_order x.width_bits y.width_bits)
    || ((total_order x.width_bits y.width_bits && total_order y.width_bits x.width_bits) && list_lt (endpoints_key x.endpoints) (endpoints_key y.endpoints)))
widths_by_total_order = widths.key_by_total_order

-- labels, tallies and pairs of an accepted partition alone are the Rust's
pub partition_alone : {L : Lent} {r : prelude.Result ℕ refusals.Refusal} {l m q t p : List ℕ} → alone.Ran L r l m q t p → (answer_of r).number ≡ 0
    → AsRust L (partition_by_spans (map_in L)) l t p
partition_alone = partitions.partition_alone

-- A call that runs a pass: the pass, what it was lent, its answer a, and what it left. That every call meets `RanOver`, whatever it is lent, is the contract of
-- `topology_kept_boundaries`; this is demand 1.
module _ {pass : ℕ} {L : LentLists} {a : Answer} {E : LeftLists} (call : RanOver pass L a E) (success : a.number ≡ 0) where
  -- "labels, assessments"
  pub partition_as_rust : AsRust (lent_call pass L) (partition_by_spans (lent_map L)) E.labels E.tallies E.pairs
  partition_as_rust = calls.partition_as_rust call success

  -- "and kept rows equal its own"
  pub rows_as_rust : rows_held a E.output ≡ rust_rows pass (lent_map L)
  rows_as_rust = calls.rows_as_rust call success

  -- ---- 3. Local: two calls of one pass, and an island under the premises of demand 3 (`Alike`)

  module _ {L' : LentLists} {a' : Answer} {E' : LeftLists} (call' : RanOver pass L' a' E') (success' : a'.number ≡ 0)
      (isl : ℕ → Bool) (A : Alike (lent_map L) (lent_map L') isl) where
    pub island : SameOnIsland (lent_map L) (lent_map L') isl (rows_held a E.output) (rows_held a' E'.output)
    island = calls.island_theorem call success call' success' isl A

-- ---- the cases of SPECIFICATION 16

pub cases-hold : all (λ b. b) cases.cases ≡ true
cases-hold = cases.cases-hold

pub printed_j_lem : keptlist bytes_j ≡ text "kept 4 of 5\n1 8 8 8 16\n2 8 8 16 8\n4 16 16 24 16\n3 24 8 24 16\n"
printed_j_lem = case_j.printed_j
