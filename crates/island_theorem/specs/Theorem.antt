-- DEMAND 3, once and whole, over two calls of `topology_kept_boundaries`. What is assumed:
--   each call ended as its contract says (`RanOver`, which every call meets for every input) and returned 0;
--   both were asked for one pass;
--   of the two maps that were lent and an island, the premises of SPECIFICATION 5 hold (`Alike`, crates/island/specs/Premises.antt).
-- Nothing is assumed of the lists that the calls fill, nor of the records that they are lent. The proof: `RanOver` holds `Ran`, of which `island_calls` has the theorems.
use Rattle.std.specs.Prelude.{ℕ, ◌≡◌, Bool, true, List}
use Rattle.std.proofs.Math.Path.{refl}
use Rattle.definitions.specs.Grid.{Map}
use Rattle.definitions.specs.Rows.{Row}
use Rattle.definitions.specs.Verdict.{Answer, map_in}
use Rattle.rust_partition.specs.Literal.PartitionBySpans.{partition_by_spans}
use Rattle.island.specs.Premises.{Alike, cuts_island, rank_of, island_only}
use Rattle.island_calls.specs.Outputs.{rows_held, has_row}
use Rattle.island_calls.specs.RustRows.{rust_rows, call_rows}
use Rattle.island_calls.specs.RustPartition.{AsRust, call_partition}
use Rattle.island_calls.specs.Theorem.{island_outputs, island-kept-boundaries}
use Rattle.topology.specs.Lent.{LentLists, LeftLists, lent_map, lent_call}
use Rattle.topology.specs.Contract.{RanOver}

-- what demand 3 says of the rows of two outputs, each of its own map
pub record SameOnIsland (M M' : Map) (isl : ℕ → Bool) (rows rows' : List Row) : Type 0 where
  -- "the rows of these kept boundaries are alike and in the same order": all other rows struck out, ranks in place of numbers
  pub alike : island_only M isl rows ≡ island_only M' isl rows'
  -- "a boundary that cuts there is kept [..] in the one exactly when its counterpart is kept in the other": one rank among those that cut there
  pub kept : (i j : ℕ) → cuts_island M isl i ≡ true → cuts_island M' isl j ≡ true → rank_of M isl i ≡ rank_of M' isl j → has_row i rows ≡ has_row j rows'

-- A call: the pass, what it was lent, its answer a, and what it left. Another call: the same, with a stroke.
module _ {pass : ℕ} {L : LentLists} {a : Answer} {E : LeftLists} (call : RanOver pass L a E) (success : a.number ≡ 0) where
  -- demand 2: labels, tallies and pairs at exit are the Rust's own, and beyond them as they were
  pub partition_as_rust : AsRust (lent_call pass L) (partition_by_spans (lent_map L)) E.labels E.tallies E.pairs
  unfolding map_in
  partition_as_rust = call_partition call.ran success

  -- demand 2: the output holds the rows that the Rust's own steps of the pass return
  pub rows_as_rust : rows_held a E.output ≡ rust_rows pass (lent_map L)
  unfolding map_in
  rows_as_rust = call_rows call.ran success

  module _ {L' : LentLists} {a' : Answer} {E' : LeftLists} (call' : RanOver pass L' a' E') (success' : a'.number ≡ 0)
      (isl : ℕ → Bool) (A : Alike (lent_map L) (lent_map L') isl) where
    pub island_theorem : SameOnIsland (lent_map L) (lent_map L') isl (rows_held a E.output) (rows_held a' E'.output)
    unfolding map_in
    island_theorem =
        record {
          alike = island_outputs call.ran call'.ran success success' refl isl A;
          kept = island-kept-boundaries call.ran call'.ran success success' refl isl A;
        }
