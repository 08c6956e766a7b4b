-- The premises of the theorem on two calls are met, with rows to compare: for each pass two calls on the two maps of crates/island/specs/Example.antt, the second with other lists to
-- fill than the first. Their outputs hold other rows, under other numbers; those of the island are alike. Computed; assumes nothing.
use Rattle.std.specs.Prelude.{ℕ, ◌≡◌, refl, Bool, List, replicate}
use Rattle.definitions.specs.Rows.{Row}
use Rattle.definitions.specs.Verdict.{Lent, map_in, verdict}
use Rattle.definitions.specs.AtExit.{call_exit}
use Rattle.definitions.specs.Cases.{region_of_counts}
use Rattle.island.specs.Premises.{Alike, island_only}
use Rattle.call_partition.specs.Contract.{Ran}
use Rattle.island_calls.specs.Outputs.{rows_held}

-- all that was lent, as it is at exit of a call that met the contract
abbrev pub exit : Lent → Lent
exit L = call_exit L (verdict L).number

abbrev pub MetOn : Lent → Type 0
MetOn L = Ran L (verdict L) (exit L).labels (exit L).masks (exit L).queue (exit L).tallies (exit L).pairs (exit L).records (exit L).output

-- whatever is lent, a call can meet it
pub met : (L : Lent) → MetOn L
met L = record { answer = refl; labels = refl; masks = refl; queue = refl; tallies = refl; pairs = refl; records = refl; output = refl }

-- the same pass and map, with other lists to fill: none has the length or an entry of those in the maps' examples
unfoldable pub elsewhere : Lent → Lent
unfolding region_of_counts
elsewhere L =
    record {
      pass = L.pass;
      width = L.width;
      height = L.height;
      cells = L.cells;
      spans = L.spans;
      boundaries = L.boundaries;
      anchors = L.anchors;
      labels = replicate 31 7;
      masks = replicate 25 3;
      queue = replicate 40 9;
      tallies = replicate 26 5;
      pairs = replicate 29 2;
      records = replicate 12 (region_of_counts 3 2);
      output = replicate 33 8;
    }

-- of two inputs and an island: the rows that each output holds, and what is left of both with all other rows struck out
pub record Shown (L L' : Lent) (isl : ℕ → Bool) (held held' alike : List Row) : Type 0 where
  -- all that the theorem assumes
  pub ran : MetOn L
  pub ran' : MetOn L'
  pub success : (verdict L).number ≡ 0
  pub success' : (verdict L').number ≡ 0
  pub one_pass : L.pass ≡ L'.pass
  pub premises : Alike (map_in L) (map_in L') isl
  -- and what it then says
  pub holds : rows_held (verdict L) (exit L).output ≡ held
  pub holds' : rows_held (verdict L') (exit L').output ≡ held'
  pub island : island_only (map_in L) isl held ≡ alike
  pub island' : island_only (map_in L') isl held' ≡ alike
