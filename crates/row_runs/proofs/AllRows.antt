-- The loop over the rows of a grid: the rows before y are joined, and the cells from row y on are alone. Assumes nothing.
use Prim.Native.Nat.{ℕ, ◌+◌, ◌*◌, ◌≤◌, ◌<◌}
use native.Mathlib.Omega.{arith}
use native.Mathlib.Nat.{mul-le-mul}
use mathlib.Core.Path.{refl}
use mathlib.Core.Bool.{Bool}
use mathlib.Core.List.{List}
use Rattle.laws.specs.ListLaws.Beyond.{Beyond, beyond_same, beyond-then}
use Rattle.row_runs.specs.Cells.{Done, RowAsked, CellsAsked, CellsJoined}
use Rattle.row_runs.proofs.RowPlaces.{row_in}
use Rattle.row_runs.proofs.RowByRow.{fewer, RowDoes}

pub record Joining (w h : ℕ) (cells masks was waited p q : List ℕ) (y : ℕ) (marked : Bool) : Type 0 where
  pub low : y ≤ h
  done : Done w (h * w) y marked cells masks p q
  pub parents : Beyond (h * w) was p
  pub queue : Beyond (h * w) waited q

module _ {w h : ℕ} {cells masks was waited : List ℕ} (A : CellsAsked w h cells masks was waited) where
  pub joining_starts : (marked : Bool) → Joining w h cells masks was waited was waited 0 marked
  joining_starts marked =
      record {
        low = omega arith;
        done =
            record {
              name = λ c. c;
              forest =
                  record {
                    few = mul-le-mul A.short A.narrow;
                    long = A.parents_long;
                    parent = λ c i. let own = A.fresh c i in record { low = omega arith; same = own; top = λ _. refl };
                  };
              fresh = λ c i k. A.fresh c k;
              joins = record { east = λ x i. absurd (omega arith); south = λ x i. absurd (omega arith); corners = λ x i. absurd (omega arith) };
              sound = λ g level c i. refl;
              tiles = λ x i. absurd (omega arith);
              clear = λ m x e. absurd (omega arith);
            };
        parents = beyond_same (h * w) was;
        queue = beyond_same (h * w) waited;
      }

  module _ {p q : List ℕ} {y : ℕ} {marked : Bool} (I : Joining w h cells masks was waited p q y marked) where
    pub row-asked : y < h → RowAsked w cells masks p q y marked
    row-asked l =
        let row = row_in w l in
        record {
          cells_long = omega (arith, A.cells_long);
          masks_long = omega (arith, A.masks_long);
          queue_long_lem = omega (arith, A.queue_long_lem, I.queue.long);
          n = h * w;
          ends = row;
          done = I.done;
        }

module _ {w h : ℕ} {cells masks was waited p q : List ℕ} {y : ℕ} {marked : Bool} (I : Joining w h cells masks was waited p q y marked) where
  pub joining_goes_on : {marked' : Bool} {p' q' : List ℕ} → y < h → RowDoes w y marked marked' cells masks p q p' q' → Joining w h cells masks was waited p' q' (y + 1) marked'
  joining_goes_on l row =
      let R = row (h * w) (row_in w l) I.done in
      record { low = omega arith; done = R.done; parents = beyond-then I.parents R.parents; queue = beyond-then I.queue R.queue }

  pub joining_ends : h ≤ y → CellsJoined w h cells masks was waited p q
  joining_ends l =
      let D = I.done in
      record {
        after = D.name;
        left = record { forest = D.forest; beyond = I.parents };
        joins = fewer l D.joins;
        sound = λ g level. D.sound g (fewer I.low level);
        tiles = λ x i. D.tiles x (omega arith);
        queue_long_lem = I.queue.long;
        beyond = I.queue.rest;
      }
