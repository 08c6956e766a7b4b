-- Two rows are joined by the steps to the south and then by the diagonal ones, which are done already where the upper row has no marks. Assumes nothing.
use Prim.Native.Nat.{ℕ, ◌+◌, ◌≤◌}
use native.Mathlib.Omega.{arith}
use mathlib.Core.List.{List}
use Rattle.laws.specs.ListLaws.Beyond.{beyond-then}
use Rattle.parents.specs.Forest.{Forest}
use Rattle.row_runs.specs.Stretch.{Clear}
use Rattle.row_runs.specs.Names.{EastLevel}
use Rattle.row_runs.specs.South.{SouthLevel, RowsAsked, RowsJoined}
use Rattle.row_runs.specs.Corners.{DiagonalsAsked, DiagonalsJoined}
use Rattle.row_runs.specs.Cells.{PairJoined}
use Rattle.row_runs.proofs.CornerNames.{clear-corner}

-- what `join_rows` and `join_diagonals` promise
abbrev Souths : ℕ → List ℕ → List ℕ → ℕ → List ℕ → List ℕ → Type 0
Souths w cells masks up was p =
    (n : ℕ) (name : ℕ → ℕ) → Forest n name was → up + w + w ≤ n → EastLevel cells masks up (up + w) name → EastLevel cells masks (up + w) (up + w + w) name → RowsJoined w cells masks n name up was p

abbrev Diagonals : ℕ → List ℕ → List ℕ → ℕ → List ℕ → List ℕ → Type 0
Diagonals w cells masks up was p =
    (n : ℕ) (name : ℕ → ℕ) → Forest n name was → up + w + w ≤ n → EastLevel cells masks up (up + w) name → SouthLevel w cells masks up (up + w) name → DiagonalsJoined w cells masks n name up was p

-- what `join_pair` promises
abbrev pub Pairs : ℕ → List ℕ → List ℕ → ℕ → List ℕ → List ℕ → Type 0
Pairs w cells masks up was p =
    (n : ℕ) (name : ℕ → ℕ) → Forest n name was → up + w + w ≤ n → EastLevel cells masks up (up + w) name → EastLevel cells masks (up + w) (up + w + w) name → PairJoined w cells masks n name up was p

module _ {w : ℕ} {cells masks : List ℕ} {up : ℕ} {was p : List ℕ} (S : Souths w cells masks up was p) where
  -- a row without marks has its diagonal steps done
  pub pair-clear : Clear masks up (up + w) → Pairs w cells masks up was p
  pair-clear clear n name F h upper lower =
      let J = S n name F h upper lower in
      record {
        after = J.after;
        left = J.left;
        coarser = J.coarser;
        south = J.joins;
        corners = λ c i k.
            clear-corner w cells masks J.after up c i k (λ d j l a b s. J.coarser (d + 1) d (upper d j l a b s)) J.joins
            (clear c i (omega arith)) (clear (c + 1) (omega arith) k);
        sound = λ g level _. J.sound g level;
      }

  pub pair_marked_lem : {p' : List ℕ} → Diagonals w cells masks up p p' → Pairs w cells masks up was p'
  pair_marked_lem {p'} D n name F h upper lower =
      record {
        after = C.after;
        left = record { forest = C.left.forest; beyond = beyond-then J.left.beyond C.left.beyond };
        coarser = λ x y e. C.coarser x y (J.coarser x y e);
        south = λ c i k a b s. C.coarser (c + w) c (J.joins c i k a b s);
        corners = C.joins;
        sound = λ g level corners K. C.sound g corners (J.sound g level K);
      }
    where
      J : RowsJoined w cells masks n name up was p
      J = S n name F h upper lower

      C : DiagonalsJoined w cells masks n J.after up p p'
      C = D n J.after J.left.forest h (λ d j l a b s. J.coarser (d + 1) d (upper d j l a b s)) J.joins

  pub diagonals_asked : {q : List ℕ} → RowsAsked w cells masks was q up → DiagonalsAsked w cells masks p up
  diagonals_asked A =
      let J = S A.n A.name A.forest A.ends A.east_upper A.east_lower in
      record {
        cells_long = A.cells_long;
        masks_long = A.masks_long;
        n = A.n;
        name = J.after;
        forest = J.left.forest;
        ends = A.ends;
        east = λ d j l a b s. J.coarser (d + 1) d (A.east_upper d j l a b s);
        south = J.joins;
      }
