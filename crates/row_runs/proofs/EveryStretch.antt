-- The stretches of all rows, one behind another, and what `number` asks of them: the cells of a run have one name, and walkable cells have walkable names.
-- Assumes nothing.
use Prim.Native.Nat.{ℕ, zero, suc, ◌+◌, ◌-◌, ◌*◌, ◌≤◌, ◌<◌}
use native.Mathlib.Omega.{arith}
use native.Mathlib.Nat.{suc-mul, zero-mul}
use mathlib.Core.Path.{◌≡◌, sym, ap, ◌∙◌, subst}
use mathlib.Core.Bool.{true}
use mathlib.Core.List.{List}
use lib.ListN.{get_or}
use Rattle.row_runs.specs.Stretch.{walks, Stretch}
use Rattle.row_runs.specs.Names.{Tiles, none, more, EastLevel}
use Rattle.row_runs.specs.Cells.{Level, CellsJoined}
use Rattle.row_runs.specs.Numbered.{NamedRuns, ended, more as Named-more, Named}
use Rattle.row_runs.proofs.RowNames.{run-level}
use Rattle.row_runs.proofs.CornerNames.{square-cells}
use Rattle.row_runs.proofs.RowPlaces.{row_in}

-- what is the same at both ends of every uncut step of a row is the same throughout a run
pub run-alike : {X : Type 0} {cells masks : List ℕ} {end c e : ℕ} (S : Stretch cells masks end c e) (from : ℕ) (g : ℕ → X) → from ≤ c → EastLevel cells masks from end g → walks cells c ≡ true → (d : ℕ) → c ≤ d → d < e → g d ≡ g c
run-alike {c = c} {e} S from g low level v d i j =
    ap g (omega arith) ∙ run-level S from g low (λ k a b. level k a (omega (arith, S.ends))) v (d - c) (omega arith)

module _ (w h : ℕ) {cells masks q : List ℕ} (T : (y : ℕ) → y < h → Tiles cells masks (y * w + w) q (y * w) (y * w + w)) (P : ℕ → Type 0) (last : P (h * w)) (step : (y c e : ℕ) → y < h → y * w ≤ c → Stretch cells masks (y * w + w) c e → get_or q c 0 ≡ e → P e → P c) where
  one_row : (y : ℕ) → y < h → {from to : ℕ} → Tiles cells masks (y * w + w) q from to → y * w ≤ from → P to → P from
  one_row y i none low p = p
  one_row y i (more {from = from} {e} S is t) low p = step y from e i low S is (one_row y i t (omega (arith, S.more)) p)

  rows_from_lem : (k y : ℕ) → k + y ≡ h → P (y * w)
  rows_from_lem zero y s = subst (λ r. P (r * w)) (sym (omega arith)) last
  rows_from_lem (suc k) y s = one_row y (omega arith) (T y (omega arith)) (omega arith) (subst P (suc-mul y w) (rows_from_lem k (suc y) (omega arith)))

  -- what holds behind the last cell, and goes from the end of each stretch to its first cell, holds at the first cell
  pub all-rows : P 0
  all-rows = subst P (zero-mul w) (rows_from_lem h 0 (omega arith))

-- ---- what `number` asks

walks-level : (w h : ℕ) (cells masks : List ℕ) → Level w h cells masks (walks cells)
walks-level w h cells masks =
    record {
      east = λ y i c low high a b _. b ∙ sym a;
      south = λ y i c low high a b _. b ∙ sym a;
      corners = λ y i c low high.
          record {
            south_east_lem = λ s _. let f = square-cells w cells c s in f.3 ∙ sym f.0;
            south_west_lem = λ s _. let f = square-cells w cells c s in f.2 ∙ sym f.1;
          };
    }

pub named-cells : {w h : ℕ} {cells masks was waited p q : List ℕ} (J : CellsJoined w h cells masks was waited p q) → Named cells p q (h * w) J.after
named-cells {w} {h} {cells} {masks} {q = q} J =
    record {
      forest = J.left.forest;
      walkable = J.sound (walks cells) (walks-level w h cells masks);
      runs = all-rows w h J.tiles (NamedRuns cells q J.after (h * w)) ended
          (λ y c e i low S is rest.
          Named-more S.more (omega (arith, S.ends, row_in w i)) is S.alike (run-alike S (y * w) J.after low (J.joins.east y i)) rest);
    }
