-- The numbers of a list that is read two at a time. Assumes nothing.
use Prim.Native.Nat.{ℕ, zero, suc, ◌+◌, ◌*◌, ◌/◌, ◌<◌}
use native.Mathlib.Omega.{arith}
use mathlib.Core.Path.{◌≡◌, ap, ap₂, ◌∙◌}
use mathlib.Core.List.{List, []}
use lib.ListN.{get_or, drop, length}
use Rattle.std.proofs.Common.{get_or-drop, get_or-take}
use Rattle.std.specs.Simd.{first_chunks}
use Rattle.context.specs.Anchors.{anchor_cell}

pub two_at : (k i j : ℕ) (l : List ℕ) → i < k → j < 2 → get_or (get_or (first_chunks 2 k l) i []) j 0 ≡ get_or l (2 * i + j) 0
two_at zero i j l h m = absurd (omega arith)
two_at (suc k) zero j l h m = get_or-take 2 l j 0 m ∙ ap (λ n. get_or l n 0) (omega arith)
two_at (suc k) (suc i) j l h m = two_at k i j (drop 2 l) (omega arith) m ∙ get_or-drop 2 l (2 * i + j) 0 ∙ ap (λ n. get_or l n 0) (omega arith)

-- the numbers of anchor i, and its cell
module _ (anchors : List ℕ) (chunks : List (List ℕ)) (e : chunks ≡ first_chunks 2 (length anchors / 2) anchors) (n : length chunks ≡ length anchors / 2) (i : ℕ) (h : i < length chunks) where
  pub inside : i < length anchors / 2
  inside = omega (arith, h, n)

  number_at : (j : ℕ) → j < 2 → get_or (get_or chunks i []) j 0 ≡ get_or anchors (2 * i + j) 0
  number_at j m = ap (λ l. get_or (get_or l i []) j 0) e ∙ two_at (length anchors / 2) i j anchors inside m

  pub column_is : get_or (get_or chunks i []) 0 0 ≡ get_or anchors (2 * i) 0
  column_is = number_at 0 (omega arith) ∙ ap (λ k. get_or anchors k 0) (omega arith)

  pub row_is : get_or (get_or chunks i []) 1 0 ≡ get_or anchors (2 * i + 1) 0
  row_is = number_at 1 (omega arith)

  pub cell_is : (w : ℕ) {c : ℕ} → c ≡ get_or (get_or chunks i []) 1 0 * w + get_or (get_or chunks i []) 0 0 → c ≡ anchor_cell w anchors i
  cell_is w q = q ∙ ap₂ (λ y x. y * w + x) row_is column_is
