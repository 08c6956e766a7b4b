-- Which directions lead to cells of larger number: those whose bit is above 4, the bit of (1, 1), where there is a step (`onward-bit`). Assumes nothing.
use Prim.Native.Nat.{ℕ, zero, suc, ◌+◌, ◌-◌, ◌*◌, ◌≤◌, ◌<◌}
use native.Mathlib.Omega.{arith}
use native.Mathlib.Nat.{suc-mul}
use mathlib.Core.Path.{◌≡◌, refl, ap, ◌∙◌}
use mathlib.Core.Bool.{Bool, true, false}
use lib.Dec.{ltb}
use borrow.Author.Tests.{ltb-true, ltb-false, lt-ltb, le-ltb}
use Rattle.definitions.specs.Grid.{Map, Position, toward, index, is_step}
use Rattle.grid_steps.specs.Masks.{bit_of}
use Rattle.grid_steps.proofs.Square.{Four, four, In, walkable_in}

-- ---- the number of the cell in a direction

pub next_row : (n w : ℕ) {k : ℕ} → k ≡ suc n → k * w ≡ n * w + w
next_row n w e = ap (λ k. k * w) e ∙ suc-mul n w

pub same_row : (n w : ℕ) {k : ℕ} → k ≡ n → k * w ≡ n * w
same_row n w e = ap (λ k. k * w) e

module _ (w x y : ℕ) (in_x : x < w) where
  later : (dx dy : ℕ) → dx ≤ 2 → dy ≤ 2 → 1 ≤ x + dx → 4 < dy * 3 + dx → y * w + x < (y + dy - 1) * w + (x + dx - 1)
  later dx zero nx ny a b = absurd (omega arith)
  later dx (suc zero) nx ny a b = omega (arith, same_row y w {k = y + 1 - 1} (omega arith))
  later dx (suc (suc zero)) nx ny a b = omega (arith, next_row y w {k = y + 2 - 1} (omega arith))
  later dx (suc (suc (suc dy))) nx ny a b = absurd (omega arith)

  not-later : (dx dy : ℕ) → x + dx ≤ w → 1 ≤ y + dy → dy * 3 + dx ≤ 4 → (y + dy - 1) * w + (x + dx - 1) ≤ y * w + x
  not-later dx zero r a b = omega (arith, next_row (y + 0 - 1) w {k = y} (omega arith))
  not-later dx (suc zero) r a b = omega (arith, same_row y w {k = y + 1 - 1} (omega arith))
  not-later dx (suc (suc dy)) r a b = absurd (omega arith)

module _ (M : Map) (p d : Position) (s : is_step M p d ≡ true) where
  f : Four M p d
  f = four M p d s

  here : In M p
  here = walkable_in M p f.near

  there : In M (toward p d)
  there = walkable_in M (toward p d) f.far

  pub onward-bit : ltb (index M p) (index M (toward p d)) ≡ ltb 4 (bit_of d)
  onward-bit = go (ltb 4 (bit_of d)) refl
    where
      go : (b : Bool) → ltb 4 (bit_of d) ≡ b → ltb (index M p) (index M (toward p d)) ≡ b
      go true e = lt-ltb _ _ (later M.width p.x p.y here.x d.x d.y f.near_x f.near_y f.right (ltb-true _ _ e))
      go false e = le-ltb _ _ (not-later M.width p.x p.y here.x d.x d.y (omega (arith, f.right, there.x)) f.down (ltb-false _ _ e))
