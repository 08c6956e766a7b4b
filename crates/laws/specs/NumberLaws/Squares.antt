-- Squares of whole numbers are in the order of the numbers, so that a root is found, and two roots are compared, by squares alone. Assumes nothing.
use Rattle.std.specs.Prelude.{◌≡◌, refl, ℕ, ◌+◌, ◌*◌, ◌≤◌, ◌<◌}
use Rattle.std.proofs.Common.{mul-le-mul, mul-le-mul_left, mul-lt-mul_of_pos_right, lt_of_le_of_lt, lt_of_not-le, not-le_of_lt, le_of_lt, le_of_suc-le-suc, mul-one, one-mul, mul-add, add-mul, add_assoc, add_comm, arith}
use Rattle.std.proofs.Math.Nat.{add_left_comm, mul-mul-mul_comm}

pub square_le : (a b : ℕ) → a ≤ b → a * a ≤ b * b
square_le a b h = mul-le-mul h h

pub square_lt : (a b : ℕ) → a < b → a * a < b * b
square_lt a b h = lt_of_le_of_lt (mul-le-mul_left a (le_of_lt h)) (mul-lt-mul_of_pos_right h (omega arith))

pub lt_of_squares : (a b : ℕ) → a * a < b * b → a < b
lt_of_squares a b h = lt_of_not-le (λ (g : b ≤ a). not-le_of_lt h (square_le b a g))

pub le_of_squares : (a b : ℕ) → a * a ≤ b * b → a ≤ b
le_of_squares a b h = le_of_suc-le-suc (lt_of_not-le (λ (g : b < a). not-le_of_lt (square_lt b a g) h))

pub square-twice : (a : ℕ) → 2 * a * (2 * a) ≡ 4 * (a * a)
square-twice a = mul-mul-mul_comm 2 a 2 a

pub square_next : (a : ℕ) → (a + 1) * (a + 1) ≡ a * a + 2 * a + 1
square_next a = e a (a * a) (simp (mul-add, add-mul, mul-one, one-mul, add_assoc, add_comm, add_left_comm) refl)
  where
    e : (a s : ℕ) {w : ℕ} → w ≡ s + (a + (a + 1)) → w ≡ s + 2 * a + 1
    e a s h = omega arith
