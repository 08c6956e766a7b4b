-- Counting the ones of eight bits, as the code writes it. Assumes nothing.
use Prim.Native.Nat.{ℕ, zero, suc, ◌+◌, ◌*◌, ◌/◌, ◌%◌, ◌^◌, ◌<◌}
use native.Mathlib.Omega.{arith}
use native.Mathlib.Nat.{pow-succ'}
use mathlib.Core.Path.{◌≡◌, ap, ◌∙◌, subst}
use lib.Count.{ones_in, ones, ones_step}

-- the ones of a number of k digits are those among its lowest k
pub ones_in_lem : (k n : ℕ) → n < 2 ^ k → ones n ≡ ones_in k n
unfolding ones_in ones
ones_in_lem zero n h = ap ones (small n h)
  where
    small : (n : ℕ) → n < 1 → n ≡ 0
    small n h = omega arith
ones_in_lem (suc k) n h = ones_step n ∙ ap (λ m. n % 2 + m) (ones_in_lem k (n / 2) (half (subst (λ m. n < m) (pow-succ' 2 k) h)))
  where
    half : n < 2 * 2 ^ k → n / 2 < 2 ^ k
    half h = omega arith
