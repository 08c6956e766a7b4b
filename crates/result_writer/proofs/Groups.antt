-- How many groups of seven bits a number has, by the power of two that it reaches. Assumes nothing.
use Prim.Native.Nat.{ℕ, zero, suc, ◌+◌, ◌*◌, ◌/◌, ◌^◌, ◌<◌, ◌≤◌, max}
use native.Mathlib.Omega.{arith}
use native.Mathlib.Nat.{pow-suc}
use mathlib.Core.Path.{◌≡◌, refl, sym, ap, ◌∙◌}
use lib.ListN.{length}
use Rattle.std.proofs.lemmas.Nat.{pow-add}
use Rattle.std.proofs.Math.Pow.{pow_mono}
use Rattle.results.specs.Shortest.{shortest_within, shortest}
use Rattle.results.specs.ShortestSteps.{one_group, more_groups}

-- as many groups as powers of 128 are reached, and one
groups : (k most n : ℕ) → k ≤ most → n < 128 ^ suc k → (1 ≤ k → 128 ^ k ≤ n) → length (shortest_within (suc most) n) ≡ k + 1
groups zero most n f h l = ap length (one_group most n (omega arith))
groups (suc k) zero n f h l = absurd (omega arith)
groups (suc k) (suc most) n f h l =
    let power : 128 ^ suc (suc k) ≡ 128 ^ suc k * 128 = pow-suc 128 (suc k) in
    let below : 128 ^ suc k ≡ 128 ^ k * 128 = pow-suc 128 k in
    let reached : 128 ^ suc k ≤ n = l (omega arith) in
    let one : 1 ≤ 128 ^ k = positive k in
    omega (arith, ap length (more_groups (suc most) n (omega arith)), groups k most (n / 128) (omega arith) (omega arith) (λ j. omega arith))
  where
    positive : (j : ℕ) → 1 ≤ 128 ^ j
    positive zero = omega arith
    positive (suc j) = omega (arith, positive j, pow-suc 128 j)

sevens : (k : ℕ) → 2 ^ (7 * k) ≡ 128 ^ k
sevens zero = refl
sevens (suc k) =
    let split : 7 * suc k ≡ 7 + 7 * k = omega arith in
    ap (λ n. 2 ^ n) split ∙ pow-add 2 7 (7 * k) ∙ omega (arith, sevens k, pow-suc 128 k)

pub groups_by_power : (n m r : ℕ) → m ≡ max n 1 → 2 ^ r ≤ m → m < 2 * 2 ^ r → r < 64 → r / 7 + 1 ≡ length (shortest n)
unfolding shortest
groups_by_power n m r e c d f =
    let k : ℕ = r / 7 in
    let below : 2 ^ (7 * k) ≤ 2 ^ r = pow_mono (omega arith) in
    let above : 2 ^ suc r ≤ 2 ^ (7 * suc k) = pow_mono (omega arith) in
    let two : 1 ≤ k → 2 ≤ 2 ^ r = λ j. pow_mono {i = 1} {j = r} (omega arith) in
    let low : n < 128 ^ suc k = omega (arith, e, sevens (suc k), pow-suc 2 r) in
    sym (groups k 9 n (omega arith) low (λ j. omega (arith, e, sevens k, two j)))

-- below 128 there is one group
pub one_alone : (n : ℕ) → n < 128 → 1 ≡ length (shortest n)
unfolding shortest
one_alone n h = sym (ap length (one_group 9 n h))
