-- `root::division_step` meets its contract. The quotient q of rest by 2 * root is below 2 ^ 10, and the code goes n = q - 1 up. The square of root + n is root
-- * root + n * (2 * root + n), and the last product is not above rest: n * (2 * root) is at least 2 * root below it, and n * n is below 2 * root. Assumes
-- nothing.
use mathlib.Core.Path.{◌≡◌, refl, sym, ap, ◌∙◌}
use Prim.Native.Nat.{ℕ, ◌+◌, ◌-◌, ◌*◌, ◌/◌, ◌^◌, ◌≤◌, ◌<◌}
use native.Mathlib.Nat.{div-lt_iff_lt-mul, div-mul-le_self, two-mul, one-mul, add_assoc, mul_comm, mul-add, add-mul}
use native.Mathlib.Omega.{arith}
use Rattle.laws.specs.NumberLaws.Squares.{square_le}
use Rattle.hypotenuse.proofs.root.division_step.Goals as goal

square_of_sum : (a n : ℕ) → (a + n) * (a + n) ≡ a * a + n * (2 * a + n)
square_of_sum a n = simp (mul-add, add-mul, mul_comm, add_assoc) refl ∙ sym (ap (λ (x : ℕ). a * a + n * (x + n)) (two-mul a))

module _ (root rest : ℕ) (lo : 2 ^ 52 ≤ root) (small : rest < 2 ^ 63) where
  abbrev q : ℕ
  q = rest / (2 * root)

  q_lt : q < 2 ^ 10
  q_lt = (div-lt_iff_lt-mul {k = 2 * root} {x = rest} {y = 2 ^ 10} (omega arith)).1 (omega arith)

  taken-le : 0 < q → (q - 1) * (2 * root + (q - 1)) ≤ rest
  taken-le h =
      let whole : q * (2 * root) ≤ rest = div-mul-le_self rest (2 * root) in
      let n = q - 1 in
      let e : q * (2 * root) ≡ n * (2 * root) + 2 * root = ap (λ (x : ℕ). x * (2 * root)) (back q h) ∙ add-mul n 1 (2 * root) ∙ ap (λ (x : ℕ). n * (2 * root) + x) (one-mul (2 * root)) in
      let s : n * n ≤ 2 ^ 10 * 2 ^ 10 = square_le n (2 ^ 10) (omega (arith, q_lt)) in
      omega (arith, mul-add n (2 * root) n)
    where
      back : (q : ℕ) → 0 < q → q ≡ q - 1 + 1
      back q h = omega arith

pub overflow_add-result : goal.overflow_add-result
overflow_add-result c =
    omega (arith, q_lt c.args.root c.args.rest c.requires.0 c.requires.2)

pub overflow_add-result-2 : goal.overflow_add-result-2
overflow_add-result-2 c =
    omega (arith, q_lt c.args.root c.args.rest c.requires.0 c.requires.2)

pub overflow_mul-result-2 : goal.overflow_mul-result-2
overflow_mul-result-2 c =
    omega (arith, taken-le c.args.root c.args.rest c.requires.0 c.requires.2 (omega arith))

pub overflow_sub-result : goal.overflow_sub-result
overflow_sub-result c =
    taken-le c.args.root c.args.rest c.requires.0 c.requires.2 (omega arith)

pub returns : goal.returns
returns c =
    let root = c.args.root in
    let rest = c.args.rest in
    let n = rest / (2 * root) - 1 in
    omega (arith, q_lt root rest c.requires.0 c.requires.2, taken-le root rest c.requires.0 c.requires.2 (omega arith), square_of_sum root n)
