-- The numbers of `near_pattern`: x * 2 ^ k and y * 2 ^ (k - gap), the sum F of their squares in quarters of 4 ^ k, without what is below one of these, and the
-- whole root t of F, of 54 or 55 digits. With P = 2 ^ gap and U = 2 ^ (k - gap), the unit is P * U = 2 ^ k, and what was cut off counts squares of U. Assumes
-- nothing.
use mathlib.Core.Path.{◌≡◌, refl, sym, ap, ◌∙◌, subst}
use mathlib.Core.Logic.{◌⊎◌, inl, inr}
use Prim.Native.Nat.{ℕ, ◌+◌, ◌-◌, ◌*◌, ◌%◌, ◌^◌, ◌≤◌, ◌<◌}
use native.Mathlib.Nat.{one-mul, two-mul, add_assoc, add_comm, add_left_comm, mul_assoc, mul_left_comm, mul-add, add-mul, mul-le-mul_left}
use native.Mathlib.Omega.{arith}
use mathlib.Core.Bool.{false}
use lib.Pow.{pow-add, pow_pos}
use lib.Ieee.{units, binary64, of_bits}
use Rattle.definitions.specs.Hypotenuse.{root_of}
use Rattle.laws.specs.FloatLaws.Patterns.{made}
use Rattle.laws.specs.NumberLaws.Squares.{square_le, square_next, square-twice, lt_of_squares}
use Rattle.hypotenuse.specs.Rounding.{Rounded, down, up, tie}
use Rattle.hypotenuse.proofs.Rounds.{Measured, went_down, went_up, tied}
use Rattle.hypotenuse.proofs.Apart.{square-out}

abbrev pub total : (k x y gap : ℕ) → ℕ
total k x y gap = x * 2 ^ k * (x * 2 ^ k) + y * 2 ^ (k - gap) * (y * 2 ^ (k - gap))

-- high is the square of 2 * y, shifted
pub record Near (k x y gap high lost F t rest : ℕ) : Type 0 where
  pub x-lo : 2 ^ 52 ≤ x
  pub x-hi : x < 2 ^ 53
  pub y-hi : y < 2 ^ 53
  pub gap-k : gap ≤ k
  pub k_lt : k < 1040
  pub shifted : high * 2 ^ (2 * gap) + lost ≡ 2 * y * (2 * y)
  pub lost_lt : lost < 2 ^ (2 * gap)
  pub sum : F ≡ 2 * x * (2 * x) + high
  pub root : t * t + rest ≡ F
  pub rest_le : rest ≤ 2 * t

pub double-le : (m : ℕ) → m < 2 ^ 53 → 2 * m * (2 * m) ≤ (2 ^ 54 - 2) * (2 ^ 54 - 2)
double-le m h = square_le (2 * m) (2 ^ 54 - 2) (omega arith)

pub high_le : (gap high lost s : ℕ) → high * 2 ^ gap + lost ≡ s → high ≤ s
high_le gap high lost s e =
    let h : high * 1 ≤ high * 2 ^ gap = mul-le-mul_left high (pow_pos gap) in
    omega arith

pub powers : (k gap : ℕ) → gap ≤ k → 2 ^ k ≡ 2 ^ gap * 2 ^ (k - gap)
powers k gap h = ap (λ (z : ℕ). 2 ^ z) (back k gap h) ∙ pow-add 2 gap (k - gap)
  where
    back : (k gap : ℕ) → gap ≤ k → k ≡ gap + (k - gap)
    back k gap h = omega arith

sorted : (a h l P U : ℕ) → a * (P * U) * (a * (P * U)) + (h * (P * P) + l) * (U * U) ≡ ((a * a + h) * (P * P) + l) * (U * U)
sorted a h l P U = simp (add-mul, mul_assoc, mul_left_comm, add_assoc, add_comm, add_left_comm) refl

-- four squares of m units are one of 2 * m
four : (m z : ℕ) → 4 * (m * z * (m * z)) ≡ 2 * m * z * (2 * m * z)
four m z = sym (ap (λ (w : ℕ). w * w) (mul_assoc 2 m z) ∙ square-twice (m * z))

module _ {k x y gap high lost F t rest : ℕ} (n : Near k x y gap high lost F t rest) where
  abbrev P : ℕ
  P = 2 ^ gap

  abbrev U : ℕ
  U = 2 ^ (k - gap)

  P-square : 2 ^ (2 * gap) ≡ P * P
  P-square = ap (λ (z : ℕ). 2 ^ z) (two-mul gap) ∙ pow-add 2 gap gap

  four-times : 4 * total k x y gap ≡ (F * (P * P) + lost) * (U * U)
  four-times =
      mul-add 4 (x * 2 ^ k * (x * 2 ^ k)) (y * U * (y * U))
      ∙ (λ i. four x (2 ^ k) i + four y U i)
      ∙ (λ i. 2 * x * powers k gap n.gap-k i * (2 * x * powers k gap n.gap-k i) + square-out (2 * y) U i)
      ∙ ap (λ (z : ℕ). 2 * x * (P * U) * (2 * x * (P * U)) + z * (U * U)) (sym n.shifted ∙ ap (λ (z : ℕ). high * z + lost) P-square)
      ∙ sorted (2 * x) high lost P U
      ∙ ap (λ (z : ℕ). (z * (P * P) + lost) * (U * U)) (sym n.sum)

  pub measured : Measured (total k x y gap) F lost P U t rest
  measured =
      record {
        total = four-times;
        root = n.root;
        rest_le = n.rest_le;
        below-unit = subst (λ (z : ℕ). lost < z) P-square n.lost_lt;
        U_pos = pow_pos (k - gap);
      }

  -- the root's size
  pub root_ge : 2 ^ 53 ≤ t
  root_ge =
      let q : 2 ^ 53 * 2 ^ 53 ≤ 2 * x * (2 * x) = square_le (2 ^ 53) (2 * x) (omega arith) in
      let l = lt_of_squares (2 ^ 53) (t + 1) (omega (arith, square_next t)) in
      omega arith

  pub root_lt : t < 2 ^ 55
  root_lt = lt_of_squares t (2 ^ 55) (omega (arith, double-le x n.x-hi, double-le y n.y-hi, high_le (2 * gap) high lost (2 * y * (2 * y)) n.shifted))

  -- q leading digits in units of 2 ^ k', each of which is 2 * w half units of 2 ^ k
  module _ (q w k' part res : ℕ) (lo : 2 ^ 52 ≤ q) (hi : q < 2 ^ 53) (k'-lt : k' < 1041) (unit : 2 ^ k' ≡ w * (P * U)) (t-is : t ≡ 2 * q * w + part) (part-lt : part < 2 * w) where
    mid : (2 * q + 1) * w ≡ 2 * q * w + w
    mid = add-mul (2 * q) 1 w ∙ ap (λ (z : ℕ). 2 * q * w + z) (one-mul w)

    to : t < (2 * q + 2) * w
    to = omega (arith, add-mul (2 * q) 2 w)

    give : (q' : ℕ) → 2 ^ 52 ≤ q' → q' ≤ 2 ^ 53 → res ≡ k' * 2 ^ 52 + q' → root_of (total k x y gap) ≡ units binary64 false q' k' → (of_bits binary64 res ≡ root_of (total k x y gap)) × (res < 2047 * 2 ^ 52)
    give q' l u e r = (ap (of_bits binary64) e ∙ made q' k' l u (omega arith) ∙ sym r, omega arith)

    up_case : (w < part) ⊎ ((part ≡ w) × (0 < rest + lost)) → ((2 * q + 1) * w < t) ⊎ (((2 * q + 1) * w ≤ t) × (0 < rest + lost))
    up_case (inl l) = inl (omega (arith, mid))
    up_case (inr e) = inr (omega (arith, mid), e.1)

    pub nearest-root : Rounded k' q part w (rest + lost) res → (of_bits binary64 res ≡ root_of (total k x y gap)) × (res < 2047 * 2 ^ 52)
    nearest-root (down l e) = give q lo (omega arith) e (went_down measured q w k' lo hi unit (omega arith) to (omega (arith, mid)))
    nearest-root (up h e) = give (q + 1) (omega arith) (omega arith) e (went_up measured q w k' lo hi unit (omega arith) to (up_case h))
    nearest-root (tie p z e) = give (q + q % 2) (omega arith) (omega arith) e (tied measured q w k' lo hi unit (omega arith) to (omega (arith, mid)) z)
