-- What `whole_root` and `root_of` compute. `whole_root_is`: one more digit takes the whole root of n / 4 to that of n, so d digits are enough below 4 ^ d.
-- `root_of_is` is the lemma for code: whoever has 53 digits q and a number k of dropped ones, with s between the squares of q * 2 ^ k and (q + 1) * 2 ^ k, has `root_of s`.
-- For then the whole root is from q * 2 ^ k up to below (q + 1) * 2 ^ k, which determines its size and its leading digits; and `root_of` keeps just these. Assumes nothing.
use Rattle.std.specs.Prelude.{◌≡◌, refl, Bool, true, false, not, cond, T, leb, Float}
use Rattle.std.proofs.Common.{sym, ap, ◌∙◌, subst, inl, zero-lt-suc, lt_of_le_of_lt, lt_of_lt_of_le, lt_of_not-le, not-le_of_lt, le_trans, le_of_eq, le_refl, div-lt_iff_lt-mul, le-div_iff_mul-le, div-mul-le_self, mul-pos, pow-suc, add-one, arith, leb→le, pow-add, pow_pos, pow_mono}
use Prim.Native.Nat.{ℕ, zero, suc, ◌+◌, ◌-◌, ◌*◌, ◌/◌, ◌^◌, ◌≤◌, ◌<◌, compare, Ordering, zero-le}
use Rattle.std.proofs.Math.Nat.{mul-mul-mul_comm}
use Rattle.std.proofs.Math.Dec.{nleb→lt}
use Rattle.std.specs.Float.Ieee.{size, nearest, units}
use Rattle.std.specs.Float.{binary64}
use Rattle.std.specs.Float.Ieee.Digits.{size-lt, size-le, size_reaches}
use Rattle.definitions.specs.Hypotenuse.{digit, whole_root, root_of}
use Rattle.laws.specs.NumberLaws.Squares.{square_le, square-twice, square_next, lt_of_squares}
use Rattle.laws.specs.FloatLaws.LeadingDigits.{dropped, kept, dropped_is, kept_is}

-- ---- the whole root

-- r is the whole root of n
abbrev pub IsWholeRoot : ℕ → ℕ → Type 0
IsWholeRoot n r = (r * r ≤ n) × (n < (r + 1) * (r + 1))

digit_is : (n r : ℕ) → IsWholeRoot (n / 4) r → IsWholeRoot n (digit n (2 * r))
unfolding digit
digit_is n r h = go (leb ((2 * r + 1) * (2 * r + 1)) n) (leb→le ((2 * r + 1) * (2 * r + 1)) n) (nleb→lt ((2 * r + 1) * (2 * r + 1)) n)
  where
    go : (b : Bool) → (T b → (2 * r + 1) * (2 * r + 1) ≤ n) → (T (not b) → n < (2 * r + 1) * (2 * r + 1)) → IsWholeRoot n (cond b (2 * r + 1) (2 * r))
    go true y x = (y tt, omega (arith, h.1, square_next r, square_next (2 * r), square_next (2 * r + 1), square-twice r))
    go false y x = (omega (arith, h.0, square-twice r), x tt)

pub whole_root_is : (d n : ℕ) → n < 4 ^ d → IsWholeRoot n (whole_root d n)
unfolding whole_root
whole_root_is zero n h = (zero-le, h)
whole_root_is (suc d) n h = digit_is n (whole_root d (n / 4)) (whole_root_is d (n / 4) ((div-lt_iff_lt-mul (zero-lt-suc 3)).1 (subst (λ (x : ℕ). n < x) (pow-suc 4 d) h)))

four-pow : (d : ℕ) → 2 ^ d * 2 ^ d ≡ 4 ^ d
four-pow zero = refl
four-pow (suc d) =
    ap (λ (x : ℕ). x * x) (pow-suc 2 d)
    ∙ mul-mul-mul_comm (2 ^ d) 2 (2 ^ d) 2
    ∙ ap (λ (x : ℕ). x * 4) (four-pow d)
    ∙ sym (pow-suc 4 d)

four-pos : (k : ℕ) → 0 < 4 ^ k
four-pos k = subst (λ (x : ℕ). 0 < x) (four-pow k) (mul-pos (pow_pos k) (pow_pos k))

-- a number has one whole root
pub whole_root_unique : (n a b : ℕ) → IsWholeRoot n a → IsWholeRoot n b → a ≡ b
whole_root_unique n a b h k =
    let l : a < b + 1 = lt_of_squares a (b + 1) (lt_of_le_of_lt h.0 k.1) in
    let m : b < a + 1 = lt_of_squares b (a + 1) (lt_of_le_of_lt k.0 h.1) in
    omega arith

-- the whole root of s, of as many digits as s can need: s < 2 ^ size s ≤ 4 ^ (size s / 2 + 1)
abbrev pub root_for : ℕ → ℕ
root_for s = whole_root (size s / 2 + 1) s

pub root_for_is : (s : ℕ) → IsWholeRoot s (root_for s)
root_for_is s =
    let d = size s / 2 + 1 in
    whole_root_is d s (lt_of_lt_of_le (size-lt s) (le_trans (pow_mono (even (size s))) (le_of_eq (pow-add 2 d d ∙ four-pow d))))
  where
    even : (z : ℕ) → z ≤ z / 2 + 1 + (z / 2 + 1)
    even z = omega arith

-- ---- the leading digits of the whole root n of s

module _ (s n : ℕ) (r : IsWholeRoot s n) where
  -- it has half as many digits as s, rounded up
  size-root : (size s + 1) / 2 ≡ size n
  size-root = go (size n) refl
    where
      most : (z : ℕ) → size n ≡ z → size s ≤ z + z
      most z e =
          size-le s (z + z)
          (lt_of_lt_of_le r.1 (le_trans (square_le (n + 1) (2 ^ z) (subst (λ (x : ℕ). x ≤ 2 ^ z) (sym (add-one n)) (subst (λ (x : ℕ). n < 2 ^ x) e (size-lt n)))) (le_of_eq (sym (pow-add 2 z z)))))

      least : (y : ℕ) → size n ≡ suc y → y + y < size s
      least y e =
          lt_of_not-le
          (λ (g : size s ≤ y + y).
          not-le_of_lt (lt_of_lt_of_le (size-lt s) (pow_mono g)) (le_trans (le_of_eq (pow-add 2 y y)) (le_trans (square_le (2 ^ y) n (size_reaches n y (omega arith))) r.0)))

      none : (z : ℕ) → z ≤ 0 → (z + 1) / 2 ≡ 0
      none z h = omega arith

      half : (z y : ℕ) → z ≤ suc y + suc y → y + y < z → (z + 1) / 2 ≡ suc y
      half z y h l = omega arith

      go : (z : ℕ) → size n ≡ z → (size s + 1) / 2 ≡ z
      go zero e = none (size s) (most zero e)
      go (suc y) e = half (size s) y (most (suc y) e) (least y e)

  -- without its last k digits it is the whole root of s / 4 ^ k
  leading_root : (k : ℕ) → IsWholeRoot (s / 4 ^ k) (n / 2 ^ k)
  leading_root k =
      let q = n / 2 ^ k in
      let below : q * 2 ^ k ≤ n = div-mul-le_self n (2 ^ k) in
      let above : n + 1 ≤ (q + 1) * 2 ^ k = subst (λ (x : ℕ). x ≤ (q + 1) * 2 ^ k) (sym (add-one n)) ((div-lt_iff_lt-mul (pow_pos k)).0 (subst (λ (x : ℕ). q < x) (sym (add-one q)) (le_refl (suc q)))) in (
        (le-div_iff_mul-le (four-pos k)).1 (le_trans (le_of_eq (sym (squared q))) (le_trans (square_le (q * 2 ^ k) n below) r.0)),
        (div-lt_iff_lt-mul (four-pos k)).1 (lt_of_lt_of_le r.1 (le_trans (square_le (n + 1) ((q + 1) * 2 ^ k) above) (le_of_eq (squared (q + 1))))),
      )
    where
      squared : (q : ℕ) → q * 2 ^ k * (q * 2 ^ k) ≡ q * q * 4 ^ k
      squared q = mul-mul-mul_comm q (2 ^ k) q (2 ^ k) ∙ ap (λ (x : ℕ). q * q * x) (four-pow k)

-- 53 digits are enough for s / 4 ^ k, where k is what more the root has
few-left : (s : ℕ) → s / 4 ^ ((size s + 1) / 2 - 53) < 4 ^ 53
few-left s =
    let k = (size s + 1) / 2 - 53 in
    (div-lt_iff_lt-mul (four-pos k)).1
    (lt_of_lt_of_le (size-lt s)
    (le_trans (pow_mono (enough (size s)))
    (le_of_eq (pow-add 2 (53 + k) (53 + k) ∙ four-pow (53 + k) ∙ pow-add 4 53 k))))
  where
    enough : (z : ℕ) → z ≤ 53 + ((z + 1) / 2 - 53) + (53 + ((z + 1) / 2 - 53))
    enough z = omega arith

-- ---- the rounding

-- s against the square of the middle between the digits q and q + 1 over k dropped ones, both times 4
abbrev pub against_middle : ℕ → ℕ → ℕ → Ordering
against_middle s q k = compare (4 * s) ((2 * q + 1) * 2 ^ k * ((2 * q + 1) * 2 ^ k))

-- what `root_of` makes of the digits q that it keeps and the number k of those that it drops
abbrev pub root_at : ℕ → ℕ → ℕ → Float
root_at s q k = units binary64 false (nearest q (against_middle s q k)) k

-- it keeps the leading digits of the whole root
pub root_of_at : (s : ℕ) → root_of s ≡ root_at s (kept (root_for s)) (dropped (root_for s))
unfolding root_of
root_of_at s =
    let n = root_for s in
    let r : IsWholeRoot s n = root_for_is s in
    let k = (size s + 1) / 2 - 53 in
    ap (λ (q : ℕ). root_at s q k) (whole_root_unique (s / 4 ^ k) (whole_root 53 (s / 4 ^ k)) (n / 2 ^ k) (whole_root_is 53 (s / 4 ^ k) (few-left s)) (leading_root s n r k))
    ∙ ap (λ (z : ℕ). root_at s (n / 2 ^ (z - 53)) (z - 53)) (size-root s n r)

pub root_of_is : (s q k : ℕ) → 2 ^ 52 ≤ q → q < 2 ^ 53 → q * 2 ^ k * (q * 2 ^ k) ≤ s → s < (q + 1) * 2 ^ k * ((q + 1) * 2 ^ k) → root_of s ≡ root_at s q k
root_of_is s q k lo hi a b =
    let n = root_for s in
    let r : IsWholeRoot s n = root_for_is s in
    let l : q * 2 ^ k < n + 1 = lt_of_squares (q * 2 ^ k) (n + 1) (lt_of_le_of_lt a r.1) in
    let above : q * 2 ^ k ≤ n = omega arith in
    let below : n < (q + 1) * 2 ^ k = lt_of_squares n ((q + 1) * 2 ^ k) (lt_of_le_of_lt r.0 b) in
    root_of_at s
    ∙ ap (λ (z : ℕ). root_at s (n / 2 ^ z) z) (dropped_is n q k hi above below (inl lo))
    ∙ ap (λ (z : ℕ). root_at s z k) (kept_is n q k hi above below)
