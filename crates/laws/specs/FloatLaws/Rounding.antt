-- What rounding keeps, counted in units of the smallest double, 2 ^ -1074: what is 2 ^ j at least stays so, what is 2 ^ j at most stays so, and a multiple of
-- 2 ^ j stays one; for 2 ^ j is a double, and either the digits that are dropped stand below it or the result is a multiple of a larger power.
-- And a double of 2 ^ (j + 52) units or more is a multiple of 2 ^ j, since it has 53 digits. Assumes nothing.
use Rattle.std.specs.Prelude.{◌≡◌, ◌⊎◌, Bool, T, Float}
use Rattle.std.proofs.Common.{sym, ap, ◌∙◌, subst, inl, inr, le_trans, le_of_eq, le_of_lt, lt_of_lt_of_le, lt_of_le_of_lt, not-le_of_lt, le_refl, le-add_left, lt_irrefl, zero-lt-suc, mul-one, one-mul, zero-mul, mul_assoc, mul_comm, mul-le-mul_right, mul-lt-mul_of_pos_right, mul-pos, mul-div_cancel, le-div_iff_mul-le, div-lt_iff_lt-mul, arith, pow-add, pow_pos, pow_mono}
use Prim.Native.Nat.compare
use Prim.Native.Nat.{ℕ, zero, suc, ◌+◌, ◌-◌, ◌*◌, ◌/◌, ◌%◌, ◌^◌, ◌≤◌, ◌<◌, zero-le, compare, Ordering}
use Rattle.std.proofs.Math.Nat.{mul-mod_left}
use Rattle.std.proofs.Math.Pow.{pow-lt}
use Rattle.std.specs.Float.{nan, inf, fin, binary64}
use Rattle.std.specs.Float.Ieee.{fits, size, nearest, round}
use Rattle.std.specs.Float.Ieee.Digits.{size-le, size_reaches}
use Rattle.std.specs.Float.Ieee.Fits.{round_is}
use Rattle.std.specs.Float.Ieee.Exact.{HasValue, units_val}
use Rattle.std.specs.Float.Ieee.Nearest.{closest, closest_mono, nearest-ge}
use Rattle.std.specs.Float.Ieee.Order.{drop, kept}
use Rattle.definitions.specs.Nearest.{pattern_magnitude}
use Rattle.laws.specs.NumberLaws.Comparisons.{le_or_lt}
use Rattle.laws.specs.FloatLaws.Values.{Units}
use Rattle.laws.specs.FloatLaws.Patterns.{magnitude_of, magnitude-low, magnitude-normal, pattern_of, read}

split-power : (j k : ℕ) → k ≤ j → 2 ^ (j - k) * 2 ^ k ≡ 2 ^ j
split-power j k h = sym (pow-add 2 (j - k) k) ∙ ap (λ (z : ℕ). 2 ^ z) (e j k h)
  where
    e : (j k : ℕ) → k ≤ j → j - k + k ≡ j
    e j k h = omega arith

-- ---- n / den units, rounded to a multiple of 2 ^ drop units

abbrev nearest_units : ℕ → ℕ → ℕ
nearest_units n den = kept 53 n den * 2 ^ drop 53 n den

closest_whole : (x b : ℕ) → 0 < b → closest (x * b) b ≡ x
closest_whole x b h =
    ap (λ (z : ℕ). nearest z (compare (x * b % b * 2) b)) (mul-div_cancel x h)
    ∙ ap (λ (z : ℕ). nearest x (compare (z * 2) b)) (mul-mod_left x b)
    ∙ ap (λ (o : Ordering). nearest x o) (above b h)
  where
    above : (u : ℕ) → 0 < u → compare 0 u ≡ Ordering.lt
    above zero h = absurd (lt_irrefl 0 h)
    above (suc u) h = compare.zero-suc u

module _ (n den : ℕ) (D : 0 < den) where
  abbrev k : ℕ
  k = drop 53 n den

  in_steps : (j : ℕ) → k ≤ j → 2 ^ (j - k) * (den * 2 ^ k) ≡ 2 ^ j * den
  in_steps j l = ap (λ (z : ℕ). 2 ^ (j - k) * z) (mul_comm den (2 ^ k)) ∙ sym (mul_assoc (2 ^ (j - k)) (2 ^ k) den) ∙ ap (λ (z : ℕ). z * den) (split-power j k l)

  from_kept : (j : ℕ) → k ≤ j → 2 ^ j * den ≤ n → 2 ^ j ≤ nearest_units n den
  from_kept j l h =
      let u = den * 2 ^ k in
      let q : 2 ^ (j - k) ≤ n / u = (le-div_iff_mul-le (mul-pos D (pow_pos k))).1 (le_trans (le_of_eq (in_steps j l)) h) in
      le_trans (le_of_eq (sym (split-power j k l))) (mul-le-mul_right (2 ^ k) (le_trans q (nearest-ge (n / u) (compare (n % u * 2) u))))

  -- where digits are dropped, the fraction is 2 ^ (52 + k) at least
  nearest_from : (j : ℕ) → 2 ^ j * den ≤ n → 2 ^ j ≤ nearest_units n den
  nearest_from j h = elim (le_or_lt k j) [
    | inl l ↦ from_kept j l h
    | inr l ↦
        let all : 52 + k < size (n / den) = reached (size (n / den)) (lt_of_le_of_lt zero-le l) in
        le_trans (pow_mono (omega arith)) (from_kept (52 + k) (omega arith) ((le-div_iff_mul-le D).0 (size_reaches (n / den) (52 + k) all)))
  ]
    where
      reached : (z : ℕ) → 0 < z - 53 → 52 + (z - 53) < z
      reached z h = omega arith

  nearest-upto : (j : ℕ) → n ≤ 2 ^ j * den → nearest_units n den ≤ 2 ^ j
  nearest-upto j h =
      let w : n / den < 2 ^ suc j = (div-lt_iff_lt-mul D).1 (lt_of_le_of_lt h (mul-lt-mul_of_pos_right (pow-lt (le_refl (suc j))) D)) in
      let l : k ≤ j = few (size (n / den)) j (size-le (n / den) (suc j) w) in
      let x = 2 ^ (j - k) in
      let u = den * 2 ^ k in
      let under : n * 1 ≤ x * 1 * u = le_trans (le_of_eq (mul-one n)) (le_trans h (le_of_eq (sym (in_steps j l) ∙ (λ i. sym (mul-one x) i * u)))) in
      let q : closest n u ≤ x = le_trans (closest_mono n u (x * 1) 1 (mul-pos D (pow_pos k)) (zero-lt-suc 0) under) (le_of_eq (closest_whole x 1 (zero-lt-suc 0))) in
      le_trans (mul-le-mul_right (2 ^ k) q) (le_of_eq (split-power j k l))
    where
      few : (z j : ℕ) → z ≤ suc j → z - 53 ≤ j
      few z j h = omega arith

  nearest-multiple : (j c : ℕ) → n ≡ c * 2 ^ j * den → (z : ℕ) × (nearest_units n den ≡ z * 2 ^ j)
  nearest-multiple j c h = elim (le_or_lt k j) [
    | inl l ↦
        let x = c * 2 ^ (j - k) in (
          c,
          ap (λ (z : ℕ). closest z (den * 2 ^ k) * 2 ^ k) (h ∙ mul_assoc c (2 ^ j) den ∙ ap (λ (z : ℕ). c * z) (sym (in_steps j l)) ∙ sym (mul_assoc c (2 ^ (j - k)) (den * 2 ^ k)))
              ∙ ap (λ (z : ℕ). z * 2 ^ k) (closest_whole x (den * 2 ^ k) (mul-pos D (pow_pos k)))
              ∙ mul_assoc c (2 ^ (j - k)) (2 ^ k)
              ∙ ap (λ (z : ℕ). c * z) (split-power j k l),
        )
    | inr l ↦
        let q = kept 53 n den in
        (q * 2 ^ (k - j), ap (λ (z : ℕ). q * z) (sym (split-power k j (le_of_lt l))) ∙ sym (mul_assoc q (2 ^ (k - j)) (2 ^ j)))
  ]

-- ---- a double that is the rounding of ±num / den, a fraction of at most 2 ^ k units

pub record Rounded (num den k : ℕ) (r : Float) : Type 0 where
  pub units : Units r
  pub upto : units.number ≤ 2 ^ k
  pub from : (j : ℕ) → 2 ^ j * den ≤ num * 2 ^ 1074 → 2 ^ j ≤ units.number
  pub multiple : (j c : ℕ) → num * 2 ^ 1074 ≡ c * 2 ^ j * den → (z : ℕ) × (units.number ≡ z * 2 ^ j)

pub rounded : (s : Bool) (num den k : ℕ) → 0 < den → k < 2098 → num * 2 ^ 1074 ≤ 2 ^ k * den → Rounded num den k (round binary64 s num den)
rounded s num den k D far h =
    let n = num * 2 ^ 1074 in
    let up : nearest_units n den ≤ 2 ^ k = nearest-upto n den D k h in
    let v : HasValue (round binary64 s num den) s (nearest_units n den) (2 ^ 1074) =
    subst (λ (x : Float). HasValue x s (nearest_units n den) (2 ^ 1074)) (sym (round_is binary64 s num den))
    (units_val binary64 s (kept 53 n den) (drop 53 n den) (lt_of_le_of_lt up (pow-lt far))) in
    record {
      units = record { sign = s; number = nearest_units n den; value = v };
      upto = up;
      from = nearest_from n den D;
      multiple = nearest-multiple n den D;
    }

-- zero is a multiple of 2 ^ (k + 1), and at most 2 ^ k
pub rounded-zero : {den k : ℕ} {r : Float} (x : Rounded 0 den k r) → x.units.number ≡ 0
rounded-zero {den} {k} x =
    let m = x.multiple (suc k) 0 (zero-mul (2 ^ 1074) ∙ sym ((λ i. zero-mul (2 ^ suc k) i * den) ∙ zero-mul den)) in
    none m.0 m.1
  where
    none : (z : ℕ) → x.units.number ≡ z * 2 ^ suc k → x.units.number ≡ 0
    none zero e = e ∙ zero-mul (2 ^ suc k)
    none (suc z) e =
        absurd
        (not-le_of_lt (pow-lt {i = k} {j = suc k} (le_refl (suc k)))
        (le_trans (le_of_eq (sym (one-mul (2 ^ suc k)))) (le_trans (mul-le-mul_right (2 ^ suc k) (zero-lt-suc z)) (le_trans (le_of_eq (sym e)) x.upto))))

-- ---- a double of 2 ^ (j + 52) units or more

large-pattern : (b j : ℕ) → 2 ^ (j + 52) ≤ pattern_magnitude b → (z : ℕ) × (pattern_magnitude b ≡ z * 2 ^ j)
large-pattern b j h = elim (le_or_lt (2 ^ 52) b) [
  | inl l ↦
      let k = b / 2 ^ 52 - 1 in
      let g = 2 ^ 52 + b % 2 ^ 52 in
      let up : pattern_magnitude b < 2 ^ (53 + k) =
      lt_of_le_of_lt (le_of_eq (magnitude-normal b l)) (lt_of_lt_of_le (mul-lt-mul_of_pos_right (small b) (pow_pos k)) (le_of_eq (sym (pow-add 2 53 k)))) in
      let jk : j ≤ k = order k (le_or_lt (53 + k) (j + 52)) (λ (d : 53 + k ≤ j + 52). not-le_of_lt up (le_trans (pow_mono d) h)) in
      (g * 2 ^ (k - j), magnitude-normal b l ∙ ap (λ (z : ℕ). g * z) (sym (split-power k j jk)) ∙ sym (mul_assoc g (2 ^ (k - j)) (2 ^ j)))
  | inr l ↦ absurd (not-le_of_lt (lt_of_lt_of_le (subst (λ (z : ℕ). z < 2 ^ 52) (sym (magnitude-low b l)) l) (pow_mono (le-add_left 52 j))) h)
]
  where
    small : (b : ℕ) → 2 ^ 52 + b % 2 ^ 52 < 2 ^ 53
    small b = omega arith

    order : (k : ℕ) → (53 + k ≤ j + 52) ⊎ (j + 52 < 53 + k) → (53 + k ≤ j + 52 → ⊥) → j ≤ k
    order k (inl d) n = absurd (n d)
    order k (inr d) n = omega arith

pub large-multiple : {x : Float} (p : Units x) (j : ℕ) → T (fits binary64 x) → 2 ^ (j + 52) ≤ p.number → (z : ℕ) × (p.number ≡ z * 2 ^ j)
large-multiple {x} p j f h = go x f p.value
  where
    go : (x : Float) → T (fits binary64 x) → HasValue x p.sign p.number (2 ^ 1074) → (z : ℕ) × (p.number ≡ z * 2 ^ j)
    go nan f v = absurd v
    go (inf t) f v = absurd v
    go (fin t m e) f v =
        let q : p.number ≡ pattern_magnitude (pattern_of (fin t m e)) = sym (magnitude_of (fin t m e) p.sign p.number v) ∙ (read t m e f).0 in
        let r = large-pattern (pattern_of (fin t m e)) j (le_trans h (le_of_eq q)) in
        (r.0, q ∙ r.1)
