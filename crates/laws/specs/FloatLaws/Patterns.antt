-- Bit patterns of doubles. `made`: the pattern of q * 2 ^ k smallest doubles is k * 2 ^ 52 + q, the leading digit of q being one in the exponent's field. Where q is 2 ^ 53 the carry is there too.
-- `of_bits_value` and `read` go the other way: the double of a pattern has the magnitude `pattern_magnitude`, and a double that fits has its magnitude from its pattern. Assumes nothing.
use Rattle.std.specs.Prelude.{◌≡◌, refl, ◌⊎◌, ℕ, zero, suc, ◌+◌, ◌-◌, ◌*◌, ◌/◌, ◌%◌, ◌^◌, ◌≤◌, ◌<◌, Bool, true, false, not, cond, ℤ, T, leb, ltb, eqb, Float}
use Rattle.std.proofs.Common.{sym, ap, ◌∙◌, subst, inl, inr, mul-div_cancel, mul-lt-mul_of_pos_right, le_refl, mul-one, mul-le-mul_right, lt_of_le_of_lt, lt_of_not-le, not-le_of_lt, le_of_eq, eq-or-lt_of_le, zero-add, mul_assoc, mod-eq_of_lt, arith, true≢false, lt→ltb, ltb→lt, eqb→eq, lit<, lit≤, pow-add, pow_pos, leb-false}
use Rattle.std.proofs.Math.Nat.{pow-succ'}
use Rattle.std.proofs.Math.Dec.{not_T}
use Rattle.std.proofs.Math.Pow.{pow-lt}
use Rattle.std.specs.Float.{nan, inf, fin, binary64}
use Rattle.std.specs.Float.Ieee.{up, down, odd, units, fits, of_fields, of_bits, to_bits, nan_bits, is_nan, ne}
use Rattle.std.specs.Float.Ieee.Compare.{nan_differs}
use Rattle.std.specs.Float.Ieee.Fits.{down_pos, odd-fits, inf-fits}
use Rattle.std.specs.Float.Ieee.Exact.{HasValue, odd_sign, units_val}
use Rattle.std.specs.Float.Ieee.Scale.{finite}
use Rattle.std.specs.Float.Ieee.Bits.{cond_no, is_true, of_bits-to_bits, nan_bits_above}
use Rattle.std.proofs.lemmas.Bool.{lt-leb}
use Rattle.definitions.specs.Hypotenuse.{magnitude}
use Rattle.definitions.specs.Nearest.{pattern_magnitude}
use Rattle.laws.specs.NumberLaws.Comparisons.{le_or_lt}
use Rattle.laws.specs.FloatLaws.LeadingDigits.{dropped, kept, Leading, dropped_is, kept_is}

-- ---- magnitudes

-- the magnitude, where the value is known as a fraction of 2 ^ 1074
pub magnitude_of : (x : Float) (s : Bool) (a : ℕ) → HasValue x s a (2 ^ 1074) → magnitude x ≡ a
unfolding magnitude
magnitude_of nan s a h = absurd h
magnitude_of (inf t) s a h = absurd h
magnitude_of (fin t m e) s a h = ap (λ (z : ℕ). z / down e) h.1 ∙ mul-div_cancel a (down_pos e)

-- without a hidden digit, and with one
pub magnitude-low : (b : ℕ) → b < 2 ^ 52 → pattern_magnitude b ≡ b
unfolding pattern_magnitude
magnitude-low b h = ap (λ (t : Bool). cond t b ((2 ^ 52 + b % 2 ^ 52) * 2 ^ (b / 2 ^ 52 - 1))) (is_true (ltb b (2 ^ 52)) (lt→ltb b (2 ^ 52) h))

pub magnitude-normal : (b : ℕ) → 2 ^ 52 ≤ b → pattern_magnitude b ≡ (2 ^ 52 + b % 2 ^ 52) * 2 ^ (b / 2 ^ 52 - 1)
unfolding pattern_magnitude
magnitude-normal b h = cond_no (ltb b (2 ^ 52)) b _ (not_T (ltb b (2 ^ 52)) (λ t. not-le_of_lt (ltb→lt b (2 ^ 52) t) h))

-- ---- from digits to a pattern

-- `to_bits` of a double that is not negative sees only its magnitude n
written : (x : Float) (n : ℕ) → HasValue x false n (2 ^ 1074) → to_bits binary64 x ≡ dropped n * 2 ^ 52 + kept n
unfolding to_bits
written nan n h = absurd h
written (inf t) n h = absurd h
written (fin true m e) n h = absurd (true≢false h.0)
written (fin false m e) n h =
    ap (λ (z : ℕ). 0 + dropped z * 2 ^ 52 + kept z) (ap (λ (z : ℕ). z / down e) h.1 ∙ mul-div_cancel n (down_pos e))
    ∙ ap (λ (z : ℕ). z + kept n) (zero-add (dropped n * 2 ^ 52))

pattern_53 : (q k : ℕ) → Leading q k → q < 2 ^ 53 → dropped (q * 2 ^ k) * 2 ^ 52 + kept (q * 2 ^ k) ≡ k * 2 ^ 52 + q
pattern_53 q k lead hi =
    let n = q * 2 ^ k in
    let above : q * 2 ^ k < (q + 1) * 2 ^ k = mul-lt-mul_of_pos_right (omega arith) (pow_pos k) in
    ap (λ (z : ℕ). z * 2 ^ 52 + n / 2 ^ z) (dropped_is n q k hi (le_refl n) above lead) ∙ ap (λ (z : ℕ). k * 2 ^ 52 + z) (kept_is n q k hi (le_refl n) above)

-- 2 ^ 53 times 2 ^ k is 2 ^ 52 times 2 ^ (k + 1)
carry : (q k : ℕ) → q ≡ 2 ^ 53 → (q * 2 ^ k ≡ 2 ^ 52 * 2 ^ suc k) × (k * 2 ^ 52 + q ≡ suc k * 2 ^ 52 + 2 ^ 52)
carry q k e = (ap (λ (z : ℕ). z * 2 ^ k) e ∙ mul_assoc (2 ^ 52) 2 (2 ^ k) ∙ ap (λ (z : ℕ). 2 ^ 52 * z) (sym (pow-succ' 2 k)), omega arith)

pattern_at : (q k : ℕ) → Leading q k → q ≤ 2 ^ 53 → dropped (q * 2 ^ k) * 2 ^ 52 + kept (q * 2 ^ k) ≡ k * 2 ^ 52 + q
pattern_at q k lead hi = elim (eq-or-lt_of_le hi) [
  | inl e ↦ ap (λ (z : ℕ). dropped z * 2 ^ 52 + kept z) (carry q k e).0 ∙ pattern_53 (2 ^ 52) (suc k) (inl (lit≤ tt)) (lit< tt) ∙ sym (carry q k e).1
  | inr l ↦ pattern_53 q k lead l
]

pub no_overflow : (q k : ℕ) → q ≤ 2 ^ 53 → k < 2045 → q * 2 ^ k < 2 ^ 2098
no_overflow q k h l = lt_of_le_of_lt (mul-le-mul_right (2 ^ k) h) (lt_of_le_of_lt (le_of_eq (sym (pow-add 2 53 k))) (pow-lt (far k l)))
  where
    far : (k : ℕ) → k < 2045 → 53 + k < 2098
    far k h = omega arith

pub to_bits_units : (q k : ℕ) → Leading q k → q ≤ 2 ^ 53 → k < 2045 → to_bits binary64 (units binary64 false q k) ≡ k * 2 ^ 52 + q
to_bits_units q k lead hi l = written (units binary64 false q k) (q * 2 ^ k) (units_val binary64 false q k (no_overflow q k hi l)) ∙ pattern_at q k lead hi

pub units-fits : (q k : ℕ) → q ≤ 2 ^ 53 → T (fits binary64 (units binary64 false q k))
unfolding units
units-fits q k h = go (ltb (q * 2 ^ k) (2 ^ 2098)) (ltb→lt (q * 2 ^ k) (2 ^ 2098))
  where
    go : (b : Bool) → (T b → q * 2 ^ k < 2 ^ 2098) → T (fits binary64 (cond b (odd 54 false q k 1074) (inf false)))
    go true l = odd-fits binary64 54 false q k (lt_of_le_of_lt h (lit< tt)) h (l tt)
    go false l = inf-fits binary64 false

pub made : (q k : ℕ) → 2 ^ 52 ≤ q → q ≤ 2 ^ 53 → k < 2045 → of_bits binary64 (k * 2 ^ 52 + q) ≡ units binary64 false q k
made q k lo hi l = ap (of_bits binary64) (sym (to_bits_units q k (inl lo) hi l)) ∙ of_bits-to_bits binary64 (units binary64 false q k) (units-fits q k hi)

-- the magnitude of that pattern
magnitude_53 : (q k : ℕ) → 2 ^ 52 ≤ q → q < 2 ^ 53 → pattern_magnitude (k * 2 ^ 52 + q) ≡ q * 2 ^ k
magnitude_53 q k lo hi =
    magnitude-normal (k * 2 ^ 52 + q) (omega arith)
    ∙ ap (λ (z : ℕ). z * 2 ^ ((k * 2 ^ 52 + q) / 2 ^ 52 - 1)) (fraction q k lo hi)
    ∙ ap (λ (z : ℕ). q * 2 ^ z) (exponent q k lo hi)
  where
    fraction : (q k : ℕ) → 2 ^ 52 ≤ q → q < 2 ^ 53 → 2 ^ 52 + (k * 2 ^ 52 + q) % 2 ^ 52 ≡ q
    fraction q k lo hi = omega arith

    exponent : (q k : ℕ) → 2 ^ 52 ≤ q → q < 2 ^ 53 → (k * 2 ^ 52 + q) / 2 ^ 52 - 1 ≡ k
    exponent q k lo hi = omega arith

pub magnitude_at : (q k : ℕ) → Leading q k → q ≤ 2 ^ 53 → pattern_magnitude (k * 2 ^ 52 + q) ≡ q * 2 ^ k
magnitude_at q k lead hi = go lead (eq-or-lt_of_le hi)
  where
    few : (q : ℕ) → q < 2 ^ 53 → pattern_magnitude (0 * 2 ^ 52 + q) ≡ q * 2 ^ 0
    few q h = elim (le_or_lt (2 ^ 52) q) [
      | inl l ↦ magnitude_53 q 0 l h
      | inr l ↦ ap pattern_magnitude (zero-add q) ∙ magnitude-low q l ∙ sym (mul-one q)
    ]

    go : Leading q k → (q ≡ 2 ^ 53) ⊎ (q < 2 ^ 53) → pattern_magnitude (k * 2 ^ 52 + q) ≡ q * 2 ^ k
    go lead (inl e) = ap pattern_magnitude (carry q k e).1 ∙ magnitude_53 (2 ^ 52) (suc k) (lit≤ tt) (lit< tt) ∙ sym (carry q k e).0
    go (inl lo) (inr l) = magnitude_53 q k lo l
    go (inr z) (inr l) = subst (λ (k : ℕ). pattern_magnitude (k * 2 ^ 52 + q) ≡ q * 2 ^ k) (sym z) (few q l)

-- a pattern up to the infinity's is no NaN's
pub no_nan : (b : ℕ) → b ≤ 2047 * 2 ^ 52 → T (not (nan_bits binary64 b))
no_nan b h = subst (λ (z : Bool). T (not z)) (sym (nan_bits_above binary64 b)) (not_T (ltb (2047 * 2 ^ 52) (b % 2 ^ 63)) (λ t. go b h (ltb→lt (2047 * 2 ^ 52) (b % 2 ^ 63) t)))
  where
    go : (b : ℕ) → b ≤ 2047 * 2 ^ 52 → 2047 * 2 ^ 52 < b % 2 ^ 63 → ⊥
    go b h t = omega arith

-- ---- from a pattern to the double

of_bits_fields : (w : ℕ) → of_bits binary64 w ≡ of_fields binary64 (leb (2 ^ 63) w) (w % 2 ^ 63 / 2 ^ 52) (w % 2 ^ 63 % 2 ^ 52)
unfolding of_bits
of_bits_fields w = ap (λ (z : ℕ). of_fields binary64 (leb (2 ^ 63) w) (w % 2 ^ 63 / 2 ^ 52) z) (fraction w)
  where
    fraction : (w : ℕ) → w % 2 ^ 52 ≡ w % 2 ^ 63 % 2 ^ 52
    fraction w = omega arith

fields_value : (s : Bool) (b x : ℕ) → b / 2 ^ 52 ≡ x → x < 2047 → HasValue (of_fields binary64 s x (b % 2 ^ 52)) s (pattern_magnitude b) (2 ^ 1074)
unfolding of_fields
fields_value s b zero e l = subst (λ (z : ℕ). HasValue (odd 53 s (b % 2 ^ 52) 0 1074) s z (2 ^ 1074)) (mul-one (b % 2 ^ 52) ∙ small b e ∙ sym (magnitude-low b (low b e))) (odd_sign 53 s (b % 2 ^ 52) 0 1074)
  where
    low : (b : ℕ) → b / 2 ^ 52 ≡ 0 → b < 2 ^ 52
    low b e = omega arith

    small : (b : ℕ) → b / 2 ^ 52 ≡ 0 → b % 2 ^ 52 ≡ b
    small b e = omega arith
fields_value s b (suc x) e l =
    subst (λ (v : Float). HasValue v s (pattern_magnitude b) (2 ^ 1074)) (sym (cond_no (eqb (suc x) 2047) (cond (eqb (b % 2 ^ 52) 0) (inf s) nan) (odd 53 s (2 ^ 52 + b % 2 ^ 52) x 1074) (not_T (eqb (suc x) 2047) (λ t. other x l (eqb→eq (suc x) 2047 t)))))
    (subst (λ (z : ℕ). HasValue (odd 53 s (2 ^ 52 + b % 2 ^ 52) x 1074) s z (2 ^ 1074)) (ap (λ (z : ℕ). (2 ^ 52 + b % 2 ^ 52) * 2 ^ z) (back b x e) ∙ sym (magnitude-normal b (normal b x e))) (odd_sign 53 s (2 ^ 52 + b % 2 ^ 52) x 1074))
  where
    back : (b x : ℕ) → b / 2 ^ 52 ≡ suc x → x ≡ b / 2 ^ 52 - 1
    back b x e = omega arith

    normal : (b x : ℕ) → b / 2 ^ 52 ≡ suc x → 2 ^ 52 ≤ b
    normal b x e = omega arith

    other : (x : ℕ) → suc x < 2047 → suc x ≡ 2047 → ⊥
    other x l e = omega arith

-- the double of any word whose pattern without its sign, w % 2 ^ 63, is below the infinity's
pub of_bits_value : (w : ℕ) → w % 2 ^ 63 < 2047 * 2 ^ 52 → HasValue (of_bits binary64 w) (leb (2 ^ 63) w) (pattern_magnitude (w % 2 ^ 63)) (2 ^ 1074)
of_bits_value w h =
    subst (λ (v : Float). HasValue v (leb (2 ^ 63) w) (pattern_magnitude (w % 2 ^ 63)) (2 ^ 1074)) (sym (of_bits_fields w))
    (fields_value (leb (2 ^ 63) w) (w % 2 ^ 63) (w % 2 ^ 63 / 2 ^ 52) refl (field (w % 2 ^ 63) h))
  where
    field : (b : ℕ) → b < 2047 * 2 ^ 52 → b / 2 ^ 52 < 2047
    field b h = omega arith

fields_finite : (s : Bool) (b : ℕ) → b < 2 ^ 63 → T (finite (of_fields binary64 s (b / 2 ^ 52) (b % 2 ^ 52))) → b < 2047 * 2 ^ 52
unfolding of_fields
fields_finite s b h f = lt_of_not-le (λ g. none (eqb (b % 2 ^ 52) 0) (subst (λ (x : ℕ). T (finite (of_fields binary64 s x (b % 2 ^ 52)))) (top b h g) f))
  where
    top : (b : ℕ) → b < 2 ^ 63 → 2047 * 2 ^ 52 ≤ b → b / 2 ^ 52 ≡ 2047
    top b h g = omega arith

    none : (t : Bool) → T (finite (cond t (inf s) nan)) → ⊥
    none true q = q
    none false q = q

-- ---- from a double to its pattern

-- the pattern without its sign, and for a NaN a number above every such pattern
unfoldable pub pattern_of : Float → ℕ
pattern_of nan = 2 ^ 63
pattern_of (inf s) = to_bits binary64 (inf s) % 2 ^ 63
pattern_of (fin s m e) = to_bits binary64 (fin s m e) % 2 ^ 63

module _ (s : Bool) (m : ℕ) (e : ℤ) (f : T (fits binary64 (fin s m e))) where
  abbrev word : ℕ
  word = to_bits binary64 (fin s m e)

  finite-word : word % 2 ^ 63 < 2047 * 2 ^ 52
  finite-word =
      fields_finite (leb (2 ^ 63) word) (word % 2 ^ 63) (omega arith)
      (subst (λ (v : Float). T (finite v)) (sym (of_bits-to_bits binary64 (fin s m e) f) ∙ of_bits_fields word) tt)

  word_value : HasValue (fin s m e) (leb (2 ^ 63) word) (pattern_magnitude (word % 2 ^ 63)) (2 ^ 1074)
  word_value = subst (λ (v : Float). HasValue v (leb (2 ^ 63) word) (pattern_magnitude (word % 2 ^ 63)) (2 ^ 1074)) (of_bits-to_bits binary64 (fin s m e) f) (of_bits_value word finite-word)

  pub read : (magnitude (fin s m e) ≡ pattern_magnitude (pattern_of (fin s m e))) × (pattern_of (fin s m e) < 2047 * 2 ^ 52)
  unfolding pattern_of
  read = (magnitude_of (fin s m e) (leb (2 ^ 63) word) (pattern_magnitude (word % 2 ^ 63)) word_value, finite-word)

  -- the division in `magnitude` leaves no rest
  pub value : m * up e * 2 ^ 1074 ≡ magnitude (fin s m e) * down e
  value = word_value.1 ∙ ap (λ (c : ℕ). c * down e) (sym (magnitude_of (fin s m e) (leb (2 ^ 63) word) (pattern_magnitude (word % 2 ^ 63)) word_value))

-- ---- finite doubles whose sign is clear: their patterns are those below the infinity's

abbrev pub SignClear : Float → Type 0
SignClear x = (m : ℕ) × (e : ℤ) × (x ≡ fin false m e)

pub clear_of : (x : Float) (a c : ℕ) → HasValue x false a c → SignClear x
clear_of nan a c h = absurd h
clear_of (inf t) a c h = absurd h
clear_of (fin t m e) a c h = (m, e, ap (λ (t : Bool). fin t m e) h.0)

clear-below : (m : ℕ) (e : ℤ) → T (fits binary64 (fin false m e)) → to_bits binary64 (fin false m e) < 2047 * 2 ^ 52
clear-below m e f = whole (word false m e f) (leb-false (2 ^ 63) (word false m e f) (sym (word_value false m e f).0)) (finite-word false m e f)
  where
    whole : (w : ℕ) → w < 2 ^ 63 → w % 2 ^ 63 < 2047 * 2 ^ 52 → w < 2047 * 2 ^ 52
    whole w h l = omega arith

pub to_bits_below : (x : Float) → SignClear x → T (fits binary64 x) → to_bits binary64 x < 2047 * 2 ^ 52
to_bits_below x c f = subst (λ (v : Float). to_bits binary64 v < 2047 * 2 ^ 52) (sym c.2) (clear-below c.0 c.1 (subst (λ (v : Float). T (fits binary64 v)) c.2 f))

pub of_bits_below : (b : ℕ) → b < 2047 * 2 ^ 52 → HasValue (of_bits binary64 b) false (pattern_magnitude b) (2 ^ 1074)
of_bits_below b h =
    subst (λ (t : Bool). HasValue (of_bits binary64 b) t (pattern_magnitude b) (2 ^ 1074)) (lt-leb (2 ^ 63) b (omega arith))
    (subst (λ (z : ℕ). HasValue (of_bits binary64 b) (leb (2 ^ 63) b) (pattern_magnitude z) (2 ^ 1074)) (mod-eq_of_lt (omega arith)) (of_bits_value b (omega arith)))

-- a NaN is the only double that differs from itself
pub not_nan : (x : Float) → ne x x ≡ false → T (not (is_nan x))
unfolding is_nan
not_nan nan h = absurd (true≢false (sym nan_differs ∙ h))
not_nan (inf s) h = tt
not_nan (fin s m e) h = tt
