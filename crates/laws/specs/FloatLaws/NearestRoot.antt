-- `Nearest s b` determines b: of two such patterns the middle above the lower is not above the middle below the higher one, so the two middles are equal, the patterns are neighbours,
-- and s is at their tie, where both would be even. `root_of s` meets it, for every s whose root is below the infinities: its 53 leading digits q stand in the pattern of a double,
-- q + 1 in the next one's, and the one comparison of `root_of` is that with the middle of these two. Assumes nothing.
use Rattle.std.specs.Prelude.{◌≡◌, refl, ◌⊎◌, Float}
use Rattle.std.proofs.Common.{sym, ap, ◌∙◌, subst, inl, inr, le_trans, le_of_eq, le_of_lt, lt_of_lt_of_le, lt_of_le_of_lt, lt_of_not-le, le_antisymm, le_of_suc-le-suc, eq-or-lt_of_le, eq-zero-or-pos, add-le-add, add-mul, add_assoc, mul-le-mul_left, add-one, arith, lit<, lit≤, leb-true, leb-false, eqb-true}
use Prim.Native.Nat.{ℕ, ◌+◌, ◌-◌, ◌*◌, ◌%◌, ◌^◌, ◌≤◌, ◌<◌, Ordering}
use Rattle.std.proofs.Math.Nat.{mul-lt-mul_of_pos_left}
use Rattle.std.proofs.Math.Dec.{is_le, compare_is_eq}
use Rattle.std.specs.Float.Ieee.{size, nearest, to_bits}
use Rattle.std.specs.Float.{binary64}
use Rattle.std.specs.Float.Ieee.Digits.{size-le}
use Rattle.std.specs.Float.Ieee.Fits.{nearest-le, kept-lt}
use Rattle.std.specs.Float.Ieee.Nearest.{nearest-ge}
use Rattle.std.proofs.lemmas.Bool.{eqb-false}
use Rattle.definitions.specs.Hypotenuse.{root_of}
use Rattle.definitions.specs.Nearest.{pattern_magnitude, Nearest}
use Rattle.laws.specs.NumberLaws.Squares.{square_le, square_lt, lt_of_squares, le_of_squares, square-twice}
use Rattle.laws.specs.FloatLaws.LeadingDigits.{dropped, kept, Leading, kept_leading, kept_some, kept-le, kept_next}
use Rattle.laws.specs.FloatLaws.WholeRoot.{IsWholeRoot, root_for, root_for_is, against_middle, root_at, root_of_at}
use Rattle.laws.specs.FloatLaws.Patterns.{to_bits_units, magnitude_at}
use Rattle.laws.specs.FloatLaws.PatternOrder.{magnitude_lt, magnitude-le}

-- ---- it determines b

module _ (s a b : ℕ) (p : Nearest s a) (q : Nearest s b) (h : a < b) where
  middles : pattern_magnitude (b - 1) + pattern_magnitude b ≡ pattern_magnitude a + pattern_magnitude (a + 1)
  middles =
      le_antisymm
      (le_of_squares (pattern_magnitude (b - 1) + pattern_magnitude b) (pattern_magnitude a + pattern_magnitude (a + 1)) (le_trans q.above_middle p.below_middle))
      (add-le-add (magnitude-le a (b - 1) (omega arith)) (magnitude-le (a + 1) b (omega arith)))

  tie : 4 * s ≡ (pattern_magnitude a + pattern_magnitude (a + 1)) * (pattern_magnitude a + pattern_magnitude (a + 1))
  tie = le_antisymm p.below_middle (subst (λ (z : ℕ). z * z ≤ 4 * s) middles q.above_middle)

  not-below : ⊥
  not-below = go (eq-or-lt_of_le (e a b h))
    where
      e : (a b : ℕ) → a < b → a + 1 ≤ b
      e a b h = omega arith

      both-even : (a b : ℕ) → a + 1 ≡ b → a % 2 ≡ 0 → b % 2 ≡ 0 → ⊥
      both-even a b z x y = omega arith

      unequal : (x y x' y' : ℕ) → x' + y' ≡ x + y → x ≤ x' → y < y' → ⊥
      unequal x y x' y' z k l = omega arith

      before : (a b : ℕ) → a + 1 < b → a ≤ b - 1
      before a b l = omega arith

      go : (a + 1 ≡ b) ⊎ (a + 1 < b) → ⊥
      go (inl z) = both-even a b z (p.high_tie tie) (q.low_tie (ap (λ (z : ℕ). z * z) middles ∙ sym tie))
      go (inr l) = unequal (pattern_magnitude a) (pattern_magnitude (a + 1)) (pattern_magnitude (b - 1)) (pattern_magnitude b) middles (magnitude-le a (b - 1) (before a b l)) (magnitude_lt (a + 1) b l)

pub nearest_unique : (s a b : ℕ) → Nearest s a → Nearest s b → a ≡ b
nearest_unique s a b p q = le_antisymm (le_of_not a b (not-below s b a q p)) (le_of_not b a (not-below s a b p q))
  where
    le_of_not : (a b : ℕ) → (b < a → ⊥) → a ≤ b
    le_of_not a b n = le_of_suc-le-suc (lt_of_not-le n)

-- ---- `root_of` meets it

-- `Nearest s b`, from the magnitudes x, y, z of b and its neighbours
module _ (s b : ℕ) {x y z : ℕ} (below : pattern_magnitude (b - 1) ≡ x) (at : pattern_magnitude b ≡ y) (above : pattern_magnitude (b + 1) ≡ z) where
  near : (x + y) * (x + y) ≤ 4 * s → 4 * s ≤ (y + z) * (y + z) → ((x + y) * (x + y) ≡ 4 * s → b % 2 ≡ 0) → (4 * s ≡ (y + z) * (y + z) → b % 2 ≡ 0) → Nearest s b
  near l h t u =
      let xy : pattern_magnitude (b - 1) + pattern_magnitude b ≡ x + y = λ i. below i + at i in
      let yz : pattern_magnitude b + pattern_magnitude (b + 1) ≡ y + z = λ i. at i + above i in
      record {
        above_middle = subst (λ (v : ℕ). v * v ≤ 4 * s) (sym xy) l;
        below_middle = subst (λ (v : ℕ). 4 * s ≤ v * v) (sym yz) h;
        low_tie = λ e. t (ap (λ (v : ℕ). v * v) (sym xy) ∙ e);
        high_tie = λ e. u (e ∙ ap (λ (v : ℕ). v * v) yz);
      }

module _ (s q k : ℕ) (lead : Leading q k) (some : 0 < q) (hi : q < 2 ^ 53) (a : q * 2 ^ k * (q * 2 ^ k) ≤ s) (b : s < (q + 1) * 2 ^ k * ((q + 1) * 2 ^ k)) where
  -- the pattern of the digits q, that of q + 1, and the middle of the two
  abbrev low : ℕ
  low = k * 2 ^ 52 + q

  abbrev high : ℕ
  high = k * 2 ^ 52 + (q + 1)

  abbrev mid : ℕ
  mid = (2 * q + 1) * 2 ^ k

  mid_is : mid ≡ q * 2 ^ k + (q + 1) * 2 ^ k
  mid_is = ap (λ (z : ℕ). z * 2 ^ k) (e q) ∙ add-mul q (q + 1) (2 ^ k)
    where
      e : (q : ℕ) → 2 * q + 1 ≡ q + (q + 1)
      e q = omega arith

  low_at : pattern_magnitude low ≡ q * 2 ^ k
  low_at = magnitude_at q k lead (le_of_lt hi)

  high_at : pattern_magnitude high ≡ (q + 1) * 2 ^ k
  high_at = magnitude_at (q + 1) k (more lead) (omega arith)
    where
      more : Leading q k → Leading (q + 1) k
      more (inl l) = inl (omega arith)
      more (inr e) = inr e

  -- s is above the middle below q, and below the middle above q + 1
  far-below : (pattern_magnitude (low - 1) + q * 2 ^ k) * (pattern_magnitude (low - 1) + q * 2 ^ k) < 4 * s
  far-below =
      let l : pattern_magnitude (low - 1) < q * 2 ^ k = subst (λ (z : ℕ). pattern_magnitude (low - 1) < z) low_at (magnitude_lt (low - 1) low (omega arith)) in
      lt_of_lt_of_le (square_lt (pattern_magnitude (low - 1) + q * 2 ^ k) (2 * (q * 2 ^ k)) (omega arith)) (le_trans (le_of_eq (square-twice (q * 2 ^ k))) (mul-le-mul_left 4 a))

  far-above : 4 * s < ((q + 1) * 2 ^ k + pattern_magnitude (high + 1)) * ((q + 1) * 2 ^ k + pattern_magnitude (high + 1))
  far-above =
      let l : (q + 1) * 2 ^ k < pattern_magnitude (high + 1) = subst (λ (z : ℕ). z < pattern_magnitude (high + 1)) high_at (magnitude_lt high (high + 1) (omega arith)) in
      lt_of_lt_of_le (mul-lt-mul_of_pos_left b (lit< tt)) (le_trans (le_of_eq (sym (square-twice ((q + 1) * 2 ^ k)))) (square_le (2 * ((q + 1) * 2 ^ k)) ((q + 1) * 2 ^ k + pattern_magnitude (high + 1)) (omega arith)))

  not_equal : {m n : ℕ} → m < n → m ≡ n → ⊥
  not_equal h e = omega arith

  -- not above the middle, and at it only where q is even: it is q
  stays : 4 * s ≤ mid * mid → (4 * s ≡ mid * mid → q % 2 ≡ 0) → Nearest s low
  stays h t =
      near s low refl low_at (ap pattern_magnitude (add_assoc (k * 2 ^ 52) q 1) ∙ high_at)
      (le_of_lt far-below) (subst (λ (z : ℕ). 4 * s ≤ z * z) mid_is h)
      (λ e. absurd (not_equal far-below e)) (λ e. even (t (e ∙ ap (λ (z : ℕ). z * z) (sym mid_is))))
    where
      even : q % 2 ≡ 0 → (k * 2 ^ 52 + q) % 2 ≡ 0
      even z = omega arith

  -- not below the middle, and at it only where q is odd: it is q + 1
  rises : mid * mid ≤ 4 * s → (mid * mid ≡ 4 * s → q % 2 ≡ 1) → Nearest s high
  rises h t =
      near s high (ap pattern_magnitude (back (k * 2 ^ 52) q) ∙ low_at) high_at refl
      (subst (λ (z : ℕ). z * z ≤ 4 * s) mid_is h) (le_of_lt far-above)
      (λ e. even (t (ap (λ (z : ℕ). z * z) mid_is ∙ e))) (λ e. absurd (not_equal far-above e))
    where
      even : q % 2 ≡ 1 → (k * 2 ^ 52 + (q + 1)) % 2 ≡ 0
      even z = omega arith

      back : (c q : ℕ) → c + (q + 1) - 1 ≡ c + q
      back c q = omega arith

  rounds : (o : Ordering) → against_middle s q k ≡ o → Nearest s (k * 2 ^ 52 + nearest q o)
  rounds Ordering.lt e = stays (leb-true (4 * s) (mid * mid) (ap is_le e)) (λ z. absurd (eqb-false (4 * s) (mid * mid) (ap compare_is_eq e) z))
  rounds Ordering.gt e = subst (λ (z : ℕ). Nearest s (k * 2 ^ 52 + z)) (add-one q) (rises (le_of_lt l) (λ z. absurd (not_equal l z)))
    where
      l : mid * mid < 4 * s
      l = leb-false (4 * s) (mid * mid) (ap is_le e)
  rounds Ordering.eq e = go (eq-zero-or-pos (q % 2))
    where
      level : 4 * s ≡ mid * mid
      level = eqb-true (4 * s) (mid * mid) (ap compare_is_eq e)

      even : (q : ℕ) → q % 2 ≡ 0 → q ≡ q + q % 2
      even q z = omega arith

      odd : (q : ℕ) → 0 < q % 2 → (q % 2 ≡ 1) × (q + 1 ≡ q + q % 2)
      odd q z = (omega arith, omega arith)

      go : (q % 2 ≡ 0) ⊎ (0 < q % 2) → Nearest s (k * 2 ^ 52 + (q + q % 2))
      go (inl z) = subst (λ (x : ℕ). Nearest s (k * 2 ^ 52 + x)) (even q z) (stays (le_of_eq level) (λ _. z))
      go (inr z) = subst (λ (x : ℕ). Nearest s (k * 2 ^ 52 + x)) (odd q z).1 (rises (le_of_eq (sym level)) (λ _. (odd q z).0))

  within : (o : Ordering) → Leading (nearest q o) k × (nearest q o ≤ 2 ^ 53)
  within o = (go lead, le_trans (nearest-le q o) hi)
    where
      go : Leading q k → Leading (nearest q o) k
      go (inl l) = inl (le_trans l (nearest-ge q o))
      go (inr e) = inr e

  meets : k < 2045 → Nearest s (to_bits binary64 (root_at s q k))
  meets far =
      let o = against_middle s q k in
      subst (λ (z : ℕ). Nearest s z) (sym (to_bits_units (nearest q o) k (within o).0 (within o).1 far)) (rounds o refl)

-- zero is the nearest to its root
at_zero : Nearest 0 (to_bits binary64 (root_of 0))
unfolding root_of to_bits pattern_magnitude
at_zero = record { above_middle = lit≤ tt; below_middle = lit≤ tt; low_tie = λ _. refl; high_tie = λ _. refl }

-- an infinity stands for 2 ^ 2098, so a root below half of that has no more than 2097 digits and is not rounded to one
pub few-dropped : (s : ℕ) → s < 2 ^ 2097 * 2 ^ 2097 → dropped (root_for s) < 2045
few-dropped s h = let few : size (root_for s) ≤ 2097 = size-le (root_for s) 2097 (lt_of_squares (root_for s) (2 ^ 2097) (lt_of_le_of_lt (root_for_is s).0 h)) in omega arith

pub root_of-nearest : (s : ℕ) → s < 2 ^ 2097 * 2 ^ 2097 → Nearest s (to_bits binary64 (root_of s))
root_of-nearest s h = elim (eq-zero-or-pos s) [
  | inl z ↦ subst (λ (s : ℕ). Nearest s (to_bits binary64 (root_of s))) (sym z) at_zero
  | inr p ↦
      let n = root_for s in
      let r : IsWholeRoot s n = root_for_is s in
      let l : 1 < n + 1 = lt_of_squares 1 (n + 1) (lt_of_le_of_lt p r.1) in
      subst (λ (x : Float). Nearest s (to_bits binary64 x)) (sym (root_of_at s))
      (meets s (kept n) (dropped n) (kept_leading n) (kept_some n (omega arith)) (kept-lt 53 n)
      (le_trans (square_le (kept n * 2 ^ dropped n) n (kept-le n)) r.0)
      (lt_of_lt_of_le r.1 (square_le (n + 1) ((kept n + 1) * 2 ^ dropped n) (le_trans (le_of_eq (add-one n)) (kept_next n))))
      (few-dropped s h))
]
