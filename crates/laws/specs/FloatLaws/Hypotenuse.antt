-- `hypot_of` is what SPECIFICATION 6 asks for: for two doubles in range the double nearest to the root of the sum of squares, ties to the even significand; +0 for zeros;
-- never a NaN, never with its sign set, always a double. In range the magnitudes are at most 2 ^ 1089 smallest doubles, far below the infinities. Assumes nothing.
use Rattle.std.specs.Prelude.{◌≡◌, refl, ◌⊎◌, ℕ, ◌*◌, ◌^◌, ◌≤◌, ◌<◌, Bool, true, false, cond, ◌&&◌, ◌||◌, pos, T, leb, ltb, eqb, Float}
use Rattle.std.proofs.Common.{sym, ap, subst, inl, inr, zero-le, le_trans, le_of_eq, add-le-add, true≢false, leb→le, eqb→eq, lit<}
use Rattle.std.proofs.Math.Nat.{lt_of_le_of_lt}
use Rattle.std.specs.Float.{nan, inf, fin, binary64}
use Rattle.std.specs.Float.Ieee.{nearest, odd, units, fits, to_bits}
use Rattle.std.specs.Float.Ieee.Fits.{nearest-le, kept-lt}
use Rattle.std.specs.Float.Ieee.Exact.{odd_sign, units_val}
use Rattle.definitions.specs.Hypotenuse.{root_of, magnitude, sum_of_squares, hypot_of, in_range, hypot_value}
use Rattle.definitions.specs.Nearest.{Nearest}
use Rattle.laws.specs.NumberLaws.Squares.{square_le}
use Rattle.laws.specs.FloatLaws.LeadingDigits.{dropped, kept}
use Rattle.laws.specs.FloatLaws.WholeRoot.{root_for, against_middle, root_of_at}
use Rattle.laws.specs.FloatLaws.Patterns.{SignClear, clear_of, no_overflow, units-fits}
use Rattle.laws.specs.FloatLaws.NearestRoot.{few-dropped, root_of-nearest}

-- ---- the root of any s

units-sign : (q k : ℕ) → (units binary64 false q k ≡ inf false) ⊎ SignClear (units binary64 false q k)
unfolding units
units-sign q k = go (ltb (q * 2 ^ k) (2 ^ 2098))
  where
    go : (b : Bool) → (cond b (odd 54 false q k 1074) (inf false) ≡ inf false) ⊎ SignClear (cond b (odd 54 false q k 1074) (inf false))
    go true = inr (clear_of (odd 54 false q k 1074) (q * 2 ^ k) (2 ^ 1074) (odd_sign 54 false q k 1074))
    go false = inl refl

units-clear : (q k : ℕ) → q ≤ 2 ^ 53 → k < 2045 → SignClear (units binary64 false q k)
units-clear q k h l = clear_of (units binary64 false q k) (q * 2 ^ k) (2 ^ 1074) (units_val binary64 false q k (no_overflow q k h l))

module _ (s : ℕ) where
  -- `root_of` gives a double of at most 53 digits, or the next power of two
  made_of : (P : Float → Type 0) → ((q : ℕ) → q ≤ 2 ^ 53 → P (units binary64 false q (dropped (root_for s)))) → P (root_of s)
  made_of P f =
      let n = root_for s in
      let o = against_middle s (kept n) (dropped n) in
      subst P (sym (root_of_at s)) (f (nearest (kept n) o) (le_trans (nearest-le (kept n) o) (kept-lt 53 n)))

  root_of-fits : T (fits binary64 (root_of s))
  root_of-fits = made_of (λ x. T (fits binary64 x)) (λ q h. units-fits q (dropped (root_for s)) h)

  root_of-sign : (root_of s ≡ inf false) ⊎ SignClear (root_of s)
  root_of-sign = made_of (λ x. (x ≡ inf false) ⊎ SignClear x) (λ q h. units-sign q (dropped (root_for s)))

  root_of-clear : s < 2 ^ 2097 * 2 ^ 2097 → SignClear (root_of s)
  root_of-clear l = made_of SignClear (λ q h. units-clear q (dropped (root_for s)) h (few-dropped s l))

-- ---- the hypotenuse of any two doubles

pub hypot_of-fits : (x y : Float) → T (fits binary64 (hypot_of x y))
unfolding hypot_of
hypot_of-fits x y = root_of-fits (sum_of_squares x y)

pub hypot_of-sign : (x y : Float) → (hypot_of x y ≡ inf false) ⊎ SignClear (hypot_of x y)
unfolding hypot_of
hypot_of-sign x y = root_of-sign (sum_of_squares x y)

pub hypot_of-zero : (x y : Float) → sum_of_squares x y ≡ 0 → hypot_of x y ≡ fin false 0 (pos 0)
unfolding hypot_of
hypot_of-zero x y h = ap root_of h

-- ---- in range

in_range-le : (x : Float) → in_range x ≡ true → magnitude x ≤ 2 ^ 1089
unfolding in_range
in_range-le nan h = absurd (true≢false (sym h))
in_range-le (inf s) h = absurd (true≢false (sym h))
in_range-le (fin s m e) h = go (magnitude (fin s m e)) h
  where
    go : (c : ℕ) → (eqb c 0 || (leb (2 ^ 1010) c && leb c (2 ^ 1089))) ≡ true → c ≤ 2 ^ 1089
    go c = at (eqb c 0) (leb (2 ^ 1010) c) (leb c (2 ^ 1089)) (λ t. le_trans (le_of_eq (eqb→eq c 0 t)) zero-le) (leb→le c (2 ^ 1089))
      where
        at : (p q r : Bool) → (T p → c ≤ 2 ^ 1089) → (T r → c ≤ 2 ^ 1089) → (p || (q && r)) ≡ true → c ≤ 2 ^ 1089
        at true q r f g h = f tt
        at false true true f g h = g tt
        at false true false f g h = absurd (true≢false (sym h))
        at false false r f g h = absurd (true≢false (sym h))

module _ (x y : Float) (hx : in_range x ≡ true) (hy : in_range y ≡ true) where
  sum_lt : sum_of_squares x y < 2 ^ 2097 * 2 ^ 2097
  unfolding sum_of_squares
  sum_lt = lt_of_le_of_lt (add-le-add (square_le (magnitude x) (2 ^ 1089) (in_range-le x hx)) (square_le (magnitude y) (2 ^ 1089) (in_range-le y hy))) (lit< tt)

  pub hypot_of-nearest : Nearest (sum_of_squares x y) (to_bits binary64 (hypot_of x y))
  unfolding hypot_of
  hypot_of-nearest = root_of-nearest (sum_of_squares x y) sum_lt

  pub hypot_of-clear : SignClear (hypot_of x y)
  unfolding hypot_of
  hypot_of-clear = root_of-clear (sum_of_squares x y) sum_lt

-- ---- what the operation answers, in range or not

pub hypot_value-clear : (x y : Float) → SignClear (hypot_value x y)
unfolding hypot_value
hypot_value-clear x y = go (in_range x) (in_range y) refl refl
  where
    go : (p q : Bool) → in_range x ≡ p → in_range y ≡ q → SignClear (cond (p && q) (hypot_of x y) (fin false 0 (pos 0)))
    go true true hx hy = hypot_of-clear x y hx hy
    go true false hx hy = (0, pos 0, refl)
    go false q hx hy = (0, pos 0, refl)
