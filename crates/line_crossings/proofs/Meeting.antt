-- Two segments in naturals. The first goes from (0, e) to (R, f); the second has its ends at (u, c), on or below the first one's line, and at (v, d), on or above it, with
-- u and v between 0 and R. Then they meet, in one of five ways (`meets`). The other statements are its steps. Assumes nothing.
use mathlib.Core.Path.{◌≡◌, sym, ap, ap₂, ◌∙◌}
use mathlib.Core.Logic.{⊎_elim}
use Prim.Native.Nat.{ℕ, ◌+◌, ◌-◌, ◌*◌, ◌≤◌, ◌<◌, min, max}
use native.Mathlib.Nat.{add-mul, mul-add, mul_comm, mul_left_comm, mul-le-mul_left, mul-lt-mul_of_pos_left}
use native.Mathlib.Omega.{arith}
use Rattle.laws.specs.NumberLaws.Comparisons.{le_or_lt}

-- (u, c) is not above the line from (0, e) to (R, f), nor (v, d) below it
abbrev pub Under : (R e f u c : ℕ) → Type 0
Under R e f u c = R * c + e * u ≤ R * e + f * u

abbrev pub Over : (R e f v d : ℕ) → Type 0
Over R e f v d = R * e + f * v ≤ R * d + e * v

-- ---- products over a common factor

pub scaled : (u R y b v : ℕ) → u * (R * y + b * v) ≡ R * (u * y) + b * (u * v)
scaled u R y b v = mul-add u (R * y) (b * v) ∙ ap₂ ◌+◌ (mul_left_comm u R y) (mul_left_comm u b v)

pub factor : (R a b : ℕ) → R * a + R * b ≡ R * (a + b)
factor R a b = sym (mul-add R a b)

cancel_le : (R a b : ℕ) → 0 < R → R * a ≤ R * b → a ≤ b
cancel_le R a b r h = ⊎_elim (λ i. i) (λ i. absurd (omega (arith, mul-lt-mul_of_pos_left {k = R} i r))) (le_or_lt a b)

cancel_lt : (R a b : ℕ) → R * a < R * b → a < b
cancel_lt R a b h = ⊎_elim (λ i. absurd (omega (arith, mul-le-mul_left R i))) (λ i. i) (le_or_lt b a)

-- ---- the first end (0, e) against the second segment's line

module _ (R e f u v c d : ℕ) where
  -- u times what is known of (v, d), and v times what is known of (u, c)
  sums : u * (R * e + f * v) + v * (R * c + e * u) ≡ R * (u * e + v * c) + (f * (u * v) + e * (u * v))
  sums =
      omega (arith, scaled u R e f v, scaled v R c e u, ap (λ x. e * x) (mul_comm v u), factor R (u * e) (v * c))

  sums' : u * (R * d + e * v) + v * (R * e + f * u) ≡ R * (u * d + v * e) + (f * (u * v) + e * (u * v))
  sums' =
      omega (arith, scaled u R d e v, scaled v R e f u, ap (λ x. f * x) (mul_comm v u), factor R (u * d) (v * e))

  -- the first end is below it where neither end of the second segment is on the first line, and not both are over the first end
  first_below : R * c + e * u < R * e + f * u → R * e + f * v < R * d + e * v → 0 < u + v → u * e + v * c < u * d + v * e
  first_below a b s =
      cancel_lt R (u * e + v * c) (u * d + v * e)
      (⊎_elim (λ i. omega (arith, sums, sums', mul-le-mul_left {m = R * c + e * u} {n = R * e + f * u} v (omega arith), mul-lt-mul_of_pos_left {k = u} b i))
      (λ i. omega (arith, sums, sums', mul-le-mul_left {m = R * e + f * v} {n = R * d + e * v} u (omega arith), mul-lt-mul_of_pos_left {m = R * c + e * u} {n = R * e + f * u} {k = v} a (omega arith))) (le_or_lt 1 u))

-- the same point as seen from the other end
turned : (R e f u w c : ℕ) → u + w ≡ R → R * c + e * u + (f * w + e * w) ≡ R * c + f * w + R * e
turned R e f u w c h = omega (arith, mul-add e u w, ap (λ x. e * x) h, mul_comm R e)

turned' : (R e f u w : ℕ) → u + w ≡ R → R * e + f * u + (f * w + e * w) ≡ R * f + e * w + R * e
turned' R e f u w h = omega (arith, mul-add f u w, ap (λ x. f * x) h, mul_comm R f)

-- ---- a point on the line, between its ends

on_line : (R e f u c : ℕ) → 0 < R → u ≤ R → R * c + e * u ≡ R * e + f * u → (min e f ≤ c) × (c ≤ max e f)
on_line R e f u c r h i = ⊎_elim rising falling (le_or_lt e f)
  where
    rising : e ≤ f → (min e f ≤ c) × (c ≤ max e f)
    rising o =
        let g = f - e in
        let fu : f * u ≡ e * u + g * u = ap (λ x. x * u) (omega arith) ∙ add-mul e g u in
        let Rf : R * f ≡ R * e + R * g = ap (λ x. R * x) (omega arith) ∙ mul-add R e g in
        let few : g * u ≤ R * g = omega (arith, mul-le-mul_left g h, mul_comm g R) in
        let low : e ≤ c = cancel_le R e c r (omega (arith, i, fu)) in
        let high : c ≤ f = cancel_le R c f r (omega (arith, i, fu, Rf, few)) in
        (omega (arith, low), omega (arith, high))

    falling : f < e → (min e f ≤ c) × (c ≤ max e f)
    falling o =
        let g = e - f in
        let eu : e * u ≡ f * u + g * u = ap (λ x. x * u) (omega arith) ∙ add-mul f g u in
        let Re : R * e ≡ R * f + R * g = ap (λ x. R * x) (omega arith) ∙ mul-add R f g in
        let few : g * u ≤ R * g = omega (arith, mul-le-mul_left g h, mul_comm g R) in
        let low : f ≤ c = cancel_le R f c r (omega (arith, i, eu, Re, few)) in
        let high : c ≤ e = cancel_le R c e r (omega (arith, i, eu, Re)) in
        (omega (arith, low), omega (arith, high))

-- ---- the five ways

pub data Meets (R e f u v c d : ℕ) : Type 0 where
  at_under : R * c + e * u ≡ R * e + f * u → min e f ≤ c → c ≤ max e f → Meets R e f u v c d
  at_over : R * d + e * v ≡ R * e + f * v → min e f ≤ d → d ≤ max e f → Meets R e f u v c d
  at_first : u ≡ 0 → v ≡ 0 → c < e → e < d → Meets R e f u v c d
  at_second : u ≡ R → v ≡ R → c < f → f < d → Meets R e f u v c d
  crosses :
      R * c + e * u < R * e + f * u → R * e + f * v < R * d + e * v → u * e + v * c < u * d + v * e
      → (R - u) * f + (R - v) * c < (R - u) * d + (R - v) * f → Meets R e f u v c d

module _ (R e f u v c d : ℕ) (r : 0 < R) (hu : u ≤ R) (hv : v ≤ R) where
  apart : R * c + e * u < R * e + f * u → R * e + f * v < R * d + e * v → 0 < u + v → 0 < (R - u) + (R - v) → Meets R e f u v c d
  apart a b s t =
      let one = turned R e f u (R - u) c (omega arith) in
      let two = turned' R e f u (R - u) (omega arith) in
      let three = turned R e f v (R - v) d (omega arith) in
      let four = turned' R e f v (R - v) (omega arith) in
      crosses a b (first_below R e f u v c d a b s) (first_below R f e (R - u) (R - v) c d (omega (arith, a, one, two)) (omega (arith, b, three, four)) t)

  strict : R * c + e * u < R * e + f * u → R * e + f * v < R * d + e * v → Meets R e f u v c d
  strict a b = ⊎_elim (λ s. ⊎_elim (λ t. apart a b s t) (λ t. second (omega (arith, t)) (omega (arith, t))) (le_or_lt 1 ((R - u) + (R - v)))) (λ s. first (omega (arith, s)) (omega (arith, s))) (le_or_lt 1 (u + v))
    where
      first : u ≡ 0 → v ≡ 0 → Meets R e f u v c d
      first i j =
          at_first i j (cancel_lt R c e (omega (arith, a, ap (λ x. e * x) i, ap (λ x. f * x) i))) (cancel_lt R e d (omega (arith, b, ap (λ x. e * x) j, ap (λ x. f * x) j)))

      second : u ≡ R → v ≡ R → Meets R e f u v c d
      second i j =
          at_second i j (cancel_lt R c f (omega (arith, a, ap (λ x. e * x) i, ap (λ x. f * x) i, mul_comm R e, mul_comm R f)))
          (cancel_lt R f d (omega (arith, b, ap (λ x. e * x) j, ap (λ x. f * x) j, mul_comm R e, mul_comm R f)))

  pub meets : Under R e f u c → Over R e f v d → Meets R e f u v c d
  meets a b = ⊎_elim (λ h. let i : R * c + e * u ≡ R * e + f * u = omega arith in let o = on_line R e f u c r hu i in at_under i o.0 o.1) over (le_or_lt (R * e + f * u) (R * c + e * u))
    where
      over : R * c + e * u < R * e + f * u → Meets R e f u v c d
      over s = ⊎_elim (λ h. let i : R * d + e * v ≡ R * e + f * v = omega arith in let o = on_line R e f v d r hv i in at_over i o.0 o.1) (λ t. strict s t) (le_or_lt (R * d + e * v) (R * e + f * v))
