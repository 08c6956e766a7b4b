-- A segment along rows, from b above to a: side values by naturals, and what they make of two points between its ends. Assumes nothing.
use mathlib.Core.Path.{◌≡◌, ap, ◌∙◌}
use Prim.Native.Nat.{ℕ, ◌+◌, ◌-◌, ◌*◌, ◌≤◌}
use native.Mathlib.Nat.{mul_comm}
use native.Mathlib.Omega.{arith}
use Rattle.definitions.specs.Grid.{Position}
use Rattle.definitions.specs.Spans.{diff, cross, is_zero}
use Rattle.line_crossings.proofs.Differences.{zero-diff}
use Rattle.line_crossings.proofs.Sides.{crossing, at_p, at_q, at_a, at_b, opposed, on_segment_lem, cross-by, apart, Placed, exchange}

module _ (a b p : Position) (l : b.y ≤ p.y) (r : p.y ≤ a.y) where
  abbrev R₁ : ℕ
  R₁ = a.y - b.y

  abbrev along₁ : ℕ
  along₁ = p.y - b.y

  abbrev e₁ : ℕ
  e₁ = b.x

  abbrev f₁ : ℕ
  f₁ = a.x

  abbrev c₁ : ℕ
  c₁ = p.x

  pub along-rows-up-side : cross a b p ≡ diff (R₁ * c₁ + e₁ * along₁) (R₁ * e₁ + f₁ * along₁)
  along-rows-up-side = cross-by a b p e₁ f₁ along₁ R₁ 0 R₁ c₁ f₁ (R₁ * c₁ + e₁ * along₁) (R₁ * e₁ + f₁ * along₁) (omega arith) (omega arith) (omega arith) (omega arith) (omega (arith, mul_comm R₁ e₁, mul_comm R₁ f₁))

module _ (a b p q : Position) (pl : b.y ≤ p.y) (pr : p.y ≤ a.y) (ql : b.y ≤ q.y) (qr : q.y ≤ a.y) where
  abbrev R : ℕ
  R = a.y - b.y

  abbrev u : ℕ
  u = p.y - b.y

  abbrev v : ℕ
  v = q.y - b.y

  abbrev e : ℕ
  e = b.x

  abbrev f : ℕ
  f = a.x

  abbrev c : ℕ
  c = p.x

  abbrev d : ℕ
  d = q.x

  side_first : cross p q b ≡ diff (u * e + v * c) (u * d + v * e)
  side_first = cross-by p q b d c 0 u v u e c (u * e + v * c) (u * d + v * e) (omega arith) (omega arith) (omega arith) (omega arith) (omega (arith, mul_comm u c, mul_comm u d))

  side-second : cross p q a ≡ diff ((R - u) * d + (R - v) * f) ((R - u) * f + (R - v) * c)
  side-second = cross-by p q a d c (R - u) 0 (R - u) (R - v) f c ((R - u) * d + (R - v) * f) ((R - u) * f + (R - v) * c) (omega arith) (omega arith) (omega arith) (omega arith) (omega (arith, mul_comm (R - u) c, mul_comm (R - u) d))

  pub along-rows-up : Placed a b p q R e f u v c d
  along-rows-up =
      record {
        sides = apart (R * c + e * u) (R * e + f * u) (R * d + e * v) (R * e + f * v) (along-rows-up-side a b p pl pr) (along-rows-up-side a b q ql qr);
        crossed = λ h i. crossing (opposed (R * c + e * u) (R * e + f * u) (R * d + e * v) (R * e + f * v) (along-rows-up-side a b p pl pr) (along-rows-up-side a b q ql qr) h) (opposed ((R - u) * d + (R - v) * f) ((R - u) * f + (R - v) * c) (u * e + v * c) (u * d + v * e) side-second side_first (exchange i));
        on_p = λ h i j. at_p (ap is_zero (along-rows-up-side a b p pl pr) ∙ zero-diff (R * c + e * u) (R * e + f * u) h) (on_segment_lem a b p (omega arith) (omega arith) (omega arith) (omega arith));
        on_q = λ h i j. at_q (ap is_zero (along-rows-up-side a b q ql qr) ∙ zero-diff (R * d + e * v) (R * e + f * v) h) (on_segment_lem a b q (omega arith) (omega arith) (omega arith) (omega arith));
        on_first_lem = λ h i j k.
            at_b (ap is_zero side_first ∙ zero-diff (u * e + v * c) (u * d + v * e) (omega (arith, ap (λ x. x * d) h, ap (λ x. x * e) h, ap (λ x. x * e) i, ap (λ x. x * c) i)))
            (on_segment_lem p q b (omega arith) (omega arith) (omega arith) (omega arith));
        on_second_lem = λ h i j k.
            let u' : R - u ≡ 0 = omega arith in
            let v' : R - v ≡ 0 = omega arith in
            at_a (ap is_zero side-second ∙ zero-diff ((R - u) * d + (R - v) * f) ((R - u) * f + (R - v) * c) (omega (arith, ap (λ x. x * d) u', ap (λ x. x * f) u', ap (λ x. x * f) v', ap (λ x. x * c) v')))
            (on_segment_lem p q a (omega arith) (omega arith) (omega arith) (omega arith));
      }
