-- A segment along columns, from a on the left to b: side values by naturals, and what they make of two points between its ends. Assumes nothing.
use mathlib.Core.Path.{◌≡◌, ap, ◌∙◌}
use Prim.Native.Nat.{ℕ, ◌+◌, ◌-◌, ◌*◌, ◌≤◌}
use native.Mathlib.Nat.{mul_comm}
use native.Mathlib.Omega.{arith}
use Rattle.definitions.specs.Grid.{Position}
use Rattle.definitions.specs.Spans.{diff, cross, is_zero}
use Rattle.line_crossings.proofs.Differences.{zero-diff}
use Rattle.line_crossings.proofs.Sides.{crossing, at_p, at_q, at_a, at_b, opposed, on_segment_lem, cross-by, apart, Placed}

module _ (a b p : Position) (l : a.x ≤ p.x) (r : p.x ≤ b.x) where
  abbrev R₁ : ℕ
  R₁ = b.x - a.x

  abbrev along₁ : ℕ
  along₁ = p.x - a.x

  abbrev e₁ : ℕ
  e₁ = a.y

  abbrev f₁ : ℕ
  f₁ = b.y

  abbrev c₁ : ℕ
  c₁ = p.y

  pub along-columns-side : cross a b p ≡ diff (R₁ * c₁ + e₁ * along₁) (R₁ * e₁ + f₁ * along₁)
  along-columns-side = cross-by a b p R₁ 0 c₁ e₁ f₁ e₁ along₁ 0 (R₁ * c₁ + e₁ * along₁) (R₁ * e₁ + f₁ * along₁) (omega arith) (omega arith) (omega arith) (omega arith) (omega arith)

module _ (a b p q : Position) (pl : a.x ≤ p.x) (pr : p.x ≤ b.x) (ql : a.x ≤ q.x) (qr : q.x ≤ b.x) where
  abbrev R : ℕ
  R = b.x - a.x

  abbrev u : ℕ
  u = p.x - a.x

  abbrev v : ℕ
  v = q.x - a.x

  abbrev e : ℕ
  e = a.y

  abbrev f : ℕ
  f = b.y

  abbrev c : ℕ
  c = p.y

  abbrev d : ℕ
  d = q.y

  side_first : cross p q a ≡ diff (u * d + v * e) (u * e + v * c)
  side_first = cross-by p q a v u e c d c 0 u (u * d + v * e) (u * e + v * c) (omega arith) (omega arith) (omega arith) (omega arith) (omega (arith, mul_comm u c, mul_comm u d))

  side-second : cross p q b ≡ diff ((R - u) * f + (R - v) * c) ((R - u) * d + (R - v) * f)
  side-second = cross-by p q b (R - u) (R - v) f c d c (R - u) 0 ((R - u) * f + (R - v) * c) ((R - u) * d + (R - v) * f) (omega arith) (omega arith) (omega arith) (omega arith) (omega (arith, mul_comm (R - u) c, mul_comm (R - u) d))

  pub along-columns : Placed a b p q R e f u v c d
  along-columns =
      record {
        sides = apart (R * c + e * u) (R * e + f * u) (R * d + e * v) (R * e + f * v) (along-columns-side a b p pl pr) (along-columns-side a b q ql qr);
        crossed = λ h i. crossing (opposed (R * c + e * u) (R * e + f * u) (R * d + e * v) (R * e + f * v) (along-columns-side a b p pl pr) (along-columns-side a b q ql qr) h) (opposed (u * d + v * e) (u * e + v * c) ((R - u) * f + (R - v) * c) ((R - u) * d + (R - v) * f) side_first side-second i);
        on_p = λ h i j. at_p (ap is_zero (along-columns-side a b p pl pr) ∙ zero-diff (R * c + e * u) (R * e + f * u) h) (on_segment_lem a b p (omega arith) (omega arith) i j);
        on_q = λ h i j. at_q (ap is_zero (along-columns-side a b q ql qr) ∙ zero-diff (R * d + e * v) (R * e + f * v) h) (on_segment_lem a b q (omega arith) (omega arith) i j);
        on_first_lem = λ h i j k.
            at_a (ap is_zero side_first ∙ zero-diff (u * d + v * e) (u * e + v * c) (omega (arith, ap (λ x. x * d) h, ap (λ x. x * e) h, ap (λ x. x * e) i, ap (λ x. x * c) i)))
            (on_segment_lem p q a (omega arith) (omega arith) j k);
        on_second_lem = λ h i j k.
            let u' : R - u ≡ 0 = omega arith in
            let v' : R - v ≡ 0 = omega arith in
            at_b (ap is_zero side-second ∙ zero-diff ((R - u) * f + (R - v) * c) ((R - u) * d + (R - v) * f) (omega (arith, ap (λ x. x * d) u', ap (λ x. x * f) u', ap (λ x. x * f) v', ap (λ x. x * c) v')))
            (on_segment_lem p q b (omega arith) (omega arith) j k);
      }
