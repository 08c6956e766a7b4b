-- A segment along rows, from a above to b: side values by naturals, and what they make of two points between its ends. Assumes nothing.
use mathlib.Core.Path.{◌≡◌, ap, ◌∙◌, sym}
use mathlib.Core.Logic.{inl, inr, ⊎_elim}
use Prim.Native.Nat.{ℕ, ◌+◌, ◌-◌, ◌*◌, ◌≤◌}
use native.Mathlib.Nat.{mul_comm}
use native.Mathlib.Omega.{arith}
use Rattle.definitions.specs.Grid.{Position}
use Rattle.definitions.specs.Spans.{diff, cross, is_zero}
use Rattle.line_crossings.proofs.Differences.{zero-diff}
use Rattle.line_crossings.proofs.Sides.{crossing, at_p, at_q, at_a, at_b, opposed, on_segment_lem, cross-by, apart, Placed, turn}

module _ (a b p : Position) (l : a.y ≤ p.y) (r : p.y ≤ b.y) where
  abbrev R₁ : ℕ
  R₁ = b.y - a.y

  abbrev along₁ : ℕ
  along₁ = p.y - a.y

  abbrev e₁ : ℕ
  e₁ = a.x

  abbrev f₁ : ℕ
  f₁ = b.x

  abbrev c₁ : ℕ
  c₁ = p.x

  pub along-rows-down-side : cross a b p ≡ diff (R₁ * e₁ + f₁ * along₁) (R₁ * c₁ + e₁ * along₁)
  along-rows-down-side = cross-by a b p f₁ e₁ along₁ 0 R₁ 0 c₁ e₁ (R₁ * e₁ + f₁ * along₁) (R₁ * c₁ + e₁ * along₁) (omega arith) (omega arith) (omega arith) (omega arith) (omega arith)

module _ (a b p q : Position) (pl : a.y ≤ p.y) (pr : p.y ≤ b.y) (ql : a.y ≤ q.y) (qr : q.y ≤ b.y) where
  abbrev R : ℕ
  R = b.y - a.y

  abbrev u : ℕ
  u = p.y - a.y

  abbrev v : ℕ
  v = q.y - a.y

  abbrev e : ℕ
  e = a.x

  abbrev f : ℕ
  f = b.x

  abbrev c : ℕ
  c = p.x

  abbrev d : ℕ
  d = q.x

  side_first : cross p q a ≡ diff (u * e + v * c) (u * d + v * e)
  side_first = cross-by p q a d c 0 u v u e c (u * e + v * c) (u * d + v * e) (omega arith) (omega arith) (omega arith) (omega arith) (omega (arith, mul_comm u c, mul_comm u d))

  side-second : cross p q b ≡ diff ((R - u) * d + (R - v) * f) ((R - u) * f + (R - v) * c)
  side-second = cross-by p q b d c (R - u) 0 (R - u) (R - v) f c ((R - u) * d + (R - v) * f) ((R - u) * f + (R - v) * c) (omega arith) (omega arith) (omega arith) (omega arith) (omega (arith, mul_comm (R - u) c, mul_comm (R - u) d))

  pub along-rows-down : Placed a b p q R e f u v c d
  along-rows-down =
      record {
        sides = λ n. ⊎_elim inr inl (apart (R * e + f * u) (R * c + e * u) (R * e + f * v) (R * d + e * v) (along-rows-down-side a b p pl pr) (along-rows-down-side a b q ql qr) n);
        crossed = λ h i. crossing (opposed (R * e + f * u) (R * c + e * u) (R * e + f * v) (R * d + e * v) (along-rows-down-side a b p pl pr) (along-rows-down-side a b q ql qr) (turn h)) (opposed (u * e + v * c) (u * d + v * e) ((R - u) * d + (R - v) * f) ((R - u) * f + (R - v) * c) side_first side-second (turn i));
        on_p = λ h i j. at_p (ap is_zero (along-rows-down-side a b p pl pr) ∙ zero-diff (R * e + f * u) (R * c + e * u) (sym h)) (on_segment_lem a b p (omega arith) (omega arith) (omega arith) (omega arith));
        on_q = λ h i j. at_q (ap is_zero (along-rows-down-side a b q ql qr) ∙ zero-diff (R * e + f * v) (R * d + e * v) (sym h)) (on_segment_lem a b q (omega arith) (omega arith) (omega arith) (omega arith));
        on_first_lem = λ h i j k.
            at_a (ap is_zero side_first ∙ zero-diff (u * e + v * c) (u * d + v * e) (omega (arith, ap (λ x. x * d) h, ap (λ x. x * e) h, ap (λ x. x * e) i, ap (λ x. x * c) i)))
            (on_segment_lem p q a (omega arith) (omega arith) (omega arith) (omega arith));
        on_second_lem = λ h i j k.
            let u' : R - u ≡ 0 = omega arith in
            let v' : R - v ≡ 0 = omega arith in
            at_b (ap is_zero side-second ∙ zero-diff ((R - u) * d + (R - v) * f) ((R - u) * f + (R - v) * c) (omega (arith, ap (λ x. x * d) u', ap (λ x. x * f) u', ap (λ x. x * f) v', ap (λ x. x * c) v')))
            (on_segment_lem p q b (omega arith) (omega arith) (omega arith) (omega arith));
      }
