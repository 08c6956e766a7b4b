-- The rates at which two points slide (Sliding). With d1 and d2 along the two segments and g the way from the second point to the first, the rates are g x d2
-- and g x d1 and the way shrinks by d1 x d2, up to one sign; where the segments are parallel it does not shrink, and the rates are coordinates of d2 and d1. So
-- of any two points of two segments there are two that are no farther apart, one of them an end, unless the segments share a point (`reach`). Assumes nothing.
use Rattle.std.specs.Prelude.{◌≡◌, ◌⊎◌, ℕ, ◌+◌, ◌-◌, ◌*◌, ◌<◌}
use Rattle.std.proofs.Common.{sym, ap, ◌∙◌, subst, inl, inr, mul-pos, mul_comm, add_comm, arith}
use Rattle.std.proofs.Math.Decide.{ℕ_discrete}
use Rattle.definitions.specs.Grid.{Segment}
use Rattle.definitions.specs.Spans.{distance_between}
use Rattle.laws.specs.OrderLaws.ListOrder.{Three, less, same, over, three}
use Rattle.separations.specs.Distance.{Weights, total, squares, whole, apart, SharePoint}
use Rattle.separations.specs.PlaneLaws.Sliding.{PointNear, Reached, meets, first_start, first_end, second_start, second_end, apart_at}
use Rattle.separations.specs.PlaneLaws.Signed.{turned, reached-second, SlidesBy, At, any_way}

-- ---- the rates

-- d1 x d2, as a difference
abbrev pub across_more : Segment → Segment → ℕ
across_more s t = s.b.x * t.b.y + s.a.x * t.a.y + (s.b.y * t.a.x + s.a.y * t.b.x)

abbrev pub across_less : Segment → Segment → ℕ
across_less s t = s.b.x * t.a.y + s.a.x * t.b.y + (s.b.y * t.b.x + s.a.y * t.a.x)

-- With G / K for the first / second point's x, G' / K' for their y: the rates' identity in x. It holds factor by factor: of G', of K', and of G and K with
-- kappa.
out : (p q r w a b c d z : ℕ) → (p * a + q * b + (r * c + w * d)) * z ≡ p * (a * z) + q * (b * z) + (r * (c * z) + w * (d * z))
out p q r w a b c d z = omega arith

of_first : (A B C D z : ℕ) → z * (D * B) + z * (C * A) + (z * (B * C) + z * (A * D)) ≡ z * (D * A) + z * (C * B) + (z * (B * D) + z * (A * C))
of_first A B C D z = omega arith

of_second : (A B C D z : ℕ) → z * (C * B) + z * (D * A) + (z * (A * C) + z * (B * D)) ≡ z * (C * A) + z * (D * B) + (z * (A * D) + z * (B * C))
of_second A B C D z = omega arith

module _ (A B C D A' B' C' D' G K G' K' kappa : ℕ) (h : kappa + (B * C' + A * D' + (B' * D + A' * C)) ≡ B * D' + A * C' + (B' * C + A' * D)) where
  identity_x : SlidesBy A B C D G K (G' * D + K' * C + (G * C' + K * D')) (G' * C + K' * D + (G * D' + K * C')) (G' * B + K' * A + (G * A' + K * B')) (G' * A + K' * B + (G * B' + K * A')) kappa
  identity_x =
      (λ i. out G' K' G K D C C' D' B i + out G' K' G K C D D' C' A i + (out G' K' G K B A A' B' C i + out G' K' G K A B B' A' D i) + kappa * G)
      ∙ omega (arith, of_first A B C D G', of_second A B C D K', with_kappa G, with_kappa K)
      ∙ sym (λ i. out G' K' G K D C C' D' A i + out G' K' G K C D D' C' B i + (out G' K' G K B A A' B' D i + out G' K' G K A B B' A' C i) + kappa * K)
    where
      with_kappa : (z : ℕ) → z * (C' * B) + z * (D' * A) + (z * (A' * C) + z * (B' * D)) + kappa * z ≡ z * (C' * A) + z * (D' * B) + (z * (A' * D) + z * (B' * C))
      with_kappa z = omega (arith, ap (λ (x : ℕ). x * z) h)

  identity_y : SlidesBy A' B' C' D' G' K' (G' * D + K' * C + (G * C' + K * D')) (G' * C + K' * D + (G * D' + K * C')) (G' * B + K' * A + (G * A' + K * B')) (G' * A + K' * B + (G * B' + K * A')) kappa
  identity_y =
      (λ i. out G' K' G K D C C' D' B' i + out G' K' G K C D D' C' A' i + (out G' K' G K B A A' B' C' i + out G' K' G K A B B' A' D' i) + kappa * G')
      ∙ omega (arith, of_second A' B' C' D' G, of_first A' B' C' D' K, with_kappa G', with_kappa' K')
      ∙ sym (λ i. out G' K' G K D C C' D' A' i + out G' K' G K C D D' C' B' i + (out G' K' G K B A A' B' D' i + out G' K' G K A B B' A' C' i) + kappa * K')
    where
      with_kappa : (z : ℕ) → z * (D * B') + z * (C * A') + (z * (B * C') + z * (A * D')) + kappa * z ≡ z * (D * A') + z * (C * B') + (z * (B * D') + z * (A * C'))
      with_kappa z = omega (arith, ap (λ (x : ℕ). x * z) h)

      with_kappa' : (z : ℕ) → z * (C * A') + z * (D * B') + (z * (A * D') + z * (B * C')) + kappa * z ≡ z * (C * B') + z * (D * A') + (z * (A * C') + z * (B * D'))
      with_kappa' z = omega (arith, ap (λ (x : ℕ). x * z) h)

module _ (s t : Segment) (m n k l W : ℕ) (w : At m n k l W) where
  abbrev G : ℕ
  G = m * s.a.x + n * s.b.x

  abbrev G' : ℕ
  G' = m * s.a.y + n * s.b.y

  abbrev K : ℕ
  K = k * t.a.x + l * t.b.x

  abbrev K' : ℕ
  K' = k * t.a.y + l * t.b.y

  -- the lines cross: d1 x d2 is above zero, below zero
  crossing : (kappa : ℕ) → kappa + across_less s t ≡ across_more s t → 0 < kappa → Reached s t (apart_at s t m n k l) W kappa
  crossing kappa h z =
      any_way s t m n k l
      (G' * t.b.x + K' * t.a.x + (G * t.a.y + K * t.b.y)) (G' * t.a.x + K' * t.b.x + (G * t.b.y + K * t.a.y))
      (G' * s.b.x + K' * s.a.x + (G * s.a.y + K * s.b.y)) (G' * s.a.x + K' * s.b.x + (G * s.b.y + K * s.a.y))
      (record {
        in_x = identity_x s.a.x s.b.x t.a.x t.b.x s.a.y s.b.y t.a.y t.b.y G K G' K' kappa h;
        in_y = identity_y s.a.x s.b.x t.a.x t.b.x s.a.y s.b.y t.a.y t.b.y G K G' K' kappa h;
      })
      w (λ a b. z)

module _ (s t : Segment) (m n k l W : ℕ) (w : At m n k l W) where
  -- below zero: the second segment turned round
  crossing_back : (kappa : ℕ) → kappa + across_more s t ≡ across_less s t → 0 < kappa → Reached s t (apart_at s t m n k l) W kappa
  crossing_back kappa h z =
      reached-second
      (subst (λ (d : ℕ). Reached s (turned t) d W kappa)
      (λ i.
      squares (distance_between (m * s.a.x + n * s.b.x) (add_comm (l * t.b.x) (k * t.a.x) i))
      (distance_between (m * s.a.y + n * s.b.y) (add_comm (l * t.b.y) (k * t.a.y) i)))
      (crossing s (turned t) m n l k W (record { mn = w.mn; kl = add_comm l k ∙ w.kl; some = w.some }) kappa h z))

  abbrev H : ℕ
  H = m * s.a.x + n * s.b.x

  abbrev H' : ℕ
  H' = m * s.a.y + n * s.b.y

  abbrev J : ℕ
  J = k * t.a.x + l * t.b.x

  abbrev J' : ℕ
  J' = k * t.a.y + l * t.b.y

  parallel : across_more s t ≡ across_less s t → Reached s t (apart_at s t m n k l) W 0
  parallel h = elim (ℕ_discrete t.b.x t.a.x) [
    | yes e ↦ elim (ℕ_discrete s.b.x s.a.x) [
      | yes f ↦ elim (ℕ_discrete t.b.y t.a.y) [
        | yes e' ↦ elim (ℕ_discrete s.b.y s.a.y) [
          | yes f' ↦ any_way s t m n k l 1 0 0 0 (record { in_x = still s.a.x s.b.x t.a.x t.b.x H J f; in_y = still s.a.y s.b.y t.a.y t.b.y H' J' f' }) w (λ a b. absurd (omega arith))
          | no f' ↦ by_y (λ a b. absurd (f' b))
        ]
        | no e' ↦ by_y (λ a b. absurd (e' a))
      ]
      | no f ↦ by_x (λ a b. absurd (f b))
    ]
    | no e ↦ by_x (λ a b. absurd (e a))
  ]
    where
      still : (A B C D G K : ℕ) → B ≡ A → SlidesBy A B C D G K 1 0 0 0 0
      still A B C D G K e = omega arith

      level : (A B C D G K : ℕ) → SlidesBy A B C D G K D C B A 0
      level A B C D G K = omega arith

      up : (A B C D A' B' C' D' G K : ℕ) → B * D' + A * C' + (B' * C + A' * D) ≡ B * C' + A * D' + (B' * D + A' * C) → SlidesBy A' B' C' D' G K D C B A 0
      up A B C D A' B' C' D' G K e = omega arith

      across : (A B C D A' B' C' D' G K : ℕ) → B * D' + A * C' + (B' * C + A' * D) ≡ B * C' + A * D' + (B' * D + A' * C) → SlidesBy A B C D G K D' C' B' A' 0
      across A B C D A' B' C' D' G K e = omega arith

      by_x : (t.b.x ≡ t.a.x → s.b.x ≡ s.a.x → 0 < 0) → Reached s t (apart_at s t m n k l) W 0
      by_x live =
          any_way s t m n k l t.b.x t.a.x s.b.x s.a.x
          (record { in_x = level s.a.x s.b.x t.a.x t.b.x H J; in_y = up s.a.x s.b.x t.a.x t.b.x s.a.y s.b.y t.a.y t.b.y H' J' h }) w live

      by_y : (t.b.y ≡ t.a.y → s.b.y ≡ s.a.y → 0 < 0) → Reached s t (apart_at s t m n k l) W 0
      by_y live =
          any_way s t m n k l t.b.y t.a.y s.b.y s.a.y
          (record { in_x = across s.a.x s.b.x t.a.x t.b.x s.a.y s.b.y t.a.y t.b.y H J h; in_y = level s.a.y s.b.y t.a.y t.b.y H' J' }) w live

-- ---- what a reader keeps: one of the points is an end

pub data Ends (s t : Segment) (d W : ℕ) : Type 0 where
  start_first : PointNear s.a t d W → Ends s t d W
  end_first : PointNear s.b t d W → Ends s t d W
  start_second : PointNear t.a s d W → Ends s t d W
  end_second : PointNear t.b s d W → Ends s t d W

ends_of : {s t : Segment} {d W kappa : ℕ} → Reached s t d W kappa → ((0 < kappa) × SharePoint s t) ⊎ Ends s t d W
ends_of (meets p q) = inl (p, q)
ends_of (first_start p) = inr (start_first p)
ends_of (first_end p) = inr (end_first p)
ends_of (second_start p) = inr (start_second p)
ends_of (second_end p) = inr (end_second p)

module _ (s t : Segment) (u v : Weights) where
  -- with one sum of weights
  at_one : At (u.first * total v) (u.second * total v) (v.first * total u) (v.second * total u) (whole u v)
  at_one = record { mn = by u.first u.second (total v); kl = by v.first v.second (total u) ∙ mul_comm (total v) (total u); some = mul-pos u.some v.some }
    where
      by : (a b c : ℕ) → a * c + b * c ≡ (a + b) * c
      by a b c = omega arith

  one : apart_at s t (u.first * total v) (u.second * total v) (v.first * total u) (v.second * total u) ≡ apart s u t v
  one =
      λ i.
      squares
      (distance_between (by u.first u.second s.a.x s.b.x (total v) i) (by v.first v.second t.a.x t.b.x (total u) i))
      (distance_between (by u.first u.second s.a.y s.b.y (total v) i) (by v.first v.second t.a.y t.b.y (total u) i))
    where
      by : (p q a b c : ℕ) → p * c * a + q * c * b ≡ (p * a + q * b) * c
      by p q a b c = omega arith

  abbrev Outcome : ℕ → Type 0
  Outcome kappa = Reached s t (apart s u t v) (whole u v) kappa

  abbrev Outcome' : ℕ → ℕ → Type 0
  Outcome' d kappa = Reached s t d (whole u v) kappa

  pub reach-parallel : across_more s t ≡ across_less s t → Ends s t (apart s u t v) (whole u v)
  reach-parallel h = elim (ends_of (subst (λ (d : ℕ). Reached s t d (whole u v) 0) one (parallel s t _ _ _ _ (whole u v) at_one h))) [
    | inl z ↦ absurd (omega (arith, z.0))
    | inr e ↦ e
  ]

  kept : {kappa : ℕ} → Outcome kappa → SharePoint s t ⊎ Ends s t (apart s u t v) (whole u v)
  kept r = elim (ends_of r) [ inl z ↦ inl z.1 | inr e ↦ inr e ]

  pub reach : SharePoint s t ⊎ Ends s t (apart s u t v) (whole u v)
  reach = go (three (across_more s t) (across_less s t))
    where
      rest : (x y : ℕ) → x < y → (y - x + x ≡ y) × (0 < y - x)
      rest x y h = (omega arith, omega arith)

      go : Three (across_more s t) (across_less s t) → SharePoint s t ⊎ Ends s t (apart s u t v) (whole u v)
      go (less h) =
          let r = rest (across_more s t) (across_less s t) h in
          kept (subst (λ (d : ℕ). Outcome' d (across_less s t - across_more s t)) one (crossing_back s t _ _ _ _ (whole u v) at_one (across_less s t - across_more s t) r.0 r.1))
      go (same h) = inr (reach-parallel h)
      go (over h) =
          let r = rest (across_less s t) (across_more s t) h in
          kept (subst (λ (d : ℕ). Outcome' d (across_more s t - across_less s t)) one (crossing s t _ _ _ _ (whole u v) at_one (across_more s t - across_less s t) r.0 r.1))
