-- Sliding at rates of either sign (Sliding has them not negative): numbers of either sign are differences of naturals, and a segment whose point slides
-- backward is turned round. Assumes nothing.
use Rattle.std.specs.Prelude.{◌≡◌, ℕ, ◌+◌, ◌-◌, ◌*◌, ◌≤◌, ◌<◌}
use Rattle.std.proofs.Common.{sym, ap, ◌∙◌, subst, inl, inr, le_trans, le_of_eq, le_of_lt, lt_of_lt_of_le, add_comm, arith}
use Rattle.definitions.specs.Grid.{Position, Segment}
use Rattle.definitions.specs.Spans.{distance_between}
use Rattle.laws.specs.NumberLaws.Comparisons.{le_or_lt}
use Rattle.separations.specs.Distance.{Weights, total, along_x, along_y, squares, SharePoint}
use Rattle.separations.specs.PlaneLaws.Sliding.{PointNear, Reached, meets, first_start, first_end, second_start, second_end, Slide, slide, apart_at}

-- ---- a segment turned round

abbrev pub turned : Segment → Segment
turned s = record { a = s.b; b = s.a }

abbrev turn : Weights → Weights
turn u = record { first = u.second; second = u.first; some = lt_of_lt_of_le u.some (le_of_eq (add_comm u.first u.second)) }

point-turned : {p : Position} {s : Segment} {d W : ℕ} → PointNear p (turned s) d W → PointNear p s d W
point-turned {p} {s} {d} {W} h =
    let u = h.at in
    record {
      at = turn u;
      near =
          subst (λ (T : ℕ). squares (distance_between (p.x * T) (along_x s (turn u))) (distance_between (p.y * T) (along_y s (turn u))) * (W * W) ≤ d * (T * T)) (add_comm u.first u.second)
          (le_trans
          (le_of_eq
          (λ i.
          squares (distance_between (p.x * total u) (add_comm (u.second * s.a.x) (u.first * s.b.x) i)) (distance_between (p.y * total u) (add_comm (u.second * s.a.y) (u.first * s.b.y) i))
          * (W * W)))
          h.near);
    }

share-turned : {s t : Segment} → SharePoint (turned s) t → SharePoint s t
share-turned {s} {t} h =
    let u = h.on_first in
    record {
      on_first = turn u;
      on_second = h.on_second;
      same = (
        ap (λ (z : ℕ). z * total h.on_second) (add_comm (u.second * s.a.x) (u.first * s.b.x)) ∙ h.same.0 ∙ ap (λ (z : ℕ). along_x t h.on_second * z) (add_comm u.first u.second),
        ap (λ (z : ℕ). z * total h.on_second) (add_comm (u.second * s.a.y) (u.first * s.b.y)) ∙ h.same.1 ∙ ap (λ (z : ℕ). along_y t h.on_second * z) (add_comm u.first u.second),
      );
    }

share-turned-second : {s t : Segment} → SharePoint s (turned t) → SharePoint s t
share-turned-second h = let k = share-turned (record { on_first = h.on_second; on_second = h.on_first; same = (sym h.same.0, sym h.same.1) }) in
    record { on_first = k.on_second; on_second = k.on_first; same = (sym k.same.0, sym k.same.1) }

reached_first : {s t : Segment} {d W kappa : ℕ} → Reached (turned s) t d W kappa → Reached s t d W kappa
reached_first (meets p q) = meets p (share-turned q)
reached_first (first_start p) = first_end p
reached_first (first_end p) = first_start p
reached_first (second_start p) = second_start (point-turned p)
reached_first (second_end p) = second_end (point-turned p)

pub reached-second : {s t : Segment} {d W kappa : ℕ} → Reached s (turned t) d W kappa → Reached s t d W kappa
reached-second (meets p q) = meets p (share-turned-second q)
reached-second (first_start p) = first_start (point-turned p)
reached-second (first_end p) = first_end (point-turned p)
reached-second (second_start p) = second_end p
reached-second (second_end p) = second_start p

-- ---- rates of either sign

abbrev pub SlidesBy : (A B C D G K aP aN bP bN kappa : ℕ) → Type 0
SlidesBy A B C D G K aP aN bP bN kappa = aP * B + aN * A + (bP * C + bN * D) + kappa * G ≡ aP * A + aN * B + (bP * D + bN * C) + kappa * K

pub record SlideBy (s t : Segment) (m n k l aP aN bP bN kappa : ℕ) : Type 0 where
  pub in_x : SlidesBy s.a.x s.b.x t.a.x t.b.x (m * s.a.x + n * s.b.x) (k * t.a.x + l * t.b.x) aP aN bP bN kappa
  pub in_y : SlidesBy s.a.y s.b.y t.a.y t.b.y (m * s.a.y + n * s.b.y) (k * t.a.y + l * t.b.y) aP aN bP bN kappa

turn_first : {s t : Segment} {m n k l aP aN bP bN kappa : ℕ} → SlideBy s t m n k l aP aN bP bN kappa → SlideBy (turned s) t n m k l aN aP bP bN kappa
turn_first {s} {t} {m} {n} {k} {l} {aP} {aN} {bP} {bN} {kappa} h =
    record {
      in_x = by s.a.x s.b.x t.a.x t.b.x (kappa * (k * t.a.x + l * t.b.x)) h.in_x;
      in_y = by s.a.y s.b.y t.a.y t.b.y (kappa * (k * t.a.y + l * t.b.y)) h.in_y;
    }
  where
    by : (A B C D K : ℕ) → aP * B + aN * A + (bP * C + bN * D) + kappa * (m * A + n * B) ≡ aP * A + aN * B + (bP * D + bN * C) + K
        → aN * A + aP * B + (bP * C + bN * D) + kappa * (n * B + m * A) ≡ aN * B + aP * A + (bP * D + bN * C) + K
    by A B C D K p = omega arith

turn-second : {s t : Segment} {m n k l aP aN bP bN kappa : ℕ} → SlideBy s t m n k l aP aN bP bN kappa → SlideBy s (turned t) m n l k aP aN bN bP kappa
turn-second {s} {t} {m} {n} {k} {l} {aP} {aN} {bP} {bN} {kappa} h =
    record {
      in_x = by s.a.x s.b.x t.a.x t.b.x (kappa * (m * s.a.x + n * s.b.x)) h.in_x;
      in_y = by s.a.y s.b.y t.a.y t.b.y (kappa * (m * s.a.y + n * s.b.y)) h.in_y;
    }
  where
    by : (A B C D G : ℕ) → aP * B + aN * A + (bP * C + bN * D) + G ≡ aP * A + aN * B + (bP * D + bN * C) + kappa * (k * C + l * D)
        → aP * B + aN * A + (bN * D + bP * C) + G ≡ aP * A + aN * B + (bN * C + bP * D) + kappa * (l * D + k * C)
    by A B C D G p = omega arith

forward : {s t : Segment} {m n k l aP aN bP bN kappa : ℕ} → SlideBy s t m n k l aP aN bP bN kappa → aN ≤ aP → bN ≤ bP → Slide s t m n k l (aP - aN) (bP - bN) kappa
forward {s} {t} {m} {n} {k} {l} {aP} {aN} {bP} {bN} {kappa} h p q =
    record {
      in_x = by s.a.x s.b.x t.a.x t.b.x (kappa * (m * s.a.x + n * s.b.x)) (kappa * (k * t.a.x + l * t.b.x)) h.in_x;
      in_y = by s.a.y s.b.y t.a.y t.b.y (kappa * (m * s.a.y + n * s.b.y)) (kappa * (k * t.a.y + l * t.b.y)) h.in_y;
    }
  where
    rest : (x y : ℕ) → y ≤ x → x - y + y ≡ x
    rest x y h = omega arith

    times : (x y z : ℕ) → y ≤ x → (x - y) * z + y * z ≡ x * z
    times x y z h = by' (x - y) (ap (λ (w : ℕ). w * z) (rest x y h))
      where
        by' : (w : ℕ) → (w + y) * z ≡ x * z → w * z + y * z ≡ x * z
        by' w e = omega arith

    linear : (pA pB nA nB pC pD nC nD aA aB bC bD G K : ℕ) → aA + nA ≡ pA → aB + nB ≡ pB → bC + nC ≡ pC → bD + nD ≡ pD
        → pB + nA + (pC + nD) + G ≡ pA + nB + (pD + nC) + K → aB + bC + G ≡ aA + bD + K
    linear pA pB nA nB pC pD nC nD aA aB bC bD G K e1 e2 e3 e4 e5 = omega arith

    by : (A B C D G K : ℕ) → aP * B + aN * A + (bP * C + bN * D) + G ≡ aP * A + aN * B + (bP * D + bN * C) + K
        → (aP - aN) * B + (bP - bN) * C + G ≡ (aP - aN) * A + (bP - bN) * D + K
    by A B C D G K e =
        linear (aP * A) (aP * B) (aN * A) (aN * B) (bP * C) (bP * D) (bN * C) (bN * D) ((aP - aN) * A) ((aP - aN) * B) ((bP - bN) * C) ((bP - bN) * D) G K
        (times aP aN A p) (times aP aN B p) (times bP bN C q) (times bP bN D q) e

-- the two points, with weights that have one sum
pub record At (m n k l W : ℕ) : Type 0 where
  pub mn : m + n ≡ W
  pub kl : k + l ≡ W
  pub some : 0 < W

module _ {W kappa : ℕ} where
  forward-both : (s t : Segment) (m n k l aP aN bP bN : ℕ) → SlideBy s t m n k l aP aN bP bN kappa → At m n k l W → (aP ≡ aN → bP ≡ bN → 0 < kappa) → aN ≤ aP → bN ≤ bP
      → Reached s t (apart_at s t m n k l) W kappa
  forward-both s t m n k l aP aN bP bN h w live p q =
      slide s t m n k l (aP - aN) (bP - bN) kappa W (forward h p q) w.mn w.kl w.some (λ a b. live (none aP aN p a) (none bP bN q b))
    where
      none : (x y : ℕ) → y ≤ x → x - y ≡ 0 → x ≡ y
      none x y h e = omega arith

  forward_first : (s t : Segment) (m n k l aP aN bP bN : ℕ) → SlideBy s t m n k l aP aN bP bN kappa → At m n k l W → (aP ≡ aN → bP ≡ bN → 0 < kappa) → aN ≤ aP
      → Reached s t (apart_at s t m n k l) W kappa
  forward_first s t m n k l aP aN bP bN h w live p = elim (le_or_lt bN bP) [
    | inl q ↦ forward-both s t m n k l aP aN bP bN h w live p q
    | inr q ↦
        reached-second
        (subst (λ (d : ℕ). Reached s (turned t) d W kappa)
        (λ i.
        squares (distance_between (m * s.a.x + n * s.b.x) (add_comm (l * t.b.x) (k * t.a.x) i))
        (distance_between (m * s.a.y + n * s.b.y) (add_comm (l * t.b.y) (k * t.a.y) i)))
        (forward-both s (turned t) m n l k aP aN bN bP (turn-second h) (record { mn = w.mn; kl = add_comm l k ∙ w.kl; some = w.some }) (λ a b. live a (sym b)) p (le_of_lt q)))
  ]

  pub any_way : (s t : Segment) (m n k l aP aN bP bN : ℕ) → SlideBy s t m n k l aP aN bP bN kappa → At m n k l W → (aP ≡ aN → bP ≡ bN → 0 < kappa)
      → Reached s t (apart_at s t m n k l) W kappa
  any_way s t m n k l aP aN bP bN h w live = elim (le_or_lt aN aP) [
    | inl p ↦ forward_first s t m n k l aP aN bP bN h w live p
    | inr p ↦
        reached_first
        (subst (λ (d : ℕ). Reached (turned s) t d W kappa)
        (λ i.
        squares (distance_between (add_comm (n * s.b.x) (m * s.a.x) i) (k * t.a.x + l * t.b.x))
        (distance_between (add_comm (n * s.b.y) (m * s.a.y) i) (k * t.a.y + l * t.b.y)))
        (forward_first (turned s) t n m k l aN aP bP bN (turn_first h) (record { mn = add_comm n m ∙ w.mn; kl = w.kl; some = w.some }) (λ a b. live (sym a) b) (le_of_lt p)))
  ]
