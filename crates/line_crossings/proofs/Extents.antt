-- Two segments whose extents along an axis are apart do not meet, so that a segment cuts no step beyond its own extent (`cut-apart-x`, `cut-apart-y`). The side values of the
-- four endpoints are differences of naturals (`determinant`), and signs that cross contradict the order along the axis (`never`). Assumes nothing.
use mathlib.Core.Path.{◌≡◌, refl, sym, ap, ◌∙◌}
use mathlib.Core.Logic.{◌⊎◌, inl, inr, ⊎_elim}
use mathlib.Core.Bool.{Bool, true, false, not, ◌&&◌, ◌||◌, beq, and-false, false≢true}
use Prim.Native.Nat.{ℕ, ◌+◌, ◌-◌, ◌*◌, ◌≤◌, ◌<◌, min, max}
use native.Mathlib.Nat.{add-mul, mul_comm, mul-le-mul_left, mul-lt-mul_of_pos_left}
use native.Mathlib.Omega.{arith}
use lib.Dec.{ltb}
use lib.IntN.{ℤ}
use lib.Signed.{non_neg}
use borrow.Author.Tests.{leb-true, ltb-true}
use Rattle.definitions.specs.Grid.{Position, Segment}
use Rattle.definitions.specs.Spans.{diff, cross, is_zero, strictly_opposite, on_segment, segments_intersect, middle_of, cell_center, cuts}
use Rattle.laws.specs.NumberLaws.Comparisons.{le_or_lt}
use Rattle.laws.specs.ListLaws.Tests.{both, or_split}
use Rattle.line_crossings.proofs.Differences.{negative_diff, positive-diff}
use Rattle.line_crossings.proofs.Meeting.{scaled, factor}
use Rattle.line_crossings.proofs.Sides.{Opposing, turn, exchange, cross-by, Meet, crossing, at_p, at_q, at_a, at_b}

-- ---- signs that cross

-- The near end of a segment is at (0, e) and its far end at (R, f); two points lie beyond the near end, u and v from it, at c and d across. If they are on different sides of
-- the segment's line, its ends are not on different sides of theirs.
one_way :
    (R u v e f c d : ℕ) → 0 < v → R * c + f * u < R * e + e * u → R * e + e * v < R * d + f * v → Opposing (u * e + v * c) (v * e + u * d) (u * f + v * c + R * c) (v * f + u * d + R * d)
    → ⊥
one_way R u v e f c d p a b (inl h) = omega (arith, a, b, h, mul_comm f u, mul_comm e u, mul_comm f v, mul_comm e v)
one_way R u v e f c d p a b (inr h) =
    omega (arith, scaled v R c f u, scaled u R e e v, scaled v R e e u, scaled u R d f v, ap (λ x. f * x) (mul_comm v u), ap (λ x. e * x) (mul_comm v u), factor R (u * e) (v * c), factor R (v * e) (u * d), mul-lt-mul_of_pos_left {k = v} a p, mul-le-mul_left {m = R * e + e * v} {n = R * d + f * v} u (omega arith), mul-le-mul_left {m = v * e + u * d} {n = u * e + v * c} R (omega (arith, h)))

never :
    (R u v e f c d : ℕ) → 0 < u → 0 < v → Opposing (R * c + f * u) (R * e + e * u) (R * d + f * v) (R * e + e * v)
    → Opposing (u * e + v * c) (v * e + u * d) (u * f + v * c + R * c) (v * f + u * d + R * d) → ⊥
never R u v e f c d p q (inl h) E = one_way R u v e f c d q h.0 h.1 E
never R u v e f c d p q (inr h) E = one_way R v u e f d c p h.1 h.0 (turn E)

-- ---- side values by coordinates

-- a side value is one of these less that with x and y exchanged
abbrev half : (a₁ a₂ b₁ b₂ p₁ p₂ : ℕ) → ℕ
half a₁ a₂ b₁ b₂ p₁ p₂ = a₁ * b₂ + b₁ * p₂ + p₁ * a₂

determinant : (a b p : Position) → cross a b p ≡ diff (half a.x a.y b.x b.y p.x p.y) (half a.y a.x b.y b.x p.y p.x)
determinant a b p =
    cross-by a b p b.x a.x p.y a.y b.y a.y p.x a.x (half a.x a.y b.x b.y p.x p.y) (half a.y a.x b.y b.x p.y p.x) (omega arith) (omega arith) (omega arith) (omega arith)
    (omega (arith, mul_comm b.y a.x, mul_comm a.y p.x, mul_comm a.y b.x, mul_comm p.y a.x, mul_comm a.x a.y))

-- each of two segments has its ends on different sides of the other's line
record Crosses (a₁ a₂ b₁ b₂ c₁ c₂ d₁ d₂ : ℕ) : Type 0 where
  pub sides : Opposing (half a₁ a₂ b₁ b₂ c₁ c₂) (half a₂ a₁ b₂ b₁ c₂ c₁) (half a₁ a₂ b₁ b₂ d₁ d₂) (half a₂ a₁ b₂ b₁ d₂ d₁)
  pub ends : Opposing (half c₁ c₂ d₁ d₂ a₁ a₂) (half c₂ c₁ d₂ d₁ a₂ a₁) (half c₁ c₂ d₁ d₂ b₁ b₂) (half c₂ c₁ d₂ d₁ b₂ b₁)

shift : {m n j k m' n' j' k' : ℕ} → m + n' ≡ n + m' → j + k' ≡ k + j' → Opposing m n j k → Opposing m' n' j' k'
shift e f (inl h) = inl (omega (arith, e, h), omega (arith, f, h))
shift e f (inr h) = inr (omega (arith, e, h), omega (arith, f, h))

spread : (x a b y : ℕ) → x ≡ a + b → x * y ≡ a * y + b * y
spread x a b y e = ap (λ z. z * y) e ∙ add-mul a b y

-- both points before the first end
module _ (a₁ a₂ b₁ b₂ : ℕ) where
  left-side : (p₁ p₂ R u : ℕ) → a₁ ≡ p₁ + u → b₁ ≡ a₁ + R → half a₁ a₂ b₁ b₂ p₁ p₂ + (R * a₂ + a₂ * u) ≡ half a₂ a₁ b₂ b₁ p₂ p₁ + (R * p₂ + b₂ * u)
  left-side p₁ p₂ R u e f =
      omega (arith, spread a₁ p₁ u b₂ e, spread b₁ a₁ R p₂ f, spread b₁ a₁ R a₂ f, spread a₁ p₁ u a₂ e, mul_comm a₂ b₁, mul_comm b₂ p₁, mul_comm p₂ a₁, mul_comm a₂ u, mul_comm b₂ u)

  left_near : (c₁ c₂ d₁ d₂ u v : ℕ) → a₁ ≡ c₁ + u → a₁ ≡ d₁ + v → half c₁ c₂ d₁ d₂ a₁ a₂ + (v * a₂ + u * d₂) ≡ half c₂ c₁ d₂ d₁ a₂ a₁ + (u * a₂ + v * c₂)
  left_near c₁ c₂ d₁ d₂ u v e f =
      omega (arith, spread a₁ c₁ u d₂ e, spread a₁ d₁ v c₂ f, spread a₁ c₁ u a₂ e, spread a₁ d₁ v a₂ f, mul_comm c₂ d₁, mul_comm d₂ a₁, mul_comm a₂ c₁)

  left_far : (c₁ c₂ d₁ d₂ R u v : ℕ) → a₁ ≡ c₁ + u → a₁ ≡ d₁ + v → b₁ ≡ a₁ + R → half c₁ c₂ d₁ d₂ b₁ b₂ + (v * b₂ + u * d₂ + R * d₂) ≡ half c₂ c₁ d₂ d₁ b₂ b₁ + (u * b₂ + v * c₂ + R * c₂)
  left_far c₁ c₂ d₁ d₂ R u v e f g =
      omega (arith, spread b₁ a₁ R c₂ g, spread a₁ d₁ v c₂ f, spread b₁ a₁ R d₂ g, spread a₁ c₁ u d₂ e, spread a₁ c₁ u b₂ e, spread a₁ d₁ v b₂ f, mul_comm c₂ d₁, mul_comm d₂ b₁, mul_comm b₂ c₁)

  left_of : {c₁ c₂ d₁ d₂ : ℕ} → Crosses a₁ a₂ b₁ b₂ c₁ c₂ d₁ d₂ → a₁ ≤ b₁ → c₁ < a₁ → d₁ < a₁ → ⊥
  left_of {c₁} {c₂} {d₁} {d₂} C o p q =
      let R = b₁ - a₁ in
      let u = a₁ - c₁ in
      let v = a₁ - d₁ in
      let e : a₁ ≡ c₁ + u = omega arith in
      let f : a₁ ≡ d₁ + v = omega arith in
      let g : b₁ ≡ a₁ + R = omega arith in
      never R u v a₂ b₂ c₂ d₂ (omega arith) (omega arith) (shift (left-side c₁ c₂ R u e g) (left-side d₁ d₂ R v f g) C.sides) (shift (left_near c₁ c₂ d₁ d₂ u v e f) (left_far c₁ c₂ d₁ d₂ R u v e f g) C.ends)

  -- both points behind the second end
  right_side : (p₁ p₂ R u : ℕ) → p₁ ≡ b₁ + u → b₁ ≡ a₁ + R → half a₁ a₂ b₁ b₂ p₁ p₂ + (R * b₂ + b₂ * u) ≡ half a₂ a₁ b₂ b₁ p₂ p₁ + (R * p₂ + a₂ * u)
  right_side p₁ p₂ R u e f =
      omega (arith, spread p₁ b₁ u a₂ e, spread p₁ b₁ u b₂ e, spread b₁ a₁ R b₂ f, spread b₁ a₁ R p₂ f, mul_comm a₂ b₁, mul_comm b₂ p₁, mul_comm p₂ a₁, mul_comm a₂ u, mul_comm b₂ u)

  right_near : (c₁ c₂ d₁ d₂ u v : ℕ) → c₁ ≡ b₁ + u → d₁ ≡ b₁ + v → half c₂ c₁ d₂ d₁ b₂ b₁ + (v * b₂ + u * d₂) ≡ half c₁ c₂ d₁ d₂ b₁ b₂ + (u * b₂ + v * c₂)
  right_near c₁ c₂ d₁ d₂ u v e f =
      omega (arith, spread c₁ b₁ u d₂ e, spread d₁ b₁ v c₂ f, spread c₁ b₁ u b₂ e, spread d₁ b₁ v b₂ f, mul_comm c₂ d₁, mul_comm d₂ b₁, mul_comm b₂ c₁)

  right_far : (c₁ c₂ d₁ d₂ R u v : ℕ) → c₁ ≡ b₁ + u → d₁ ≡ b₁ + v → b₁ ≡ a₁ + R → half c₂ c₁ d₂ d₁ a₂ a₁ + (v * a₂ + u * d₂ + R * d₂) ≡ half c₁ c₂ d₁ d₂ a₁ a₂ + (u * a₂ + v * c₂ + R * c₂)
  right_far c₁ c₂ d₁ d₂ R u v e f g =
      omega (arith, spread c₁ b₁ u d₂ e, spread d₁ b₁ v c₂ f, spread c₁ b₁ u a₂ e, spread d₁ b₁ v a₂ f, spread b₁ a₁ R c₂ g, spread b₁ a₁ R d₂ g, mul_comm c₂ d₁, mul_comm d₂ a₁, mul_comm a₂ c₁)

  right_of : {c₁ c₂ d₁ d₂ : ℕ} → Crosses a₁ a₂ b₁ b₂ c₁ c₂ d₁ d₂ → a₁ ≤ b₁ → b₁ < c₁ → b₁ < d₁ → ⊥
  right_of {c₁} {c₂} {d₁} {d₂} C o p q =
      let R = b₁ - a₁ in
      let u = c₁ - b₁ in
      let v = d₁ - b₁ in
      let e : c₁ ≡ b₁ + u = omega arith in
      let f : d₁ ≡ b₁ + v = omega arith in
      let g : b₁ ≡ a₁ + R = omega arith in
      never R u v b₂ a₂ c₂ d₂ (omega arith) (omega arith) (shift (right_side c₁ c₂ R u e g) (right_side d₁ d₂ R v f g) C.sides) (shift (right_near c₁ c₂ d₁ d₂ u v e f) (right_far c₁ c₂ d₁ d₂ R u v e f g) (exchange C.ends))

-- ---- either order, either axis

-- two extents that are apart
abbrev pub Apart : (a b c d : ℕ) → Type 0
Apart a b c d = (max c d < min a b) ⊎ (max a b < min c d)

module _ {a₁ a₂ b₁ b₂ c₁ c₂ d₁ d₂ : ℕ} where
  ends-exchanged : Crosses a₁ a₂ b₁ b₂ c₁ c₂ d₁ d₂ → Crosses b₁ b₂ a₁ a₂ c₁ c₂ d₁ d₂
  ends-exchanged C = record { sides = shift (back c₁ c₂) (back d₁ d₂) (turn C.sides); ends = turn (exchange C.ends) }
    where
      back : (p₁ p₂ : ℕ) → half a₂ a₁ b₂ b₁ p₂ p₁ + half b₂ b₁ a₂ a₁ p₂ p₁ ≡ half a₁ a₂ b₁ b₂ p₁ p₂ + half b₁ b₂ a₁ a₂ p₁ p₂
      back p₁ p₂ = omega (arith, mul_comm a₂ b₁, mul_comm b₂ p₁, mul_comm p₂ a₁, mul_comm b₂ a₁, mul_comm a₂ p₁, mul_comm p₂ b₁)

  axes_exchanged : Crosses a₁ a₂ b₁ b₂ c₁ c₂ d₁ d₂ → Crosses a₂ a₁ b₂ b₁ c₂ c₁ d₂ d₁
  axes_exchanged C = record { sides = turn C.sides; ends = turn C.ends }

  never-apart : Crosses a₁ a₂ b₁ b₂ c₁ c₂ d₁ d₂ → Apart a₁ b₁ c₁ d₁ → ⊥
  never-apart C (inl h) = ⊎_elim (λ o. left_of a₁ a₂ b₁ b₂ C o (omega arith) (omega arith)) (λ o. left_of b₁ b₂ a₁ a₂ (ends-exchanged C) (omega arith) (omega arith) (omega arith)) (le_or_lt a₁ b₁)
  never-apart C (inr h) = ⊎_elim (λ o. right_of a₁ a₂ b₁ b₂ C o (omega arith) (omega arith)) (λ o. right_of b₁ b₂ a₁ a₂ (ends-exchanged C) (omega arith) (omega arith) (omega arith)) (le_or_lt a₁ b₁)

-- ---- what meets

opposing : {y z : ℤ} (m n j k : ℕ) → y ≡ diff m n → z ≡ diff j k → strictly_opposite y z ≡ true → Opposing m n j k
opposing m n j k e f h =
    ⊎_elim (λ i. let p = both (ltb m n) (ltb k j) i in inl (ltb-true m n p.0, ltb-true k j p.1)) (λ i. let p = both (ltb n m) (ltb j k) i in inr (ltb-true n m p.0, ltb-true j k p.1))
    (or_split (ltb m n && ltb k j) (ltb n m && ltb j k) (sym (λ i. (negative_diff m n i && positive-diff j k i) || (positive-diff m n i && negative_diff j k i)) ∙ sym (λ i. strictly_opposite (e i) (f i)) ∙ h))

five : (s t u v w : Bool) → (s || t || u || v || w) ≡ true → (s ≡ true) ⊎ ((t ≡ true) ⊎ ((u ≡ true) ⊎ ((v ≡ true) ⊎ (w ≡ true))))
five true t u v w e = inl refl
five false true u v w e = inr (inl refl)
five false false true v w e = inr (inr (inl refl))
five false false false true w e = inr (inr (inr (inl refl)))
five false false false false true e = inr (inr (inr (inr refl)))
five false false false false false e = absurd (false≢true e)

four : (s t u v : Bool) → (s && t && u && v) ≡ true → (s ≡ true) × (t ≡ true) × (u ≡ true) × (v ≡ true)
four true true true true e = (refl, refl, refl, refl)
four false t u v e = absurd (false≢true e)
four true false u v e = absurd (false≢true e)
four true true false v e = absurd (false≢true e)
four true true true false e = absurd (false≢true e)

on_within : (a b p : Position) → on_segment a b p ≡ true → ((min a.x b.x ≤ p.x) × (p.x ≤ max a.x b.x)) × ((min a.y b.y ≤ p.y) × (p.y ≤ max a.y b.y))
unfolding on_segment
on_within a b p e =
    let f = four _ _ _ _ e in
    ((leb-true (min a.x b.x) p.x f.0, leb-true p.x (max a.x b.x) f.1), (leb-true (min a.y b.y) p.y f.2, leb-true p.y (max a.y b.y) f.3))

module _ (a b c d : Position) where
  meet_of : segments_intersect a b c d ≡ true → Meet a b c d
  unfolding segments_intersect
  meet_of e = go (five _ _ _ _ _ e)
    where
      go :
          ((strictly_opposite (cross a b c) (cross a b d) && strictly_opposite (cross c d a) (cross c d b)) ≡ true)
          ⊎ (((is_zero (cross a b c) && on_segment a b c) ≡ true) ⊎ (((is_zero (cross a b d) && on_segment a b d) ≡ true) ⊎ (((is_zero (cross c d a) && on_segment c d a) ≡ true) ⊎ ((is_zero (cross c d b) && on_segment c d b) ≡ true))))
          → Meet a b c d
      go (inl h) = let p = both _ _ h in crossing p.0 p.1
      go (inr (inl h)) = let p = both _ _ h in at_p p.0 p.1
      go (inr (inr (inl h))) = let p = both _ _ h in at_q p.0 p.1
      go (inr (inr (inr (inl h)))) = let p = both _ _ h in at_a p.0 p.1
      go (inr (inr (inr (inr h)))) = let p = both _ _ h in at_b p.0 p.1

  crosses-of :
      strictly_opposite (cross a b c) (cross a b d) ≡ true → strictly_opposite (cross c d a) (cross c d b) ≡ true → Crosses a.x a.y b.x b.y c.x c.y d.x d.y
  crosses-of e f = record { sides = opposing _ _ _ _ (determinant a b c) (determinant a b d) e; ends = opposing _ _ _ _ (determinant c d a) (determinant c d b) f }

  apart-x : Apart a.x b.x c.x d.x → Meet a b c d → ⊥
  apart-x h (crossing e f) = never-apart (crosses-of e f) h
  apart-x h (at_p e f) = let w = (on_within a b c f).0 in ⊎_elim (λ i. omega (arith, i, w)) (λ i. omega (arith, i, w)) h
  apart-x h (at_q e f) = let w = (on_within a b d f).0 in ⊎_elim (λ i. omega (arith, i, w)) (λ i. omega (arith, i, w)) h
  apart-x h (at_a e f) = let w = (on_within c d a f).0 in ⊎_elim (λ i. omega (arith, i, w)) (λ i. omega (arith, i, w)) h
  apart-x h (at_b e f) = let w = (on_within c d b f).0 in ⊎_elim (λ i. omega (arith, i, w)) (λ i. omega (arith, i, w)) h

  apart-y : Apart a.y b.y c.y d.y → Meet a b c d → ⊥
  apart-y h (crossing e f) = never-apart (axes_exchanged (crosses-of e f)) h
  apart-y h (at_p e f) = let w = (on_within a b c f).1 in ⊎_elim (λ i. omega (arith, i, w)) (λ i. omega (arith, i, w)) h
  apart-y h (at_q e f) = let w = (on_within a b d f).1 in ⊎_elim (λ i. omega (arith, i, w)) (λ i. omega (arith, i, w)) h
  apart-y h (at_a e f) = let w = (on_within c d a f).1 in ⊎_elim (λ i. omega (arith, i, w)) (λ i. omega (arith, i, w)) h
  apart-y h (at_b e f) = let w = (on_within c d b f).1 in ⊎_elim (λ i. omega (arith, i, w)) (λ i. omega (arith, i, w)) h

-- ---- a step beyond a span

module _ (s : Segment) (p q : Position) where
  not-cut : (Meet s.a s.b (cell_center p) (cell_center q) → ⊥) → cuts s p q ≡ false
  unfolding cuts
  not-cut n = ap (λ t. differs && t) (go (segments_intersect s.a s.b (cell_center p) (cell_center q)) refl) ∙ and-false differs
    where
      differs : Bool
      differs = not (beq (non_neg (cross s.a s.b (cell_center p))) (non_neg (cross s.a s.b (cell_center q))))

      go : (t : Bool) → segments_intersect s.a s.b (cell_center p) (cell_center q) ≡ t → t ≡ false
      go true e = absurd (n (meet_of s.a s.b (cell_center p) (cell_center q) e))
      go false e = refl

  pub cut-apart-x : Apart s.a.x s.b.x (middle_of p.x) (middle_of q.x) → cuts s p q ≡ false
  cut-apart-x h = not-cut (apart-x s.a s.b (cell_center p) (cell_center q) h)

  pub cut-apart-y : Apart s.a.y s.b.y (middle_of p.y) (middle_of q.y) → cuts s p q ≡ false
  cut-apart-y h = not-cut (apart-y s.a s.b (cell_center p) (cell_center q) h)
