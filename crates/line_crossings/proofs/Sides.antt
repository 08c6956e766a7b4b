-- Between the ends of a segment a change of sides is a cut. A segment along its major axis goes from (0, e) to (R, f), in naturals; points p and q are at (u, c) and (v, d),
-- with u and v between 0 and R. Side values as differences of naturals, along columns and along rows down and up (`Placed`), and from them `meet-between`. Assumes nothing.
use mathlib.Core.Path.{◌≡◌, refl, sym, ap, ◌∙◌}
use mathlib.Core.Logic.{◌⊎◌, inl, inr, ⊎_elim}
use mathlib.Core.Bool.{Bool, true, false, ◌&&◌, ◌||◌, or-true}
use Prim.Native.Nat.{ℕ, ◌+◌, ◌-◌, ◌*◌, ◌≤◌, ◌<◌, min, max}
use native.Mathlib.Omega.{arith}
use lib.Dec.{leb, ltb}
use lib.IntN.{ℤ, ◌-ℤ◌, ◌*ℤ◌}
use lib.Signed.{non_neg}
use borrow.Author.Tests.{lt-ltb, le-leb, leb-true, leb-false}
use Rattle.definitions.specs.Grid.{Position}
use Rattle.definitions.specs.Spans.{diff, cross, is_zero, strictly_opposite, on_segment, segments_intersect}
use Rattle.line_crossings.proofs.Differences.{diff_eq, diff-times, diff_minus, non_neg_diff, negative_diff, positive-diff}
use Rattle.line_crossings.proofs.Meeting.{Under, Over, Meets, at_under, at_over, at_first, at_second, crosses, meets}

-- ---- how two segments can meet

-- m - n and j - k have different signs, neither being 0
abbrev pub Opposing : (m n j k : ℕ) → Type 0
Opposing m n j k = ((m < n) × (k < j)) ⊎ ((n < m) × (j < k))

pub data Meet (a b p q : Position) : Type 0 where
  crossing : strictly_opposite (cross a b p) (cross a b q) ≡ true → strictly_opposite (cross p q a) (cross p q b) ≡ true → Meet a b p q
  at_p : is_zero (cross a b p) ≡ true → on_segment a b p ≡ true → Meet a b p q
  at_q : is_zero (cross a b q) ≡ true → on_segment a b q ≡ true → Meet a b p q
  at_a : is_zero (cross p q a) ≡ true → on_segment p q a ≡ true → Meet a b p q
  at_b : is_zero (cross p q b) ≡ true → on_segment p q b ≡ true → Meet a b p q

any_of : (s t u v w : Bool) → (s ≡ true) ⊎ ((t ≡ true) ⊎ ((u ≡ true) ⊎ ((v ≡ true) ⊎ (w ≡ true)))) → (s || t || u || v || w) ≡ true
any_of true t u v w h = refl
any_of false true u v w h = refl
any_of false false true v w h = refl
any_of false false false true w h = refl
any_of false false false false true h = refl
any_of false false false false false (inl e) = e
any_of false false false false false (inr (inl e)) = e
any_of false false false false false (inr (inr (inl e))) = e
any_of false false false false false (inr (inr (inr (inl e)))) = e
any_of false false false false false (inr (inr (inr (inr e)))) = e

and_both : (s t : Bool) → s ≡ true → t ≡ true → (s && t) ≡ true
and_both s t e f = rw (e, f) refl

pub meet_true : (a b p q : Position) → Meet a b p q → segments_intersect a b p q ≡ true
unfolding segments_intersect
meet_true a b p q m = any_of _ _ _ _ _ (go m)
  where
    go :
        Meet a b p q
        → ((strictly_opposite (cross a b p) (cross a b q) && strictly_opposite (cross p q a) (cross p q b)) ≡ true)
        ⊎ (((is_zero (cross a b p) && on_segment a b p) ≡ true) ⊎ (((is_zero (cross a b q) && on_segment a b q) ≡ true) ⊎ (((is_zero (cross p q a) && on_segment p q a) ≡ true) ⊎ ((is_zero (cross p q b) && on_segment p q b) ≡ true))))
    go (crossing e f) = inl (and_both _ _ e f)
    go (at_p e f) = inr (inl (and_both _ _ e f))
    go (at_q e f) = inr (inr (inl (and_both _ _ e f)))
    go (at_a e f) = inr (inr (inr (inl (and_both _ _ e f))))
    go (at_b e f) = inr (inr (inr (inr (and_both _ _ e f))))

-- ---- signs and places

pub opposed : {y z : ℤ} (m n j k : ℕ) → y ≡ diff m n → z ≡ diff j k → Opposing m n j k → strictly_opposite y z ≡ true
opposed m n j k e f (inl h) = rw (e, f, negative_diff m n, positive-diff j k, lt-ltb m n h.0, lt-ltb k j h.1) refl
opposed m n j k e f (inr h) = rw (e, f, negative_diff m n, positive-diff m n, negative_diff j k, positive-diff j k, lt-ltb n m h.0, lt-ltb j k h.1) (or-true (ltb m n && ltb k j))

pub on_segment_lem : (a b p : Position) → min a.x b.x ≤ p.x → p.x ≤ max a.x b.x → min a.y b.y ≤ p.y → p.y ≤ max a.y b.y → on_segment a b p ≡ true
unfolding on_segment
on_segment_lem a b p h i j k = rw (le-leb (min a.x b.x) p.x h, le-leb p.x (max a.x b.x) i, le-leb (min a.y b.y) p.y j, le-leb p.y (max a.y b.y) k) refl

-- a side value by four differences
pub cross-by :
    (a b p : Position) (i j k l m n o r y z : ℕ) → b.x + j ≡ i + a.x → p.y + l ≡ k + a.y → b.y + n ≡ m + a.y → p.x + r ≡ o + a.x
    → ((i * k + j * l) + (m * r + n * o)) + z ≡ y + ((i * l + j * k) + (m * o + n * r)) → cross a b p ≡ diff y z
unfolding cross
cross-by a b p i j k l m n o r y z e f g h eq =
    (λ t. diff_eq b.x a.x i j e t *ℤ diff_eq p.y a.y k l f t -ℤ diff_eq b.y a.y m n g t *ℤ diff_eq p.x a.x o r h t)
    ∙ (λ t. diff-times i j k l t -ℤ diff-times m n o r t) ∙ diff_minus (i * k + j * l) (i * l + j * k) (m * o + n * r) (m * r + n * o)
    ∙ diff_eq ((i * k + j * l) + (m * r + n * o)) ((i * l + j * k) + (m * o + n * r)) y z eq

pub turn : {m n j k : ℕ} → Opposing m n j k → Opposing n m k j
turn (inl h) = inr h
turn (inr h) = inl h

pub exchange : {m n j k : ℕ} → Opposing m n j k → Opposing k j n m
exchange (inl h) = inl (h.1, h.0)
exchange (inr h) = inr (h.1, h.0)

-- two numbers of different signs, where 0 counts as positive
pub apart : {y z : ℤ} (m n j k : ℕ) → y ≡ diff m n → z ≡ diff j k → (non_neg y ≡ non_neg z → ⊥) → ((m ≤ n) × (k ≤ j)) ⊎ ((n ≤ m) × (j ≤ k))
apart {y} {z} m n j k e f h = go (leb n m) (leb k j) (leb-true n m) (leb-false n m) (leb-true k j) (leb-false k j) (λ i. h (ap non_neg e ∙ non_neg_diff m n ∙ i ∙ sym (ap non_neg f ∙ non_neg_diff j k)))
  where
    go : (s t : Bool) → (s ≡ true → n ≤ m) → (s ≡ false → m < n) → (t ≡ true → k ≤ j) → (t ≡ false → j < k) → (s ≡ t → ⊥) → ((m ≤ n) × (k ≤ j)) ⊎ ((n ≤ m) × (j ≤ k))
    go true true a b c d h = absurd (h refl)
    go true false a b c d h = let i = d refl in inr (a refl, omega arith)
    go false true a b c d h = let i = b refl in inl (omega arith, c refl)
    go false false a b c d h = absurd (h refl)

-- ---- segments along their major axis

-- what is asked of the places (u, c) and (v, d) of p and q to meet the segment from a to b, which goes from (0, e) to (R, f)
pub record Placed (a b p q : Position) (R e f u v c d : ℕ) : Type 0 where
  pub sides : (non_neg (cross a b p) ≡ non_neg (cross a b q) → ⊥) → (Under R e f u c × Over R e f v d) ⊎ (Over R e f u c × Under R e f v d)
  pub crossed :
      Opposing (R * c + e * u) (R * e + f * u) (R * d + e * v) (R * e + f * v) → Opposing (u * d + v * e) (u * e + v * c) ((R - u) * f + (R - v) * c) ((R - u) * d + (R - v) * f)
      → Meet a b p q
  pub on_p : R * c + e * u ≡ R * e + f * u → min e f ≤ c → c ≤ max e f → Meet a b p q
  pub on_q : R * d + e * v ≡ R * e + f * v → min e f ≤ d → d ≤ max e f → Meet a b p q
  pub on_first_lem : u ≡ 0 → v ≡ 0 → min c d ≤ e → e ≤ max c d → Meet a b p q
  pub on_second_lem : u ≡ R → v ≡ R → min c d ≤ f → f ≤ max c d → Meet a b p q

pub meet-between : {a b p q : Position} {R e f u v c d : ℕ} → Placed a b p q R e f u v c d → 0 < R → u ≤ R → v ≤ R → (non_neg (cross a b p) ≡ non_neg (cross a b q) → ⊥) → Meet a b p q
meet-between {a} {b} {p} {q} {R} {e} {f} {u} {v} {c} {d} P r hu hv n = ⊎_elim (λ s. upward (meets R e f u v c d r hu hv s.0 s.1)) (λ s. downward (meets R e f v u d c r hv hu s.1 s.0)) (P.sides n)
  where
    upward : Meets R e f u v c d → Meet a b p q
    upward (at_under i j k) = P.on_p i j k
    upward (at_over i j k) = P.on_q i j k
    upward (at_first i j k l) = P.on_first_lem i j (omega arith) (omega arith)
    upward (at_second i j k l) = P.on_second_lem i j (omega arith) (omega arith)
    upward (crosses i j k l) = P.crossed (inl (i, j)) (inr (k, l))

    downward : Meets R e f v u d c → Meet a b p q
    downward (at_under i j k) = P.on_q i j k
    downward (at_over i j k) = P.on_p i j k
    downward (at_first i j k l) = P.on_first_lem j i (omega arith) (omega arith)
    downward (at_second i j k l) = P.on_second_lem j i (omega arith) (omega arith)
    downward (crosses i j k l) = P.crossed (inr (j, i)) (inl (omega arith, omega arith))
