-- A cell far from a span's line: a step moves a centre by at most 8 pixels each way, so it moves the side value by at most 8 times the sum of the span's extents
-- (`moved`), and where the side value is larger in size its sign stays (`off-both`). A step within a row moves it by the extent along y alone (`off-row`), and one to
-- the south does not lower it by more, since the first endpoint is not to the right of the second (`off-south`). Assumes nothing.
use mathlib.Core.Path.{◌≡◌, refl, sym, ap, ◌∙◌, subst, subst⁻¹}
use mathlib.Core.Logic.{⊎_elim}
use mathlib.Core.Bool.{Bool, true, false, not, ◌&&◌, ◌||◌, beq, false≢true}
use Prim.Native.Nat.{ℕ, zero, suc, ◌+◌, ◌-◌, ◌*◌, ◌≤◌, ◌<◌, min, max}
use native.Mathlib.Nat.{mul-le-mul, le_refl}
use native.Mathlib.Omega.{arith}
use lib.Dec.{ltb}
use lib.IntN.{ℤ, pos, negsuc, neg_ℤ, nat_abs, ◌+ℤ◌, ◌-ℤ◌, ◌*ℤ◌, +ℤ_idl, +ℤ_idr, +ℤ_assoc, +ℤ_comm, +ℤ-suc_ℤ, +ℤ-pred_ℤ, -ℤ_one, -ℤ-+ℤ_cancel, neg_ℤ-+ℤ, zero-*ℤ, suc_ℤ-*ℤ, pred_ℤ-*ℤ, *ℤ_comm}
use lib.Signed.{non_neg}
use borrow.Author.Tests.{ltb-true}
use Rattle.definitions.specs.Grid.{Position, at, Segment, toward}
use Rattle.definitions.specs.Spans.{pixels_per_walk_cell, diff, cross, middle_of, cell_center, segments_intersect, cuts}
use Rattle.span_geometry.specs.declared.SpanGeometry.{SpanGeometry}
use Rattle.span_geometry.specs.Shapes.{Sound, segment_of}
use Rattle.laws.specs.NumberLaws.Comparisons.{le_or_lt}
use Rattle.laws.specs.NumberLaws.WholeNumbers.{subℕ-pos, subℕ_neg, diff-pos, diff_neg, nat_abs_neg, nat_abs_product, nat_abs_difference}
use Rattle.cut_steps.specs.Cell.{side_of, Uncut, Far}

-- ---- sums and products of whole numbers of either sign

-- a product with a sum
times-sum : (m z k : ℤ) → (m +ℤ z) *ℤ k ≡ m *ℤ k +ℤ z *ℤ k
times-sum m (pos zero) k = ap (λ x. x *ℤ k) (+ℤ_idr m) ∙ sym (+ℤ_idr (m *ℤ k)) ∙ ap (λ x. m *ℤ k +ℤ x) (sym (zero-*ℤ k))
times-sum m (pos (suc n)) k =
    ap (λ x. x *ℤ k) (+ℤ-suc_ℤ m (pos n)) ∙ suc_ℤ-*ℤ (m +ℤ pos n) k ∙ ap (λ x. x +ℤ k) (times-sum m (pos n) k) ∙ +ℤ_assoc (m *ℤ k) (pos n *ℤ k) k
    ∙ ap (λ x. m *ℤ k +ℤ x) (sym (suc_ℤ-*ℤ (pos n) k))
times-sum m (negsuc zero) k =
    ap (λ x. x *ℤ k) (-ℤ_one m) ∙ pred_ℤ-*ℤ m k ∙ ap (λ x. m *ℤ k +ℤ x) (sym (pred_ℤ-*ℤ (pos zero) k ∙ ap (λ x. x -ℤ k) (zero-*ℤ k) ∙ +ℤ_idl (neg_ℤ k)))
times-sum m (negsuc (suc n)) k =
    ap (λ x. x *ℤ k) (+ℤ-pred_ℤ m (negsuc n)) ∙ pred_ℤ-*ℤ (m +ℤ negsuc n) k ∙ ap (λ x. x -ℤ k) (times-sum m (negsuc n) k) ∙ +ℤ_assoc (m *ℤ k) (negsuc n *ℤ k) (neg_ℤ k)
    ∙ ap (λ x. m *ℤ k +ℤ x) (sym (pred_ℤ-*ℤ (negsuc n) k))

sum-times : (k m z : ℤ) → k *ℤ (m +ℤ z) ≡ k *ℤ m +ℤ k *ℤ z
sum-times k m z = *ℤ_comm k (m +ℤ z) ∙ times-sum m z k ∙ (λ i. *ℤ_comm m k i +ℤ *ℤ_comm z k i)

-- a difference by way of a third number
by_way : (m n k : ℤ) → m -ℤ k ≡ (n -ℤ k) +ℤ (m -ℤ n)
by_way m n k = ap (λ x. x -ℤ k) (sym (-ℤ-+ℤ_cancel m n)) ∙ +ℤ_assoc (m -ℤ n) n (neg_ℤ k) ∙ +ℤ_comm (m -ℤ n) (n -ℤ k)

-- a difference of sums
sums_apart : (s t u v : ℤ) → (s +ℤ t) -ℤ (u +ℤ v) ≡ (s -ℤ u) +ℤ (t -ℤ v)
sums_apart s t u v =
    ap (λ x. s +ℤ t +ℤ x) (neg_ℤ-+ℤ u v) ∙ +ℤ_assoc s t (neg_ℤ u +ℤ neg_ℤ v)
    ∙ ap (λ x. s +ℤ x) (sym (+ℤ_assoc t (neg_ℤ u) (neg_ℤ v)) ∙ ap (λ x. x +ℤ neg_ℤ v) (+ℤ_comm t (neg_ℤ u)) ∙ +ℤ_assoc (neg_ℤ u) t (neg_ℤ v))
    ∙ sym (+ℤ_assoc s (neg_ℤ u) (t -ℤ v))

-- what is smaller in size does not change a sign
sign-stays : (z w : ℤ) → nat_abs w < nat_abs z → non_neg (z +ℤ w) ≡ non_neg z
sign-stays (pos a) (pos b) h = refl
sign-stays (pos a) (negsuc b) h = ap non_neg (subℕ-pos {m = a} {n = suc b} (omega arith))
sign-stays (negsuc a) (pos b) h = ap non_neg (subℕ_neg {m = b} {n = suc a} h)
sign-stays (negsuc a) (negsuc b) h = refl

-- nor does it where something positive is added
raised : (z v : ℤ) {u : ℤ} {n : ℕ} → non_neg z ≡ true → nat_abs v < nat_abs z → u ≡ pos n → non_neg (z +ℤ (u -ℤ v)) ≡ true
raised z v {u} {n} e h f =
    ap non_neg (ap (λ x. z +ℤ x) (+ℤ_comm u (neg_ℤ v)) ∙ sym (+ℤ_assoc z (neg_ℤ v) u)) ∙ ap (λ x. non_neg (z -ℤ v +ℤ x)) f
    ∙ go (z -ℤ v) (sign-stays z (neg_ℤ v) (subst⁻¹ (λ k. k < nat_abs z) (nat_abs_neg v) h) ∙ e)
  where
    go : (w : ℤ) → non_neg w ≡ true → non_neg (w +ℤ pos n) ≡ true
    go (pos m) k = refl
    go (negsuc m) k = absurd (false≢true k)

-- ---- side values

pub nat_abs_gap : (m n : ℕ) → nat_abs (diff m n) ≡ max n m - min n m
nat_abs_gap m n = ⊎_elim (λ h. ap nat_abs (diff-pos h) ∙ omega arith) (λ h. ap nat_abs (diff_neg h) ∙ omega arith) (le_or_lt n m)

moved : (a b p q : Position) → cross a b q ≡ cross a b p +ℤ (diff b.x a.x *ℤ diff q.y p.y -ℤ diff b.y a.y *ℤ diff q.x p.x)
unfolding cross
moved a b p q =
    (λ i. diff b.x a.x *ℤ by_way (pos q.y) (pos p.y) (pos a.y) i -ℤ diff b.y a.y *ℤ by_way (pos q.x) (pos p.x) (pos a.x) i)
    ∙ (λ i. sum-times (diff b.x a.x) (diff p.y a.y) (diff q.y p.y) i -ℤ sum-times (diff b.y a.y) (diff p.x a.x) (diff q.x p.x) i)
    ∙ sums_apart (diff b.x a.x *ℤ diff p.y a.y) (diff b.x a.x *ℤ diff q.y p.y) (diff b.y a.y *ℤ diff p.x a.x) (diff b.y a.y *ℤ diff q.x p.x)

-- the middles of two columns, or rows, of which one is the other or beside it
beside : (x d : ℕ) → d ≤ 2 → 1 ≤ x + d → nat_abs (diff (middle_of (x + d - 1)) (middle_of x)) ≤ pixels_per_walk_cell
beside x d h k = omega (arith, nat_abs_gap (middle_of (x + d - 1)) (middle_of x))

-- a step between two centres on the same side is not cut
same_side_lem : (s : Segment) (p q : Position) → non_neg (side_of s q) ≡ non_neg (side_of s p) → cuts s p q ≡ false
unfolding cuts
same_side_lem s p q e =
    ap (λ t. not t && segments_intersect s.a s.b (cell_center p) (cell_center q)) (ap (beq (non_neg (side_of s p))) e ∙ alike (non_neg (side_of s p)))
  where
    alike : (t : Bool) → beq t t ≡ true
    alike true = refl
    alike false = refl

module _ (s : Segment) (p d : Position) (hx : d.x ≤ 2) (hy : d.y ≤ 2) (kx : 1 ≤ p.x + d.x) (ky : 1 ≤ p.y + d.y) where
  abbrev run : ℤ
  run = diff s.b.x s.a.x

  abbrev rise : ℤ
  rise = diff s.b.y s.a.y

  abbrev eastward : ℤ
  eastward = diff (middle_of (p.x + d.x - 1)) (middle_of p.x)

  abbrev southward : ℤ
  southward = diff (middle_of (p.y + d.y - 1)) (middle_of p.y)

  along_x_lem : nat_abs (rise *ℤ eastward) ≤ pixels_per_walk_cell * nat_abs rise
  along_x_lem = omega (arith, nat_abs_product rise eastward, mul-le-mul (le_refl (nat_abs rise)) (beside p.x d.x hx kx))

  stays : non_neg (side_of s p +ℤ (run *ℤ southward -ℤ rise *ℤ eastward)) ≡ non_neg (side_of s p) → cuts s p (toward p d) ≡ false
  stays e = same_side_lem s p (toward p d) (ap non_neg (moved s.a s.b (cell_center p) (cell_center (toward p d))) ∙ e)

  pub off-both : pixels_per_walk_cell * (nat_abs run + nat_abs rise) < nat_abs (side_of s p) → cuts s p (toward p d) ≡ false
  off-both h =
      stays (sign-stays (side_of s p) (run *ℤ southward -ℤ rise *ℤ eastward) (omega (arith, small, h)))
    where
      small : nat_abs (run *ℤ southward -ℤ rise *ℤ eastward) ≤ pixels_per_walk_cell * (nat_abs run + nat_abs rise)
      small = omega (arith, nat_abs_difference (run *ℤ southward) (rise *ℤ eastward), nat_abs_product run southward, mul-le-mul (le_refl (nat_abs run)) (beside p.y d.y hy ky), along_x_lem)

  pub off-row : d.y ≡ 1 → pixels_per_walk_cell * nat_abs rise < nat_abs (side_of s p) → cuts s p (toward p d) ≡ false
  off-row e h =
      stays (sign-stays (side_of s p) (run *ℤ southward -ℤ rise *ℤ eastward) (omega (arith, small, h)))
    where
      still : nat_abs southward ≤ 0
      still = omega (arith, nat_abs_gap (middle_of (p.y + d.y - 1)) (middle_of p.y), e)

      small : nat_abs (run *ℤ southward -ℤ rise *ℤ eastward) ≤ pixels_per_walk_cell * nat_abs rise
      small = omega (arith, nat_abs_difference (run *ℤ southward) (rise *ℤ eastward), nat_abs_product run southward, mul-le-mul (le_refl (nat_abs run)) still, along_x_lem)

  pub off-south : s.a.x ≤ s.b.x → 1 ≤ d.y → non_neg (side_of s p) ≡ true → pixels_per_walk_cell * nat_abs rise < nat_abs (side_of s p) → cuts s p (toward p d) ≡ false
  off-south o j n h =
      stays (raised (side_of s p) (rise *ℤ eastward) n (omega (arith, along_x_lem, h)) grown ∙ sym n)
    where
      grown : run *ℤ southward ≡ pos ((s.b.x - s.a.x) * (middle_of (p.y + d.y - 1) - middle_of p.y))
      grown = λ i. diff-pos o i *ℤ diff-pos {m = middle_of (p.y + d.y - 1)} {n = middle_of p.y} (omega (arith, j)) i

-- ---- of a span as the code has it

module _ {g : SpanGeometry} (G : Sound g) (p : Position) {z : ℤ} (f : z ≡ side_of (segment_of g) p) where
  run_is : nat_abs (diff g.ends.b.x g.ends.a.x) ≡ g.max_x - g.min_x
  run_is = nat_abs_gap g.ends.b.x g.ends.a.x ∙ sym (λ i. G.max-x i - G.min-x i)

  rise_is : nat_abs (diff g.ends.b.y g.ends.a.y) ≡ g.max_y - g.min_y
  rise_is = nat_abs_gap g.ends.b.y g.ends.a.y ∙ sym (λ i. G.max-y i - G.min-y i)

  over : {b : ℕ} → ltb b (nat_abs z) ≡ true → b < nat_abs (side_of (segment_of g) p)
  over {b} t = subst (λ n. b < n) (ap nat_abs f) (ltb-true b (nat_abs z) t)

  pub far-span :
      {b c : ℕ} {t u v : Bool} → b ≡ pixels_per_walk_cell * (g.max_x - g.min_x + (g.max_y - g.min_y)) → c ≡ pixels_per_walk_cell * (g.max_y - g.min_y)
      → t ≡ ltb b (nat_abs z) → u ≡ non_neg z → v ≡ ltb c (nat_abs z) → (t || (u && v)) ≡ true → Far (segment_of g) p
  far-span {t = true} i j k l m e d hx hy o kx ky =
      off-both (segment_of g) p d hx hy kx ky (omega (arith, over (sym k), i, run_is, rise_is))
  far-span {t = false} {u = true} {v = true} i j k l m e d hx hy o kx ky =
      off-south (segment_of g) p d hx hy kx ky G.ordered (omega (arith, o)) (sym (l ∙ ap non_neg f)) (omega (arith, over (sym m), j, rise_is))
  far-span {t = false} {u = true} {v = false} i j k l m e d hx hy o kx ky = absurd (false≢true e)
  far-span {t = false} {u = false} i j k l m e d hx hy o kx ky = absurd (false≢true e)

  pub far-east : {c : ℕ} → c ≡ pixels_per_walk_cell * (g.max_y - g.min_y) → ltb c (nat_abs z) ≡ true → Uncut (segment_of g) p (at 2 1)
  far-east j e kx ky = off-row (segment_of g) p (at 2 1) (omega arith) (omega arith) kx ky refl (omega (arith, over e, j, rise_is))
