-- Which cells are past a strip's line, and that between its ends a step is cut exactly where one of its cells is past the line and the other is not (`cut-between`).
-- Assumes nothing.
use mathlib.Core.Path.{◌≡◌, refl, sym, ap, ap₂, ◌∙◌}
use mathlib.Core.Logic.{⊎_elim}
use mathlib.Core.Bool.{Bool, true, false, not, ◌&&◌, beq, cond, true≢false, false≢true}
use Prim.Native.Nat.{ℕ, ◌+◌, ◌-◌, ◌*◌, ◌≤◌, ◌<◌}
use native.Mathlib.Nat.{mul-add, mul_comm, mul-le-mul_left}
use native.Mathlib.Omega.{arith}
use lib.Dec.{leb}
use lib.Signed.{non_neg}
use borrow.Author.Tests.{le-leb, lt-leb}
use Rattle.definitions.specs.Grid.{Position, at, Segment}
use Rattle.definitions.specs.Spans.{pixels_per_walk_cell, cross, middle_of, cell_center, segments_intersect, cuts}
use Rattle.span_geometry.specs.declared.strips.Strip.{Strip}
use Rattle.span_geometry.specs.Strips.{Usable, by_columns, strip_by_columns, strip_of}
use Rattle.span_geometry.specs.Candidates.{cell_of}
use Rattle.laws.specs.NumberLaws.Comparisons.{le_or_lt}
use Rattle.line_crossings.proofs.Differences.{non_neg_diff}
use Rattle.line_crossings.proofs.Sides.{Meet, meet_true, meet-between}
use Rattle.line_crossings.proofs.AlongColumns.{along-columns, along-columns-side}
use Rattle.line_crossings.proofs.AlongRowsDown.{along-rows-down, along-rows-down-side}
use Rattle.line_crossings.proofs.AlongRowsUp.{along-rows-up, along-rows-up-side}
use Rattle.line_crossings.specs.Crossings.{Between, tie_of, Crossing}

-- ---- naturals

leb-add : (a b k : ℕ) → leb (a + k) (b + k) ≡ leb a b
leb-add a b k = ⊎_elim (λ h. le-leb (a + k) (b + k) (omega arith) ∙ sym (le-leb a b h)) (λ h. lt-leb (a + k) (b + k) (omega arith) ∙ sym (lt-leb a b h)) (le_or_lt a b)

-- of a total N up to the first place m past it, the other places are decided
threshold : (R N m rest i : ℕ) → N + rest ≡ R * middle_of m → rest < pixels_per_walk_cell * R → leb N (R * middle_of i) ≡ leb m i
threshold R N m rest i e l = ⊎_elim past before (le_or_lt m i)
  where
    past : m ≤ i → leb N (R * middle_of i) ≡ leb m i
    past h = le-leb N (R * middle_of i) (omega (arith, mul-le-mul_left {m = middle_of m} {n = middle_of i} R (omega arith))) ∙ sym (le-leb m i h)

    before : i < m → leb N (R * middle_of i) ≡ leb m i
    before h =
        lt-leb N (R * middle_of i) (omega (arith, mul-add R (middle_of i) 8, mul-le-mul_left {m = middle_of i + 8} {n = middle_of m} R (omega arith))) ∙ sym (lt-leb m i h)

-- the line's total, from a comparison of side values
total_is : (R e f u : ℕ) → u ≤ R → R * e + f * u ≡ e * (R - u) + f * u + e * u
total_is R e f u h =
    let whole : R - u + u ≡ R = omega arith in
    omega (arith, mul-add e (R - u) u, ap (λ x. e * x) whole, mul_comm R e)

over : (R e f u c : ℕ) → u ≤ R → leb (R * e + f * u) (R * c + e * u) ≡ leb (e * (R - u) + f * u) (R * c)
over R e f u c h = ap (λ x. leb x (R * c + e * u)) (total_is R e f u h) ∙ leb-add (e * (R - u) + f * u) (R * c) (e * u)

under : (R e f u c : ℕ) → u ≤ R → leb (R * c + e * u) (R * e + f * u) ≡ not (leb (e * (R - u) + f * u + 1) (R * c))
under R e f u c h = ap (leb (R * c + e * u)) (total_is R e f u h) ∙ leb-add (R * c) N (e * u) ∙ ⊎_elim (λ i. le-leb (R * c) N i ∙ sym (ap not (lt-leb (N + 1) (R * c) (omega arith)))) (λ i. lt-leb (R * c) N i ∙ sym (ap not (le-leb (N + 1) (R * c) (omega arith)))) (le_or_lt (R * c) N)
  where
    N : ℕ
    N = e * (R - u) + f * u

-- ---- a cut step, by its two sides

cut_is : (s : Segment) (p q : Position) → ((non_neg (cross s.a s.b (cell_center p)) ≡ non_neg (cross s.a s.b (cell_center q)) → ⊥) → Meet s.a s.b (cell_center p) (cell_center q)) → {same : Bool} → beq (non_neg (cross s.a s.b (cell_center p))) (non_neg (cross s.a s.b (cell_center q))) ≡ same → cuts s p q ≡ not same
unfolding cuts
cut_is s p q meet e =
    go (non_neg (cross s.a s.b (cell_center p))) (non_neg (cross s.a s.b (cell_center q))) (λ n. meet_true s.a s.b (cell_center p) (cell_center q) (meet n)) ∙ ap not e
  where
    go : (x y : Bool) → ((x ≡ y → ⊥) → segments_intersect s.a s.b (cell_center p) (cell_center q) ≡ true) → (not (beq x y) && segments_intersect s.a s.b (cell_center p) (cell_center q)) ≡ not (beq x y)
    go true true m = refl
    go false false m = refl
    go true false m = m (λ e. absurd (true≢false e))
    go false true m = m (λ e. absurd (false≢true e))

not_both_lem : (x y : Bool) → beq (not x) (not y) ≡ beq x y
not_both_lem true true = refl
not_both_lem true false = refl
not_both_lem false true = refl
not_both_lem false false = refl

-- ---- the three ways of a strip

-- the strip of a segment, by columns or by rows, and in rows whether a is the end above
abbrev strip_in : Bool → Bool → Segment → Strip
strip_in columns down s =
    cond columns (strip_by_columns s)
    (record { columns = false; major0 = (cond down s.a s.b).y; minor0 = (cond down s.a s.b).x; major1 = (cond down s.b s.a).y; minor1 = (cond down s.b s.a).x })

abbrev tie_in : Bool → Bool → ℕ
tie_in columns down = cond columns 0 (cond down 1 0)

module _ (s : Segment) {k l m n y z : ℕ} (i j : ℕ) where
  in-columns :
      s.a.x < s.b.x → Between (strip_in true true s) k → Between (strip_in true true s) l → Crossing (strip_in true true s) 0 k m y → Crossing (strip_in true true s) 0 l n z
      → cuts s (at k i) (at l j) ≡ not (beq (leb m i) (leb n j))
  in-columns o B C P Q =
      cut_is s (at k i) (at l j)
      (meet-between (along-columns s.a s.b (cell_center (at k i)) (cell_center (at l j)) B.from B.to C.from C.to) (omega arith) (omega (arith, B.to)) (omega (arith, C.to)))
      (ap₂ beq (side k i m y B P) (side l j n z C Q))
    where
      side : (k i m y : ℕ) → Between (strip_in true true s) k → Crossing (strip_in true true s) 0 k m y → non_neg (cross s.a s.b (cell_center (at k i))) ≡ leb m i
      side k i m y B P =
          let R = s.b.x - s.a.x in
          let u = middle_of k - s.a.x in
          ap non_neg (along-columns-side s.a s.b (cell_center (at k i)) B.from B.to) ∙ non_neg_diff (R * middle_of i + s.a.y * u) (R * s.a.y + s.b.y * u)
          ∙ over R s.a.y s.b.y u (middle_of i) (omega (arith, B.to)) ∙ threshold R (s.a.y * (R - u) + s.b.y * u) m y i (omega (arith, P.total)) P.less

  in-rows-down :
      s.a.y < s.b.y → Between (strip_in false true s) k → Between (strip_in false true s) l → Crossing (strip_in false true s) 1 k m y → Crossing (strip_in false true s) 1 l n z
      → cuts s (at i k) (at j l) ≡ not (beq (leb m i) (leb n j))
  in-rows-down o B C P Q =
      cut_is s (at i k) (at j l)
      (meet-between (along-rows-down s.a s.b (cell_center (at i k)) (cell_center (at j l)) B.from B.to C.from C.to) (omega arith) (omega (arith, B.to)) (omega (arith, C.to)))
      (ap₂ beq (side k i m y B P) (side l j n z C Q) ∙ not_both_lem (leb m i) (leb n j))
    where
      side : (k i m y : ℕ) → Between (strip_in false true s) k → Crossing (strip_in false true s) 1 k m y → non_neg (cross s.a s.b (cell_center (at i k))) ≡ not (leb m i)
      side k i m y B P =
          let R = s.b.y - s.a.y in
          let u = middle_of k - s.a.y in
          ap non_neg (along-rows-down-side s.a s.b (cell_center (at i k)) B.from B.to) ∙ non_neg_diff (R * s.a.x + s.b.x * u) (R * middle_of i + s.a.x * u)
          ∙ under R s.a.x s.b.x u (middle_of i) (omega (arith, B.to)) ∙ ap not (threshold R (s.a.x * (R - u) + s.b.x * u + 1) m y i (omega (arith, P.total)) P.less)

  in-rows-up :
      s.b.y < s.a.y → Between (strip_in false false s) k → Between (strip_in false false s) l → Crossing (strip_in false false s) 0 k m y → Crossing (strip_in false false s) 0 l n z
      → cuts s (at i k) (at j l) ≡ not (beq (leb m i) (leb n j))
  in-rows-up o B C P Q =
      cut_is s (at i k) (at j l)
      (meet-between (along-rows-up s.a s.b (cell_center (at i k)) (cell_center (at j l)) B.from B.to C.from C.to) (omega arith) (omega (arith, B.to)) (omega (arith, C.to)))
      (ap₂ beq (side k i m y B P) (side l j n z C Q))
    where
      side : (k i m y : ℕ) → Between (strip_in false false s) k → Crossing (strip_in false false s) 0 k m y → non_neg (cross s.a s.b (cell_center (at i k))) ≡ leb m i
      side k i m y B P =
          let R = s.a.y - s.b.y in
          let u = middle_of k - s.b.y in
          ap non_neg (along-rows-up-side s.a s.b (cell_center (at i k)) B.from B.to) ∙ non_neg_diff (R * middle_of i + s.b.x * u) (R * s.b.x + s.a.x * u)
          ∙ over R s.b.x s.a.x u (middle_of i) (omega (arith, B.to)) ∙ threshold R (s.b.x * (R - u) + s.a.x * u) m y i (omega (arith, P.total)) P.less

  pub cut-between :
      Usable (strip_of s) → Between (strip_of s) k → Between (strip_of s) l → Crossing (strip_of s) (tie_of s) k m y → Crossing (strip_of s) (tie_of s) l n z
      → cuts s (cell_of (strip_of s) k i) (cell_of (strip_of s) l j) ≡ not (beq (leb m i) (leb n j))
  cut-between = go (by_columns s) (leb s.a.y s.b.y)
    where
      go :
          (t u : Bool) → Usable (strip_in t u s) → Between (strip_in t u s) k → Between (strip_in t u s) l → Crossing (strip_in t u s) (tie_in t u) k m y → Crossing (strip_in t u s) (tie_in t u) l n z
          → cuts s (cell_of (strip_in t u s) k i) (cell_of (strip_in t u s) l j) ≡ not (beq (leb m i) (leb n j))
      go true u U = in-columns U.forward
      go false true U = in-rows-down U.forward
      go false false U = in-rows-up U.forward
