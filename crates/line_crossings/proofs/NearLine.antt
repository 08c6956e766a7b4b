-- The first place past the line lies near the cell that `candidate_positions` takes the line to be in (`near-line`), and the strip of a segment is no wider than it is long
-- (`strip_gentle`). Assumes nothing.
use mathlib.Core.Path.{◌≡◌, refl, sym, ap, ◌∙◌, subst}
use mathlib.Core.Logic.{⊎_elim}
use mathlib.Core.Bool.{Bool, true, false, cond}
use Prim.Native.Nat.{ℕ, ◌+◌, ◌-◌, ◌*◌, ◌/◌, ◌≤◌, ◌<◌, min, max}
use native.Mathlib.Nat.{mul-add, mul_comm, mul-le-mul_left, div-add-mod', mod-lt}
use native.Mathlib.Omega.{arith}
use lib.Dec.{leb}
use lib.IntN.{pos, ◌+ℤ◌, ◌*ℤ◌}
use lib.Signed.{shr_z}
use borrow.Author.Tests.{leb-true, leb-false}
use Rattle.definitions.specs.Grid.{Segment}
use Rattle.definitions.specs.Spans.{pixels_per_walk_cell, diff, nat_of, middle_of, distance_between}
use Rattle.span_geometry.specs.declared.strips.Strip.{Strip}
use Rattle.span_geometry.specs.Strips.{Usable, by_columns, strip_by_columns, strip_of, line_of}
use Rattle.laws.specs.NumberLaws.Comparisons.{le_or_lt}
use Rattle.line_crossings.proofs.Differences.{diff_eq, pos_is, diff-times, diff-plus}
use Rattle.line_crossings.specs.Crossings.{run_of, reached, line_total, Between, Crossing, Gentle}

-- ---- the line by naturals

line-sum : (R e f u : ℕ) → u ≤ R → pos (e * R) +ℤ diff f e *ℤ diff u 0 ≡ pos (e * (R - u) + f * u)
line-sum R e f u h =
    (λ i. pos_is (e * R) (e * R) 0 (omega arith) i +ℤ diff-times f e u 0 i) ∙ diff-plus (e * R) 0 (f * u + e * 0) (f * 0 + e * u)
    ∙ sym (pos_is (e * (R - u) + f * u) (e * R + (f * u + e * 0)) (0 + (f * 0 + e * u)) (omega (arith, mul-add e (R - u) u, ap (λ x. e * x) whole)))
  where
    whole : R - u + u ≡ R
    whole = omega arith

line_is : {t : Strip} {k : ℕ} → Between t k → line_of t k ≡ line_total t (reached t k) / run_of t
line_is {t} {k} B =
    let clamped : max t.major0 (min (middle_of k) t.major1) ≡ middle_of k = omega (arith, B.from, B.to) in
    let far : diff (max t.major0 (min (middle_of k) t.major1)) t.major0 ≡ diff (reached t k) 0 = diff_eq _ t.major0 (reached t k) 0 (omega (arith, clamped, B.from)) in
    ap (λ z. nat_of (shr_z (pos (t.minor0 * run_of t) +ℤ diff t.minor1 t.minor0 *ℤ z) (run_of t))) far
    ∙ ap (λ z. nat_of (shr_z z (run_of t))) (line-sum (run_of t) t.minor0 t.minor1 (reached t k) (omega (arith, B.to)))

-- ---- places

module _ (R N tie rest m l : ℕ) (one : 1 ≤ R) (low : l * R ≤ N) (high : N < l * R + R) (few : tie ≤ 1) (total : N + tie + rest ≡ R * middle_of m) (less : rest < 8 * R) where
  not-before : l / 8 ≤ m
  not-before = ⊎_elim (λ h. h) (λ h. absurd (omega (arith, mul-le-mul_left {m = middle_of m + 4} {n = l} R (omega arith), mul-add R (middle_of m) 4, mul_comm R l))) (le_or_lt (l / 8) m)

  not_beyond : m ≤ l / 8 + 1
  not_beyond = ⊎_elim (λ h. h) (λ h. absurd (omega (arith, mul-le-mul_left {m = l + 13} {n = middle_of m} R (omega arith), mul-add R l 13, mul_comm R l))) (le_or_lt m (l / 8 + 1))

pub near-line : {t : Strip} {tie k m rest : ℕ} → Usable t → Between t k → tie ≤ 1 → Crossing t tie k m rest → (line_of t k / pixels_per_walk_cell ≤ m) × (m ≤ line_of t k / pixels_per_walk_cell + 1)
near-line {t} {tie} {k} {m} {rest} U B h P = subst (λ l. (l / 8 ≤ m) × (m ≤ l / 8 + 1)) (sym (line_is B)) (not-before R N tie rest m l one low high h P.total P.less, not_beyond R N tie rest m l one low high h P.total P.less)
  where
    R : ℕ
    R = run_of t

    N : ℕ
    N = line_total t (reached t k)

    l : ℕ
    l = N / R

    one : 1 ≤ R
    one = omega (arith, U.forward)

    low : l * R ≤ N
    low = omega (arith, div-add-mod' N R)

    high : N < l * R + R
    high = omega (arith, div-add-mod' N R, mod-lt N one)

-- ---- no wider than long

pub strip_gentle : (s : Segment) → s.a.x ≤ s.b.x → Gentle (strip_of s)
strip_gentle s o = go (by_columns s) (leb s.a.y s.b.y) (leb-true (distance_between s.a.y s.b.y) (distance_between s.a.x s.b.x)) (leb-false (distance_between s.a.y s.b.y) (distance_between s.a.x s.b.x)) (leb-true s.a.y s.b.y) (leb-false s.a.y s.b.y)
  where
    go :
        (t u : Bool) → (t ≡ true → distance_between s.a.y s.b.y ≤ distance_between s.a.x s.b.x) → (t ≡ false → distance_between s.a.x s.b.x < distance_between s.a.y s.b.y)
        → (u ≡ true → s.a.y ≤ s.b.y) → (u ≡ false → s.b.y < s.a.y)
        → Gentle
        (cond t (strip_by_columns s)
        (record { columns = false; major0 = (cond u s.a s.b).y; minor0 = (cond u s.a s.b).x; major1 = (cond u s.b s.a).y; minor1 = (cond u s.b s.a).x }))
    go true u a b c d = let h = a refl in omega (arith, h)
    go false true a b c d = let h = b refl in let i = c refl in omega (arith, h, i)
    go false false a b c d = let h = b refl in let i = d refl in omega (arith, h, i)
