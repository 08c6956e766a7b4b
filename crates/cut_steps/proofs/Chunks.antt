-- The spans of a list, four numbers each, as `as_chunks` gives them. Assumes nothing.
use Prim.Native.Nat.{ℕ, zero, suc, ◌+◌, ◌*◌, ◌/◌, ◌≤◌, ◌<◌}
use native.Mathlib.Omega.{arith}
use mathlib.Core.Path.{◌≡◌, ap, ◌∙◌, subst}
use mathlib.Core.List.{List, []}
use lib.ListN.{length, get_or, drop, length-drop}
use lib.Seq.{length-take-le}
use Rattle.std.proofs.Common.{get_or-drop, get_or-take}
use Rattle.std.specs.Simd.{first_chunks}
use Rattle.definitions.specs.Limits.{numbers_per_span}
use Rattle.definitions.specs.Grid.{at, segment_at}
use Rattle.span_geometry.specs.declared.SpanGeometry.{SpanGeometry}
use Rattle.span_geometry.specs.Shapes.{Made}
use Rattle.cut_steps.specs.Marking.{SpanAtAsked}

four_at : (k i j : ℕ) (l : List ℕ) → i < k → j < 4 → get_or (get_or (first_chunks 4 k l) i []) j 0 ≡ get_or l (4 * i + j) 0
four_at zero i j l h m = absurd (omega arith)
four_at (suc k) zero j l h m = get_or-take 4 l j 0 m ∙ ap (λ n. get_or l n 0) (omega arith)
four_at (suc k) (suc i) j l h m = four_at k i j (drop 4 l) (omega arith) m ∙ get_or-drop 4 l (4 * i + j) 0 ∙ ap (λ n. get_or l n 0) (omega arith)

long_four : (k i : ℕ) (l : List ℕ) → i < k → 4 * k ≤ length l → length (get_or (first_chunks 4 k l) i []) ≡ 4
long_four zero i l h m = absurd (omega arith)
long_four (suc k) zero l h m = length-take-le 4 l (omega arith)
long_four (suc k) (suc i) l h m = long_four k i (drop 4 l) (omega arith) (omega (arith, m, length-drop 4 l))

module _ (spans : List ℕ) {chunks : List (List ℕ)} (e : chunks ≡ first_chunks 4 (length spans / 4) spans) {i : ℕ} (h : i < length spans / 4) where
  number_at : (j : ℕ) → j < 4 → get_or (get_or chunks i []) j 0 ≡ get_or spans (4 * i + j) 0
  number_at j m = ap (λ l. get_or (get_or l i []) j 0) e ∙ four_at (length spans / 4) i j spans h m

  pub segment_is : segment_at (get_or chunks i []) 0 ≡ segment_at spans (numbers_per_span * i)
  segment_is = λ t. record { a = at (first t) (number_at 1 (omega arith) t); b = at (number_at 2 (omega arith) t) (number_at 3 (omega arith) t) }
    where
      first : get_or (get_or chunks i []) 0 0 ≡ get_or spans (numbers_per_span * i) 0
      first = number_at 0 (omega arith) ∙ ap (λ k. get_or spans k 0) (omega arith)

  pub chunk-asked : SpanAtAsked spans i → SpanAtAsked (get_or chunks i []) 0
  chunk-asked A =
      let s = segment_is in
      let long = ap (λ l. length (get_or l i [])) e ∙ long_four (length spans / 4) i spans h (omega arith) in
      record {
        there = omega (arith, long);
        x0 = omega (arith, A.x0, ap (λ s. s.a.x) s);
        y0 = omega (arith, A.y0, ap (λ s. s.a.y) s);
        x1 = omega (arith, A.x1, ap (λ s. s.b.x) s);
        y1 = omega (arith, A.y1, ap (λ s. s.b.y) s);
      }

  pub chunk-made : {g : SpanGeometry} → Made (segment_at (get_or chunks i []) 0) g → Made (segment_at spans (numbers_per_span * i)) g
  chunk-made {g} = subst (λ s. Made s g) segment_is
