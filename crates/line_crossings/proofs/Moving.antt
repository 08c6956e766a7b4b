-- The line's total from one column, or row, to the next, and the first place past it, at first and from one to the next. Assumes nothing.
use mathlib.Core.Path.{◌≡◌, ap, ◌∙◌}
use mathlib.Core.Logic.{⊎_elim}
use Prim.Native.Nat.{ℕ, ◌+◌, ◌-◌, ◌*◌, ◌/◌, ◌%◌, ◌≤◌, ◌<◌}
use native.Mathlib.Nat.{le_refl, mul-add, mul_comm, mul_assoc, mul-le-mul, div-add-mod', mod-lt}
use native.Mathlib.Omega.{arith}
use Rattle.definitions.specs.Spans.{middle_of}
use Rattle.span_geometry.specs.declared.strips.Strip.{Strip}
use Rattle.span_geometry.specs.Strips.{Usable}
use Rattle.laws.specs.NumberLaws.Comparisons.{le_or_lt}
use Rattle.line_crossings.specs.Crossings.{run_of, reached, line_total, Between, Crossing, Gentle}

-- ---- the first place

places : (R m : ℕ) → R * middle_of m ≡ m * (8 * R) + R * 4
places R m = omega (arith, mul-add R (m * 8) 4, mul_comm R (m * 8), mul_assoc m 8 R)

pub at_first : (R N q : ℕ) → 0 < R → q ≡ N + (8 * R / 2 - 1) → (N + (8 * R - 1 - q % (8 * R)) ≡ R * middle_of (q / (8 * R))) × (8 * R - 1 - q % (8 * R) < 8 * R)
at_first R N q r e =
    let d : 0 < 8 * R = omega arith in
    (omega (arith, places R (q / (8 * R)), div-add-mod' q (8 * R), mod-lt q d, e), omega arith)

-- ---- the next one

one_more : (R m : ℕ) → R * middle_of (m + 1) ≡ R * middle_of m + R * 8
one_more R m =
    let e : middle_of (m + 1) ≡ middle_of m + 8 = omega arith in
    ap (λ x. R * x) e ∙ mul-add R (middle_of m) 8

module _ {t : Strip} {k : ℕ} (B : Between t k) (C : Between t (k + 1)) where
  pub total_next : line_total t (reached t (k + 1)) + 8 * t.minor0 ≡ line_total t (reached t k) + 8 * t.minor1
  total_next =
      let further : reached t (k + 1) ≡ reached t k + 8 = omega (arith, B.from) in
      let left : run_of t - reached t k ≡ (run_of t - reached t (k + 1)) + 8 = omega (arith, B.from, C.to) in
      omega (arith, ap (λ x. t.minor1 * x) further, mul-add t.minor1 (reached t k) 8, ap (λ x. t.minor0 * x) left, mul-add t.minor0 (run_of t - reached t (k + 1)) 8)

-- how large they are
pub products : {t : Strip} → Usable t → (u : ℕ) → u ≤ run_of t → (t.minor0 * (run_of t - u) ≤ 67108864) × (t.minor1 * u ≤ 67108864)
products {t} U u h =
    let small : run_of t ≤ 8192 = omega (arith, U.major_in) in (
      mul-le-mul {n₁ = t.minor0} {m₁ = run_of t - u} {n₂ = 8192} {m₂ = 8192} (omega (arith, U.minor0_in)) (omega (arith, small)),
      mul-le-mul {n₁ = t.minor1} {m₁ = u} {n₂ = 8192} {m₂ = 8192} (omega (arith, U.minor1_in)) (omega (arith, small)),
    )

pub small : {t : Strip} {tie k m rest : ℕ} → Usable t → Between t k → tie ≤ 1 → Crossing t tie k m rest → m ≤ 134300000
small {t} {tie} {k} {m} {rest} U B h P =
    let far : reached t k ≤ run_of t = omega (arith, B.to) in
    let one : 1 ≤ run_of t = omega (arith, U.forward) in
    let most : 8 * run_of t ≤ 65536 = omega (arith, U.major_in) in
    omega (arith, mul-le-mul {n₁ = 1} {m₁ = middle_of m} {n₂ = run_of t} {m₂ = middle_of m} one (le_refl (middle_of m)), products U (reached t k) far, P.total, P.less)

-- ---- by numbers alone: the totals L and N, the next one, the rise or fall g

module _ (L N tie rest R e f m g : ℕ) (next : N + 8 * e ≡ L + 8 * f) (total : L + tie + rest ≡ R * middle_of m) (less : rest < 8 * R) where
  up : f ≡ e + g → g ≤ R → rest < 8 * g → (N + tie + (rest + (8 * R - 8 * g)) ≡ R * middle_of (m + 1)) × (rest + (8 * R - 8 * g) < 8 * R)
  up a b c = (omega (arith, one_more R m), omega arith)

  along : f ≡ e + g → 8 * g ≤ rest → (N + tie + (rest - 8 * g) ≡ R * middle_of m) × (rest - 8 * g < 8 * R)
  along a c = (omega arith, omega arith)

  back : e ≡ f + g → rest + 8 * g < 8 * R → (N + tie + (rest + 8 * g) ≡ R * middle_of m) × (rest + 8 * g < 8 * R)
  back a c = (omega arith, c)

  some : e ≡ f + g → 8 * R ≤ rest + 8 * g → 1 ≤ m
  some a c = ⊎_elim (λ h. h) (λ h. let z : m ≡ 0 = omega arith in absurd (omega (arith, ap (λ x. R * middle_of x) z))) (le_or_lt 1 m)

  down : e ≡ f + g → g ≤ R → 8 * R ≤ rest + 8 * g → (N + tie + (rest + 8 * g - 8 * R) ≡ R * middle_of (m - 1)) × (rest + 8 * g - 8 * R < 8 * R)
  down a b c =
      let s = some a c in
      let e : m - 1 + 1 ≡ m = omega arith in
      (omega (arith, one_more R (m - 1), ap (λ x. R * middle_of x) e), omega arith)

-- ---- of a strip

module _ {t : Strip} {tie k m rest : ℕ} (B : Between t k) (C : Between t (k + 1)) (P : Crossing t tie k m rest) where
  abbrev made : {m rest : ℕ} → (line_total t (reached t (k + 1)) + tie + rest ≡ run_of t * middle_of m) × (rest < 8 * run_of t) → Crossing t tie (k + 1) m rest
  made p = record { total = p.0; less = p.1 }

  pub goes-up : Gentle t → t.minor0 ≤ t.minor1 → rest < 8 * (t.minor1 - t.minor0) → Crossing t tie (k + 1) (m + 1) (rest + (8 * run_of t - 8 * (t.minor1 - t.minor0)))
  goes-up G o h =
      made (up (line_total t (reached t k)) (line_total t (reached t (k + 1))) tie rest (run_of t) t.minor0 t.minor1 m (t.minor1 - t.minor0) (total_next B C) P.total P.less (omega arith) (omega (arith, G)) h)

  pub goes-along : t.minor0 ≤ t.minor1 → 8 * (t.minor1 - t.minor0) ≤ rest → Crossing t tie (k + 1) m (rest - 8 * (t.minor1 - t.minor0))
  goes-along o h =
      made (along (line_total t (reached t k)) (line_total t (reached t (k + 1))) tie rest (run_of t) t.minor0 t.minor1 m (t.minor1 - t.minor0) (total_next B C) P.total P.less (omega arith) h)

  pub goes_back : t.minor1 < t.minor0 → rest + 8 * (t.minor0 - t.minor1) < 8 * run_of t → Crossing t tie (k + 1) m (rest + 8 * (t.minor0 - t.minor1))
  goes_back o h =
      made (back (line_total t (reached t k)) (line_total t (reached t (k + 1))) tie rest (run_of t) t.minor0 t.minor1 m (t.minor0 - t.minor1) (total_next B C) P.total P.less (omega arith) h)

  pub is_some : t.minor1 < t.minor0 → 8 * run_of t ≤ rest + 8 * (t.minor0 - t.minor1) → 1 ≤ m
  is_some o h =
      some (line_total t (reached t k)) (line_total t (reached t (k + 1))) tie rest (run_of t) t.minor0 t.minor1 m (t.minor0 - t.minor1) (total_next B C) P.total P.less (omega arith) h

  pub goes_down : Gentle t → t.minor1 < t.minor0 → 8 * run_of t ≤ rest + 8 * (t.minor0 - t.minor1) → Crossing t tie (k + 1) (m - 1) (rest + 8 * (t.minor0 - t.minor1) - 8 * run_of t)
  goes_down G o h =
      made (down (line_total t (reached t k)) (line_total t (reached t (k + 1))) tie rest (run_of t) t.minor0 t.minor1 m (t.minor0 - t.minor1) (total_next B C) P.total P.less (omega arith) (omega (arith, G)) h)

pub rest_below : (q : ℕ) {d : ℕ} → 0 < d → q % d ≤ d - 1
rest_below q h = omega (arith, mod-lt q h)

pub begins : {t : Strip} {tie k : ℕ} (q : ℕ) → Usable t → q ≡ line_total t (reached t k) + tie + (8 * run_of t / 2 - 1) → Crossing t tie k (q / (8 * run_of t)) (8 * run_of t - 1 - q % (8 * run_of t))
begins {t} {tie} {k} q U e =
    let p = at_first (run_of t) (line_total t (reached t k) + tie) q (omega (arith, U.forward)) e in
    record { total = p.0; less = p.1 }
