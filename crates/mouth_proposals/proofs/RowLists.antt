-- The rows of a boundary as a list: its first element, the list of none or two rows, and tests of the regions that they name. Assumes nothing.
use Prim.Native.Nat.{ℕ, suc, ◌+◌, ◌-◌, ◌≤◌, ◌<◌}
use native.Mathlib.Omega.{arith}
use native.Mathlib.Numerals.{add-one}
use mathlib.Core.Path.{◌≡◌, refl, sym, ap, ◌∙◌, subst⁻¹}
use mathlib.Core.Bool.{Bool, true, false, not, ◌&&◌, ◌||◌}
use mathlib.Core.List.{List, [], ◌∷◌, map}
use Rattle.definitions.specs.Scan.{run, any, all}
use Rattle.definitions.specs.Grid.{Pair}
use Rattle.definitions.specs.MouthShapes.{regions_of}
use Rattle.context.specs.Shown.{pair_at, pairs_between}
use Rattle.context.specs.Rows.{NamedRow}

pub all_as_any : {A : Type 0} (g : A → Bool) (l : List A) → all g l ≡ not (any (λ x. not (g x)) l)
unfolding all any
all_as_any g [] = refl
all_as_any g (x ∷ l) = ap (λ b. g x && b) (all_as_any g l) ∙ go (g x) (any (λ y. not (g y)) l)
  where
    go : (a b : Bool) → (a && not b) ≡ not (not a || b)
    go true b = refl
    go false b = refl

pub between_cons : (rows : List ℕ) (first end : ℕ) → first < end → pairs_between rows first end ≡ pair_at rows first ∷ pairs_between rows (first + 1) end
unfolding pairs_between run
between_cons rows first end h =
    ap (λ n. map (pair_at rows) (run first n)) (less first end h) ∙ ap (λ k. pair_at rows first ∷ map (pair_at rows) (run k (end - (first + 1)))) (sym (add-one first))
  where
    less : (first end : ℕ) → first < end → end - first ≡ suc (end - (first + 1))
    less first end h = omega arith

pub between-zero : (rows : List ℕ) (first end : ℕ) → end - first ≡ 0 → pairs_between rows first end ≡ []
unfolding pairs_between run
between-zero rows first end e = ap (λ n. map (pair_at rows) (run first n)) e

pub between_two : (rows : List ℕ) (first end : ℕ) → end - first ≡ 2 → pairs_between rows first end ≡ pair_at rows first ∷ pair_at rows (first + 1) ∷ []
unfolding pairs_between run
between_two rows first end e = ap (λ n. map (pair_at rows) (run first n)) e ∙ ap (λ k. pair_at rows first ∷ pair_at rows k ∷ []) (sym (add-one first))

pub two_rows : {p q r s : Pair} → p ≡ r → q ≡ s → p ∷ q ∷ [] ≡ r ∷ s ∷ []
two_rows e f = λ i. e i ∷ f i ∷ []

-- ---- of the regions that the rows name

pub all-regions : (f : ℕ → Bool) (l : List Pair) → all f (regions_of l) ≡ all (λ p. f p.lo && f p.hi) l
unfolding all
all-regions f [] = refl
all-regions f (p ∷ l) = ap (λ b. f p.lo && (f p.hi && b)) (all-regions f l) ∙ go (f p.lo) (f p.hi) (all (λ p. f p.lo && f p.hi) l)
  where
    go : (a b c : Bool) → (a && (b && c)) ≡ ((a && b) && c)
    go true b c = refl
    go false b c = refl

-- a row whose regions two lists number
pub named-lo : {p : Pair} {rows : List ℕ} {a b k : ℕ} → p ≡ pair_at rows k → NamedRow rows a k → NamedRow rows b k → (1 ≤ p.lo) × ((p.lo ≤ a) × (p.lo ≤ b))
named-lo {a} {b} e g h = subst⁻¹ (λ p. (1 ≤ p.lo) × ((p.lo ≤ a) × (p.lo ≤ b))) e (g.lo-pos, (g.lo-le, h.lo-le))

pub named-hi : {p : Pair} {rows : List ℕ} {a b k : ℕ} → p ≡ pair_at rows k → NamedRow rows a k → NamedRow rows b k → (1 ≤ p.hi) × ((p.hi ≤ a) × (p.hi ≤ b))
named-hi {a} {b} e g h = subst⁻¹ (λ p. (1 ≤ p.hi) × ((p.hi ≤ a) × (p.hi ≤ b))) e (g.hi-pos, (g.hi-le, h.hi-le))
