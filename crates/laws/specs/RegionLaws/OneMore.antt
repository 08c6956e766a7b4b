-- Scans of the numbers below n where one number more passes: what becomes of a count, of whether there is one, of the least and of the most.
-- Each by induction on n: past the number a step is the same of both, at it the scan takes it in, before it both scans are the same. Assumes nothing.
use Prim.Native.Nat.{ℕ, zero, suc, ◌+◌, ◌<◌, min, max}
use Rattle.std.proofs.Common.{arith, add-zero, sym, ap, ap₂, ◌∙◌, ne_eqb}
use Rattle.std.specs.Prelude.{◌≡◌, refl, Bool, true, false, not, ◌&&◌, ◌||◌, eqb}
use Rattle.std.proofs.Math.Bool.{cond, or-false, or-true, and-false}
use Rattle.std.proofs.Math.Logic.{⊎_elim}
use Rattle.definitions.specs.Scan.{any_below_lem, count_below, bit}
use Rattle.definitions.specs.RegionRecord.{least, most}
use Rattle.laws.specs.ListLaws.Below.{below_at, below_ext, count_ext}
use Rattle.laws.specs.RegionLaws.Edges.{least_ext, most_ext}
use Rattle.laws.specs.NumberLaws.Comparisons.{same_or, last_or}
use Rattle.laws.specs.ListLaws.Tests.{neither}

-- q passes c, which p does not, and else what p passes
pub record OneMore (p q : ℕ → Bool) (c : ℕ) : Type 0 where
  pub before : p c ≡ false
  pub after : q c ≡ true
  pub rest : (d : ℕ) → (d ≡ c → ⊥) → q d ≡ p d

module _ {p q : ℕ → Bool} {c : ℕ} (one : OneMore p q c) where
  -- below c they are the same
  below : (n : ℕ) → c ≡ n → (d : ℕ) → d < n → q d ≡ p d
  below n e d l = one.rest d (λ k. omega (arith, k, e))

  here : (n : ℕ) → c ≡ n → (q n ≡ true) × (p n ≡ false)
  here n e = (ap q (sym e) ∙ one.after, ap p (sym e) ∙ one.before)

  past : (n : ℕ) → c < n → q n ≡ p n
  past n l = one.rest n (λ k. omega (arith, k))

  pub count_more : (n : ℕ) → c < n → count_below n q ≡ count_below n p + 1
  unfolding count_below
  count_more zero h = absurd (omega arith)
  count_more (suc n) h = ⊎_elim now (λ l. later l (count_more n l)) (last_or c n h)
    where
      now : c ≡ n → count_below n q + bit (q n) ≡ count_below n p + bit (p n) + 1
      now e = simp (count_ext n q p (below n e), (here n e).0, (here n e).1) (omega arith)

      later : c < n → count_below n q ≡ count_below n p + 1 → count_below n q + bit (q n) ≡ count_below n p + bit (p n) + 1
      later l ih = simp (past n l) (omega arith)

  pub least_more : (f : ℕ → ℕ) (n : ℕ) → c < n → least n q f ≡ cond (any_below_lem n p) (min (least n p f) (f c)) (f c)
  unfolding least any_below_lem
  least_more f zero h = absurd (omega arith)
  least_more f (suc n) h = ⊎_elim now (λ l. later l (least_more f n l)) (last_or c n h)
    where
      now : c ≡ n → least (suc n) q f ≡ cond (any_below_lem (suc n) p) (min (least (suc n) p f) (f c)) (f c)
      now e = simp ((here n e).0, (here n e).1, or-false, below_ext n q p (below n e), least_ext n q p f (below n e), e)

      later : c < n → least n q f ≡ cond (any_below_lem n p) (min (least n p f) (f c)) (f c)
          → least (suc n) q f ≡ cond (any_below_lem (suc n) p) (min (least (suc n) p f) (f c)) (f c)
      later l ih = simp (past n l, below_at n q c l one.after, ih) (go (p n) (any_below_lem n p) (least n p f) (f c) (f n))
        where
          go : (x y : Bool) (a b d : ℕ)
              → cond x (min (cond y (min a b) b) d) (cond y (min a b) b) ≡ cond (y || x) (min (cond x (cond y (min a d) d) a) b) b
          go true true a b d = omega arith
          go true false a b d = omega arith
          go false true a b d = refl
          go false false a b d = refl

  pub most_more : (f : ℕ → ℕ) (n : ℕ) → c < n → most n q f ≡ max (most n p f) (f c)
  unfolding most
  most_more f zero h = absurd (omega arith)
  most_more f (suc n) h = ⊎_elim now (λ l. later l (most_more f n l)) (last_or c n h)
    where
      now : c ≡ n → most (suc n) q f ≡ max (most (suc n) p f) (f c)
      now e = simp ((here n e).0, (here n e).1, most_ext n q p f (below n e), e)

      later : c < n → most n q f ≡ max (most n p f) (f c) → most (suc n) q f ≡ max (most (suc n) p f) (f c)
      later l ih = simp (past n l, ih) (go (p n) (most n p f) (f c) (f n))
        where
          go : (x : Bool) (a b d : ℕ) → cond x (max (max a b) d) (max a b) ≡ max (cond x (max a d) a) b
          go true a b d = omega arith
          go false a b d = refl

-- ---- among those that pass g

module _ {p q : ℕ → Bool} {c : ℕ} (one : OneMore p q c) (g : ℕ → Bool) where
  taken : g c ≡ true → OneMore (λ d. p d && g d) (λ d. q d && g d) c
  taken e = record { before = ap (λ b. b && g c) one.before; after = ap₂ ◌&&◌ one.after e; rest = λ d h. ap (λ b. b && g d) (one.rest d h) }

  passed : g c ≡ false → (d : ℕ) → (q d && g d) ≡ (p d && g d)
  passed e d = ⊎_elim (λ k. ap (λ b. q d && b) (ap g k ∙ e) ∙ and-false (q d) ∙ sym (ap (λ b. p d && b) (ap g k ∙ e) ∙ and-false (p d))) (λ k. ap (λ b. b && g d) (one.rest d k)) (same_or d c)

  pub count-both : (n : ℕ) → c < n → count_below n (λ d. q d && g d) ≡ count_below n (λ d. p d && g d) + bit (g c)
  count-both n h = go (g c) refl
    where
      go : (b : Bool) → g c ≡ b → count_below n (λ d. q d && g d) ≡ count_below n (λ d. p d && g d) + bit b
      go true e = count_more (taken e) n h
      go false e = count_ext n _ _ (λ d l. passed e d) ∙ sym (add-zero _)

  pub any-both : (n : ℕ) → c < n → any_below_lem n (λ d. q d && g d) ≡ (any_below_lem n (λ d. p d && g d) || g c)
  any-both n h = go (g c) refl
    where
      go : (b : Bool) → g c ≡ b → any_below_lem n (λ d. q d && g d) ≡ (any_below_lem n (λ d. p d && g d) || b)
      go true e = below_at n (λ d. q d && g d) c h (ap₂ ◌&&◌ one.after e) ∙ sym (or-true (any_below_lem n (λ d. p d && g d)))
      go false e = below_ext n _ _ (λ d l. passed e d) ∙ sym (or-false (any_below_lem n (λ d. p d && g d)))

-- ---- where none passes

pub any-counted : (p : ℕ → Bool) (n : ℕ) → eqb (count_below n p) 0 ≡ not (any_below_lem n p)
unfolding count_below any_below_lem
any-counted p zero = refl
any-counted p (suc n) = go (p n) (count_below n p) (any_below_lem n p) (any-counted p n)
  where
    go : (x : Bool) (k : ℕ) (y : Bool) → eqb k 0 ≡ not y → eqb (k + bit x) 0 ≡ not (y || x)
    go true k y e = ne_eqb (k + 1) 0 (λ z. omega (arith, z)) ∙ ap not (sym (or-true y))
    go false k y e = ap (λ k. eqb k 0) (add-zero k) ∙ e ∙ ap not (sym (or-false y))

pub most_none : (p : ℕ → Bool) (f : ℕ → ℕ) (n : ℕ) → any_below_lem n p ≡ false → most n p f ≡ 0
unfolding most any_below_lem
most_none p f zero h = refl
most_none p f (suc n) h = simp (neither (any_below_lem n p) (p n) h).1 (most_none p f n (neither (any_below_lem n p) (p n) h).0)

pub least_none : (p : ℕ → Bool) (f : ℕ → ℕ) (n : ℕ) → any_below_lem n p ≡ false → least n p f ≡ 0
unfolding least any_below_lem
least_none p f zero h = refl
least_none p f (suc n) h = simp (neither (any_below_lem n p) (p n) h).1 (least_none p f n (neither (any_below_lem n p) (p n) h).0)
