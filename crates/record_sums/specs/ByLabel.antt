-- Counts by label: what passes a test and has a label from 1 to r is, label by label, what passes it and has that label. By induction on r: the cells of label r + 1 are those up
-- to r + 1 that are not up to r. Assumes nothing.
use Rattle.std.specs.Prelude.{ℕ, zero, suc, ◌+◌, ◌≡◌, refl, Bool, true, false, ◌&&◌, eqb, leb}
use Rattle.std.proofs.Common.{arith, sym, ap, ap₂, ◌∙◌, le-leb, leb-true, leb-false, eqb-true, ne_eqb}
use Rattle.std.proofs.lemmas.Bool.{false≢true, lt-leb, eqb-false}
use Rattle.std.proofs.Math.Arith.{lt_of_le-ne}
use Rattle.definitions.specs.Scan.{count_below, bit}

-- the sum of f at the numbers below n
unfoldable pub sum_below : ℕ → (ℕ → ℕ) → ℕ
sum_below zero f = 0
sum_below (suc n) f = sum_below n f + f n

-- the first taken out
pub sum_first : (n : ℕ) (f : ℕ → ℕ) → sum_below (suc n) f ≡ f 0 + sum_below n (λ k. f (suc k))
unfolding sum_below
sum_first zero f = omega arith
sum_first (suc n) f = omega (arith, sum_first n f)

-- the cells of labels up to r + 1
up_to_next : (n : ℕ) (l : ℕ → ℕ) (g : ℕ → Bool) (r : ℕ)
    → count_below n (λ c. (leb 1 (l c) && leb (l c) (suc r)) && g c) ≡ count_below n (λ c. (leb 1 (l c) && leb (l c) r) && g c) + count_below n (λ c. eqb (l c) (suc r) && g c)
unfolding count_below
up_to_next zero l g r = refl
up_to_next (suc n) l g r = omega (arith, up_to_next n l g r, one (l n))
  where
    below : (k : ℕ) → leb k r ≡ true → (eqb k (suc r) ≡ false) × (leb k (suc r) ≡ true)
    below k h = (ne_eqb k (suc r) (λ e. omega (arith, leb-true k r h)), le-leb k (suc r) (omega (arith, leb-true k r h)))

    above : (k : ℕ) → leb k r ≡ false → leb k (suc r) ≡ eqb k (suc r)
    above k h = go (eqb k (suc r)) refl
      where
        go : (b : Bool) → eqb k (suc r) ≡ b → leb k (suc r) ≡ b
        go true e = le-leb k (suc r) (omega (arith, eqb-true k (suc r) e))
        go false e = lt-leb k (suc r) (lt_of_le-ne (omega (arith, leb-false k r h)) (λ q. eqb-false k (suc r) e (sym q)))

    tally : (p q e s : Bool) → (q ≡ true → (e ≡ false) × (s ≡ true)) → (q ≡ false → s ≡ e) → (e ≡ true → p ≡ true) → (b : Bool)
        → bit ((p && s) && b) ≡ bit ((p && q) && b) + bit (e && b)
    tally true true true s u v w b = absurd (false≢true (sym (u refl).0))
    tally true true false true u v w b = omega arith
    tally true true false false u v w b = absurd (false≢true (u refl).1)
    tally true false true true u v w b = omega arith
    tally true false true false u v w b = absurd (false≢true (v refl))
    tally true false false true u v w b = absurd (false≢true (sym (v refl)))
    tally true false false false u v w b = refl
    tally false q true s u v w b = absurd (false≢true (w refl))
    tally false q false s u v w b = refl

    one : (k : ℕ) → bit ((leb 1 k && leb k (suc r)) && g n) ≡ bit ((leb 1 k && leb k r) && g n) + bit (eqb k (suc r) && g n)
    one k = tally (leb 1 k) (leb k r) (eqb k (suc r)) (leb k (suc r)) (below k) (above k) (λ e. le-leb 1 k (omega (arith, eqb-true k (suc r) e))) (g n)

none_counted : (n : ℕ) (f : ℕ → Bool) → ((c : ℕ) → f c ≡ false) → count_below n f ≡ 0
unfolding count_below
none_counted zero f h = refl
none_counted (suc n) f h = ap₂ (λ m b. m + bit b) (none_counted n f h) (h n)

-- no label is from 1 to 0
out_of_none : (k : ℕ) (b : Bool) → ((leb 1 k && leb k 0) && b) ≡ false
out_of_none zero b = refl
out_of_none (suc k) b = ap (λ t. (leb 1 (suc k) && t) && b) (lt-leb (suc k) 0 (omega arith)) ∙ off (leb 1 (suc k))
  where
    off : (a : Bool) → ((a && false) && b) ≡ false
    off true = refl
    off false = refl

pub count_by_label : (n : ℕ) (l : ℕ → ℕ) (g : ℕ → Bool) (r : ℕ)
    → sum_below r (λ k. count_below n (λ c. eqb (l c) (suc k) && g c)) ≡ count_below n (λ c. (leb 1 (l c) && leb (l c) r) && g c)
unfolding sum_below
count_by_label n l g zero = sym (none_counted n (λ c. (leb 1 (l c) && leb (l c) 0) && g c) (λ c. out_of_none (l c) (g c)))
count_by_label n l g (suc r) = ap (λ m. m + count_below n (λ c. eqb (l c) (suc r) && g c)) (count_by_label n l g r) ∙ sym (up_to_next n l g r)
