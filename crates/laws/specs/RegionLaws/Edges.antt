-- The least and the most of numbers, of which a region's edges are made: of numbers up to B they are up to B, and of the same cells they are the same. Assumes nothing.
use Rattle.std.specs.Prelude.{ℕ, zero, suc, ◌≤◌, ◌<◌, min, max, ◌≡◌, refl, Bool, true, false, cond}
use Rattle.std.proofs.Common.{zero-le, arith, ap₂}
use Rattle.definitions.specs.Scan.{any_below_lem}
use Rattle.definitions.specs.RegionRecord.{least, most}
use Rattle.laws.specs.ListLaws.Below.{below_ext}

pub least_le : (n : ℕ) (p : ℕ → Bool) (f : ℕ → ℕ) (B : ℕ) → ((c : ℕ) → c < n → f c ≤ B) → least n p f ≤ B
unfolding least
least_le zero p f B h = zero-le
least_le (suc n) p f B h = go (p n) (any_below_lem n p) (least_le n p f B (λ c l. h c (omega arith))) (h n (omega arith))
  where
    go : (x y : Bool) {a b : ℕ} → a ≤ B → b ≤ B → cond x (cond y (min a b) b) a ≤ B
    go true true u v = omega arith
    go true false u v = v
    go false y u v = u

pub most_le : (n : ℕ) (p : ℕ → Bool) (f : ℕ → ℕ) (B : ℕ) → ((c : ℕ) → c < n → f c ≤ B) → most n p f ≤ B
unfolding most
most_le zero p f B h = zero-le
most_le (suc n) p f B h = go (p n) (most_le n p f B (λ c l. h c (omega arith))) (h n (omega arith))
  where
    go : (x : Bool) {a b : ℕ} → a ≤ B → b ≤ B → cond x (max a b) a ≤ B
    go true u v = omega arith
    go false u v = u

-- they are the same where the cells are
pub least_ext : (n : ℕ) (p q : ℕ → Bool) (f : ℕ → ℕ) → ((c : ℕ) → c < n → p c ≡ q c) → least n p f ≡ least n q f
unfolding least
least_ext zero p q f e = refl
least_ext (suc n) p q f e = go (least_ext n p q f (λ c l. e c (omega arith)))
  where
    go : least n p f ≡ least n q f → cond (p n) (cond (any_below_lem n p) (min (least n p f) (f n)) (f n)) (least n p f) ≡ cond (q n) (cond (any_below_lem n q) (min (least n q f) (f n)) (f n)) (least n q f)
    go ih = λ i. cond (e n (omega arith) i) (cond (below_ext n p q (λ c l. e c (omega arith)) i) (min (ih i) (f n)) (f n)) (ih i)

pub most_ext : (n : ℕ) (p q : ℕ → Bool) (f : ℕ → ℕ) → ((c : ℕ) → c < n → p c ≡ q c) → most n p f ≡ most n q f
unfolding most
most_ext zero p q f e = refl
most_ext (suc n) p q f e = ap₂ (λ b m. cond b (max m (f n)) m) (e n (omega arith)) (most_ext n p q f (λ c l. e c (omega arith)))
