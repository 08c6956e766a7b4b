-- The share behind dominance (document 02, request 2): it is exact, no other is, and at 99 percent it accepts what 99 cells of 100 accept. The argument: a quotient is at
-- least 99 exactly where 99 times the divisor is no more than what is divided. Assumes nothing.
use Rattle.std.specs.Prelude.{ℕ, zero, suc, ◌*◌, ◌/◌, ◌%◌, ◌≤◌, ◌<◌, ◌≡◌, leb, None, Some}
use Rattle.std.proofs.Common.{arith, le-div_iff_mul-le, div-add-mod', mod-lt, mul_comm, sym, ap, ◌∙◌, subst, leb-true, le-leb}
use Rattle.std.proofs.lemmas.Option.{same_Some, none-some}
use Rattle.std.proofs.Math.Arith.{digits_div, digits_mod}
use Rattle.definitions.specs.RegionRecord.{Region, Share, IsShare, elevation_count, share_of, dominance_of, dominance, accepts}
use Rattle.laws.specs.ListLaws.Tests.{same_test}

-- ---- exact and unique

-- the share of some cells, by its quotient
quotient : ℕ → ℕ → Share
quotient count n = record { percent = count * 100 / n; remainder = count * 100 % n }

quotient-exact : (count n : ℕ) → 0 < n → IsShare count n (quotient count n)
unfolding quotient
quotient-exact count n l = record { exact = sym (div-add-mod' (count * 100) n); below = mod-lt (count * 100) l }

pub share-exact : (count n : ℕ) (h : Share) → share_of count n ≡ Some h → IsShare count n h
unfolding share_of quotient
share-exact count zero h e = absurd (none-some h e)
share-exact count (suc n) h e = subst (IsShare count (suc n)) (same_Some (quotient count (suc n)) h e) (quotient-exact count (suc n) (omega arith))

-- a percent and a remainder that fit are the answer: so there is no other, and none of no cells
pub share_only : (count n : ℕ) (h : Share) → IsShare count n h → share_of count n ≡ Some h
unfolding share_of
share_only count zero h s = absurd (omega (arith, s.below))
share_only count (suc n) h s = λ i. Some (record { percent = percent i; remainder = remainder i })
  where
    percent : count * 100 / suc n ≡ h.percent
    percent = ap (λ (k : ℕ). k / suc n) s.exact ∙ digits_div h.percent s.below

    remainder : count * 100 % suc n ≡ h.remainder
    remainder = ap (λ (k : ℕ). k % suc n) s.exact ∙ digits_mod h.percent s.below

pub share_unique : (count n : ℕ) (h k : Share) → IsShare count n h → IsShare count n k → h ≡ k
share_unique count n h k s t = same_Some h k (sym (share_only count n h s) ∙ share_only count n k t)

-- a region with cells has the share of its elevation's count, one with none has no share
pub dominance-exact : (s : Region) → 0 < s.cells
    → (h : Share) × (((dominance s).share ≡ Some h) × IsShare (elevation_count s (dominance s).elevation) s.cells h)
unfolding dominance dominance_of
dominance-exact s l =
    let count = elevation_count s (dominance s).elevation in
    let whole = quotient-exact count s.cells l in
    (quotient count s.cells, (share_only count s.cells (quotient count s.cells) whole, whole))

pub dominance_none : (s : Region) → s.cells ≡ 0 → (dominance s).share ≡ None
unfolding dominance dominance_of share_of
dominance_none s e = ap (share_of (elevation_count s (dominance s).elevation)) e

-- ---- what is accepted

-- the Rust's test
pub accepts_is : (count n : ℕ) → 0 < n → accepts (share_of count n) ≡ leb (n * 99) (count * 100)
unfolding share_of
accepts_is count zero l = absurd (omega (arith, l))
accepts_is count (suc n) l =
    same_test (λ h. le-leb (suc n * 99) (count * 100) (subst (λ (k : ℕ). k ≤ count * 100) (mul_comm 99 (suc n)) ((le-div_iff_mul-le l).0 (leb-true 99 (count * 100 / suc n) h))))
    (λ h. le-leb 99 (count * 100 / suc n) ((le-div_iff_mul-le l).1 (subst (λ (k : ℕ). k ≤ count * 100) (sym (mul_comm 99 (suc n))) (leb-true (suc n * 99) (count * 100) h))))
