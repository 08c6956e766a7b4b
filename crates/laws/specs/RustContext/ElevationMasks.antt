-- Elevations as junctions.rs asks of a region's record: `count_ones` of masks of eight bits, and the fold that finds the dominant elevation. They are the definitions'
-- `strictly_flat` and, of regions with cells, `same_dominance`. The argument: the digits of a number counted from the lowest are its bits counted by place, a place of
-- `a | b` is set where it is set in a or in b, and 99 cells of 100 are 99 percent (Shares). Assumes nothing.
use Rattle.std.specs.Prelude.{ℕ, zero, suc, ◌+◌, ◌*◌, ◌/◌, ◌%◌, ◌^◌, ◌<◌, max, ◌≡◌, refl, Bool, true, false, not, ◌&&◌, ◌||◌, cond, List, [], ◌∷◌, eqb, ltb, leb, Option, None, Some}
use Rattle.std.proofs.Common.{arith, div-one, sym, ap, ap₂, ◌∙◌, eqb-true}
use Rattle.std.proofs.Math.Nat.{div-div-eq-div-mul, pow-succ'}
use Rattle.std.proofs.Math.Arith.{digits_mod}
use Rattle.std.specs.Int.Bits.{bit_or, or_step, or_self}
use Rattle.std.proofs.lemmas.Nat.{or_shr}
use Rattle.std.specs.Int.Count.{ones_in}
use Rattle.definitions.specs.Scan.{count_below, bit, only_if}
use Rattle.definitions.specs.RegionRecord.{Region, elevation_count, most_common_elevation, dominance_of, dominance, accepts, same_dominance, has_bit, joined_ones, strictly_flat}
use Rattle.laws.specs.ListLaws.Below.{count_ext}
use Rattle.laws.specs.RegionLaws.Shares.{accepts_is}
use Rattle.laws.specs.ListLaws.Flags.{digit-bit}

-- ---- as the Rust writes it

--     (first.elevations | second.elevations).count_ones() == 1
unfoldable pub strictly_flat_mask : Region → Region → Bool
strictly_flat_mask s t = eqb (ones_in 8 (bit_or s.elevations t.elevations)) 1

--     stats.elevations != 0 && stats.elevations.count_ones() == 1
unfoldable pub flat : Region → Bool
flat s = not (eqb s.elevations 0) && eqb (ones_in 8 s.elevations) 1

--     (1..4).fold(0, |best, elevation| {
--         if stats.elevation_counts[elevation] > stats.elevation_counts[best] { elevation } else { best }
--     })
unfoldable pub dominant_from : Region → ℕ → List ℕ → ℕ
dominant_from s best [] = best
dominant_from s best (e ∷ es) = dominant_from s (cond (ltb (elevation_count s best) (elevation_count s e)) e best) es

--     (stats.elevation_counts[dominant] * 100 >= stats.cells * 99).then_some(dominant)
unfoldable pub dominant_fold : Region → Option ℕ
dominant_fold s =
    let dominant = dominant_from s 0 (1 ∷ 2 ∷ 3 ∷ []) in
    only_if (leb (s.cells * 99) (elevation_count s dominant * 100)) dominant

--     dominant_elevation(first).zip(dominant_elevation(second)).is_some_and(|(a, b)| a == b)
abbrev pub both_same : Option ℕ → Option ℕ → Bool
both_same None o = false
both_same (Some a) None = false
both_same (Some a) (Some b) = eqb a b

unfoldable pub dominant_same : Region → Region → Bool
unfolding dominant_fold
dominant_same s t = both_same (dominant_fold s) (dominant_fold t)

-- ---- and that it is the same

-- of a region with cells, the Rust's answer is the elevation where its share is accepted
pub dominant_is : (s : Region) → 0 < s.cells → dominant_fold s ≡ only_if (accepts (dominance s).share) (dominance s).elevation
unfolding dominant_fold dominant_from dominance dominance_of most_common_elevation
dominant_is s l = ap (λ b. only_if b (dominance s).elevation) (sym (accepts_is (elevation_count s (dominance s).elevation) s.cells l))

pub dominant_same_is : (s t : Region) → 0 < s.cells → 0 < t.cells → dominant_same s t ≡ same_dominance s t
unfolding dominant_same same_dominance
dominant_same_is s t l m = ap₂ both_same (dominant_is s l) (dominant_is t m) ∙ go (accepts (dominance s).share) (accepts (dominance t).share)
  where
    go : (a b : Bool) → both_same (only_if a (dominance s).elevation) (only_if b (dominance t).elevation) ≡ (a && b && eqb (dominance s).elevation (dominance t).elevation)
    go true true = refl
    go true false = refl
    go false b = refl

count-shift : (n : ℕ) (f : ℕ → Bool) → count_below (suc n) f ≡ bit (f 0) + count_below n (λ e. f (suc e))
unfolding count_below
count-shift zero f = omega arith
count-shift (suc n) f = omega (arith, count-shift n f)

-- bit e of n is the lowest digit of n / 2 ^ e
bit-zero : (n : ℕ) → n % 2 ≡ bit (has_bit n 0)
bit-zero n = digit-bit (n % 2) (omega arith) ∙ ap (λ m. bit (eqb (m % 2) 1)) (sym (div-one n))

bit-suc : (n e : ℕ) → has_bit (n / 2) e ≡ has_bit n (suc e)
bit-suc n e = ap (λ m. eqb (m % 2) 1) (div-div-eq-div-mul n 2 (2 ^ e) ∙ ap (λ m. n / m) (sym (pow-succ' 2 e)))

ones-bits : (d n : ℕ) → ones_in d n ≡ count_below d (has_bit n)
unfolding ones_in count_below
ones-bits zero n = refl
ones-bits (suc d) n =
    ap₂ ◌+◌ (bit-zero n) (ones-bits d (n / 2) ∙ count_ext d (has_bit (n / 2)) (λ e. has_bit n (suc e)) (λ e h. bit-suc n e)) ∙ sym (count-shift d (has_bit n))

pub or_bit : (a b e : ℕ) → has_bit (bit_or a b) e ≡ (has_bit a e || has_bit b e)
or_bit a b e = ap (λ m. eqb (m % 2) 1) (or_shr a b e) ∙ ap (λ m. eqb (m % 2) 1) (or_step x y) ∙ ap (λ m. eqb m 1) (odd x y) ∙ digits (x % 2) (y % 2) (omega arith) (omega arith)
  where
    x : ℕ
    x = a / 2 ^ e

    y : ℕ
    y = b / 2 ^ e

    odd : (x y : ℕ) → (bit_or (x / 2) (y / 2) * 2 + max (x % 2) (y % 2)) % 2 ≡ max (x % 2) (y % 2)
    odd x y = digits_mod (bit_or (x / 2) (y / 2)) (omega arith)

    digits : (x y : ℕ) → x < 2 → y < 2 → eqb (max x y) 1 ≡ (eqb x 1 || eqb y 1)
    digits zero zero h k = refl
    digits zero (suc zero) h k = refl
    digits zero (suc (suc y)) h k = absurd (omega arith)
    digits (suc zero) zero h k = refl
    digits (suc zero) (suc zero) h k = refl
    digits (suc zero) (suc (suc y)) h k = absurd (omega arith)
    digits (suc (suc x)) y h k = absurd (omega arith)

pub strictly_flat_is : (s t : Region) → strictly_flat_mask s t ≡ strictly_flat s t
unfolding strictly_flat_mask strictly_flat joined_ones
strictly_flat_is s t =
    ap (λ n. eqb n 1)
    (ones-bits 8 (bit_or s.elevations t.elevations)
    ∙ count_ext 8 (has_bit (bit_or s.elevations t.elevations)) (λ e. has_bit s.elevations e || has_bit t.elevations e) (λ e h. or_bit s.elevations t.elevations e))

no_ones : (m : ℕ) → m ≡ 0 → eqb (ones_in 8 m) 1 ≡ false
unfolding ones_in
no_ones m e = ap (λ m. eqb (ones_in 8 m) 1) e

pub flat_is : (s : Region) → flat s ≡ strictly_flat s s
unfolding flat strictly_flat_mask
flat_is s = go (eqb s.elevations 0) refl ∙ ap (λ m. eqb (ones_in 8 m) 1) (sym (or_self s.elevations)) ∙ strictly_flat_is s s
  where
    go : (b : Bool) → eqb s.elevations 0 ≡ b → (not b && eqb (ones_in 8 s.elevations) 1) ≡ eqb (ones_in 8 s.elevations) 1
    go true e = sym (no_ones s.elevations (eqb-true s.elevations 0 e))
    go false e = refl
