-- Bits of a number of 32: of one with a bit set, of what two have in common; and that one with no bit set is 0. Facts on the place of one bit are tests that
-- compute. Assumes nothing.
use Prim.Native.Nat.{ℕ, zero, suc, ◌*◌, ◌/◌, ◌%◌, ◌^◌, ◌<◌}
use native.Mathlib.Omega.{arith}
use native.Mathlib.Nat.{pow-suc}
use mathlib.Core.Path.{◌≡◌, refl, sym, ap, ◌∙◌, subst}
use mathlib.Core.Bool.{Bool, true, false, not, ◌&&◌, ◌||◌, cond, false≢true}
use lib.Dec.{eqb}
use lib.Bits.{bit_and, bit_or, and_lt}
use borrow.Author.Tests.{eqb-true, eqb-false, eq-eqb, ne_eqb}
use Rattle.definitions.specs.Scan.{any_below_lem, all_below}
use Rattle.definitions.specs.RegionRecord.{has_bit}
use Rattle.laws.specs.ListLaws.Below.{below_ext, all_below_at}
use Rattle.laws.specs.RustContext.ElevationMasks.{or_bit}
use Rattle.bit_laws.specs.Bits as bits
use Rattle.game.proofs.Sweeps.{none_at}
use Rattle.game_sets.specs.Words.{do_meet}

-- ---- one bit

-- bit j of 2 ^ k, for all pairs of bits
one_bit : (j k : ℕ) → j < 32 → k < 32 → 2 ^ k / 2 ^ j % 2 ≡ cond (eqb j k) 1 0
unfolding all_below
one_bit j k h i = eqb-true _ _ (all_below_at 32 (is j) (all_below_at 32 (λ j. all_below 32 (is j)) refl j h) k i)
  where
    is : ℕ → ℕ → Bool
    is j k = eqb (2 ^ k / 2 ^ j % 2) (cond (eqb j k) 1 0)

pub one_bit_is : (j k : ℕ) → j < 32 → k < 32 → has_bit (2 ^ k) j ≡ eqb j k
one_bit_is j k h i = ap (λ x. eqb x 1) (one_bit j k h i) ∙ go (eqb j k)
  where
    go : (b : Bool) → eqb (cond b 1 0) 1 ≡ b
    go true = refl
    go false = refl

-- what the code's shift gives: in 32 bits none is lost
pub shifted_one : (k : ℕ) → k < 32 → 1 * 2 ^ k % 4294967296 ≡ 2 ^ k
unfolding all_below
shifted_one k h = eqb-true _ _ (all_below_at 32 (λ k. eqb (1 * 2 ^ k % 4294967296) (2 ^ k)) refl k h)

-- ---- the bits of both

pub and_bit : (a b j : ℕ) → has_bit (bit_and a b) j ≡ (has_bit a j && has_bit b j)
and_bit = bits.and_bit

-- the set with one region more
pub with_bit_lem : (set i j : ℕ) → i < 32 → j < 32 → has_bit (bit_or set (1 * 2 ^ i % 4294967296)) j ≡ (has_bit set j || eqb j i)
with_bit_lem set i j h k = ap (λ x. has_bit (bit_or set x) j) (shifted_one i h) ∙ or_bit set (2 ^ i) j ∙ ap (λ b. has_bit set j || b) (one_bit_is j i k h)

-- ---- some bit of a number that is not 0

-- bit j + 1 is bit j of the half
half-bit : (n j : ℕ) → has_bit n (suc j) ≡ has_bit (n / 2) j
half-bit n j = ap (λ x. eqb (x % 2) 1) (ap (λ p. n / p) (pow-suc 2 j ∙ swap (2 ^ j)) ∙ sym (native.Mathlib.Nat.div-div-eq-div-mul n 2 (2 ^ j)))
  where
    swap : (p : ℕ) → p * 2 ≡ 2 * p
    swap p = omega arith

no_bits : (k n : ℕ) → n < 2 ^ k → ((j : ℕ) → j < k → has_bit n j ≡ false) → n ≡ 0
no_bits zero n h none = omega arith
no_bits (suc k) n h none = omega (arith, no_bits k (n / 2) half (λ j l. sym (half-bit n j) ∙ none (suc j) (omega arith)), even)
  where
    half : n / 2 < 2 ^ k
    half = omega (arith, subst (λ m. n < m) (pow-suc 2 k) h)

    even : n % 2 ≡ 0
    even = go (eqb (n % 2) 1) refl
      where
        one : has_bit n 0 ≡ eqb (n % 2) 1
        one = ap (λ x. eqb (x % 2) 1) whole
          where
            whole : n / 1 ≡ n
            whole = omega arith

        go : (b : Bool) → eqb (n % 2) 1 ≡ b → n % 2 ≡ 0
        go true e = absurd (false≢true (sym (none 0 (omega arith)) ∙ one ∙ e))
        go false e = omega (arith, eqb-false (n % 2) 1 e)

-- two sets meet where what they have in common is not 0
pub meet_is : (a b : ℕ) → a < 4294967296 → b < 4294967296 → not (eqb (bit_and a b) 0) ≡ do_meet a b
unfolding do_meet all_below
meet_is a b h k = go (do_meet a b) refl
  where
    common : ℕ → Bool
    common d = has_bit a d && has_bit b d

    go : (t : Bool) → do_meet a b ≡ t → not (eqb (bit_and a b) 0) ≡ t
    go false e = ap not (eq-eqb (bit_and a b) 0 (no_bits 32 (bit_and a b) (and_lt 32 a b h k) (λ j l. and_bit a b j ∙ none_at 32 common e j l)))
    go true e = ap not (ne_eqb (bit_and a b) 0 (λ z. false≢true (sym (nowhere z) ∙ e)))
      where
        nowhere : bit_and a b ≡ 0 → any_below_lem 32 common ≡ false
        nowhere z = below_ext 32 common (λ d. false) (λ d l. sym (and_bit a b d) ∙ ap (λ n. has_bit n d) z ∙ zero_bit d l) ∙ refl
          where
            zero_bit : (d : ℕ) → d < 32 → has_bit 0 d ≡ false
            zero_bit d l = empty (all_below_at 32 (λ d. not (has_bit 0 d)) refl d l)
              where
                empty : not (has_bit 0 d) ≡ true → has_bit 0 d ≡ false
                empty n = borrow.Author.Tests.not-true (has_bit 0 d) n

pub and_none : (b : Bool) → b ≡ (b && true)
and_none true = refl
and_none false = refl
