-- Bits of a mask are set: what becomes of the bits, where those of a number are (`more_bits`), and where one is (`mark-bit`). Facts on the nine bits are tests that
-- compute. Assumes nothing.
use Prim.Native.Nat.{ℕ, zero, suc, ◌+◌, ◌*◌, ◌/◌, ◌%◌, ◌^◌, ◌<◌, max}
use native.Mathlib.Omega.{arith}
use native.Mathlib.Nat.{zero-div}
use mathlib.Core.Path.{◌≡◌, refl, sym, ap, ap₂, ◌∙◌}
use mathlib.Core.Bool.{Bool, true, false, ◌&&◌, ◌||◌, cond, or-false}
use mathlib.Core.Logic.{⊎_elim}
use mathlib.Core.List.{List}
use lib.ListN.{length, get_or, set, length-set}
use lib.Seq.{get_or-set_same, get_or-set_other}
use lib.Dec.{eqb}
use lib.Bits.{bit_or, or_step, or_shr}
use borrow.Author.Tests.{eqb-true, eq-eqb, ne_eqb}
use Rattle.definitions.specs.Scan.{all_below}
use Rattle.laws.specs.ListLaws.Tests.{both}
use Rattle.laws.specs.NumberLaws.Comparisons.{same_or, last_or}
use Rattle.grid_steps.specs.Masks.{cut_bit, with_bit}

all_below_lem : (f : ℕ → Bool) (n i : ℕ) → i < n → all_below n f ≡ true → f i ≡ true
unfolding all_below
all_below_lem f zero i h a = absurd (omega arith)
all_below_lem f (suc n) i h a =
    ⊎_elim (λ e. ap f e ∙ (both (all_below n f) (f n) a).1) (λ e. all_below_lem f n i e (both (all_below n f) (f n) a).0) (last_or i n (omega arith))

-- ---- one bit

-- bit j of 2 ^ k, for the eighty-one pairs
one_bit : (j k : ℕ) → j < 9 → k < 9 → 2 ^ k / 2 ^ j % 2 ≡ cond (eqb j k) 1 0
unfolding all_below
one_bit j k h i = eqb-true _ _ (all_below_lem (is j) 9 k i (all_below_lem (λ j. all_below 9 (is j)) 9 j h refl))
  where
    is : ℕ → ℕ → Bool
    is j k = eqb (2 ^ k / 2 ^ j % 2) (cond (eqb j k) 1 0)

-- a bit of what two numbers have together is set where it is set in one of them
or_bit : (m n j : ℕ) → eqb (bit_or m n / 2 ^ j % 2) 1 ≡ (eqb (m / 2 ^ j % 2) 1 || eqb (n / 2 ^ j % 2) 1)
or_bit m n j = ap (λ x. eqb (x % 2) 1) (or_shr m n j) ∙ ap (λ x. eqb x 1) (low (m / 2 ^ j) (n / 2 ^ j)) ∙ go (m / 2 ^ j % 2) (n / 2 ^ j % 2) (omega arith) (omega arith)
  where
    low : (a b : ℕ) → bit_or a b % 2 ≡ max (a % 2) (b % 2)
    low a b = ap (λ x. x % 2) (or_step a b) ∙ rest
      where
        rest : (bit_or (a / 2) (b / 2) * 2 + max (a % 2) (b % 2)) % 2 ≡ max (a % 2) (b % 2)
        rest = omega arith

    go : (x y : ℕ) → x < 2 → y < 2 → eqb (max x y) 1 ≡ (eqb x 1 || eqb y 1)
    go zero zero s t = refl
    go zero (suc zero) s t = refl
    go (suc zero) zero s t = refl
    go (suc zero) (suc zero) s t = refl
    go (suc (suc x)) y s t = absurd (omega arith)
    go zero (suc (suc y)) s t = absurd (omega arith)
    go (suc zero) (suc (suc y)) s t = absurd (omega arith)

pub with_bit-length : (masks : List ℕ) (c k : ℕ) → length (with_bit masks c k) ≡ length masks
unfolding with_bit
with_bit-length masks c k = length-set masks c (bit_or (get_or masks c 0) (2 ^ k))

-- the bits after those of a number are set
pub more_bits : (masks : List ℕ) (c more : ℕ) → c < length masks → (b j : ℕ) → cut_bit (set masks c (bit_or (get_or masks c 0) more)) b j ≡ (cut_bit masks b j || (eqb b c && eqb (more / 2 ^ j % 2) 1))
unfolding cut_bit
more_bits masks c more h b j = ⊎_elim here there (same_or b c)
  where
    marked : ℕ
    marked = bit_or (get_or masks c 0) more

    here : b ≡ c → eqb (get_or (set masks c marked) b 0 / 2 ^ j % 2) 1 ≡ (eqb (get_or masks b 0 / 2 ^ j % 2) 1 || (eqb b c && eqb (more / 2 ^ j % 2) 1))
    here e =
        ap (λ x. eqb (x / 2 ^ j % 2) 1) (ap (λ b. get_or (set masks c marked) b 0) e ∙ get_or-set_same masks c marked 0 h)
        ∙ or_bit (get_or masks c 0) more j ∙ ap₂ (λ x y. eqb (get_or masks x 0 / 2 ^ j % 2) 1 || (y && eqb (more / 2 ^ j % 2) 1)) (sym e) (sym (eq-eqb b c e))

    there : (b ≡ c → ⊥) → eqb (get_or (set masks c marked) b 0 / 2 ^ j % 2) 1 ≡ (eqb (get_or masks b 0 / 2 ^ j % 2) 1 || (eqb b c && eqb (more / 2 ^ j % 2) 1))
    there e =
        ap (λ x. eqb (x / 2 ^ j % 2) 1) (get_or-set_other masks c b marked 0 e)
        ∙ sym (ap (λ y. eqb (get_or masks b 0 / 2 ^ j % 2) 1 || (y && eqb (more / 2 ^ j % 2) 1)) (ne_eqb b c e) ∙ or-false _)

-- the bits after one is set
pub mark-bit : (masks : List ℕ) (c k : ℕ) → c < length masks → k < 9 → (b j : ℕ) → j < 9 → cut_bit (with_bit masks c k) b j ≡ (cut_bit masks b j || (eqb b c && eqb j k))
unfolding with_bit
mark-bit masks c k h i b j s = more_bits masks c (2 ^ k) h b j ∙ ap (λ x. cut_bit masks b j || (eqb b c && x)) (ap (λ x. eqb x 1) (one_bit j k s i) ∙ go (eqb j k))
  where
    go : (t : Bool) → eqb (cond t 1 0) 1 ≡ t
    go true = refl
    go false = refl

-- a mask of 0 has none
pub no_bit : (masks : List ℕ) (c k : ℕ) → get_or masks c 0 ≡ 0 → cut_bit masks c k ≡ false
unfolding cut_bit
no_bit masks c k z = ap (λ m. eqb (m / 2 ^ k % 2) 1) z ∙ ap (λ m. eqb (m % 2) 1) (zero-div (2 ^ k))
