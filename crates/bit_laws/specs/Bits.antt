-- A bit of what two numbers have in common is set where it is set in both (`and_bit`). Assumes nothing.
use Rattle.std.specs.Prelude.{ℕ, zero, suc, ◌/◌, ◌%◌, ◌^◌, ◌<◌, min, ◌≡◌, refl, ◌&&◌, eqb}
use Rattle.std.proofs.Common.{arith, ap, ◌∙◌}
use Rattle.std.specs.Int.Bits.{bit_and, and_step}
use Rattle.std.proofs.lemmas.Nat.{and_shr}

both-ones : (p q : ℕ) → p < 2 → q < 2 → eqb (min p q) 1 ≡ (eqb p 1 && eqb q 1)
both-ones zero zero h i = refl
both-ones zero (suc zero) h i = refl
both-ones (suc zero) zero h i = refl
both-ones (suc zero) (suc zero) h i = refl
both-ones (suc (suc p)) q h i = absurd (omega arith)
both-ones zero (suc (suc q)) h i = absurd (omega arith)
both-ones (suc zero) (suc (suc q)) h i = absurd (omega arith)

pub and_bit : (m n k : ℕ) → eqb (bit_and m n / 2 ^ k % 2) 1 ≡ (eqb (m / 2 ^ k % 2) 1 && eqb (n / 2 ^ k % 2) 1)
and_bit m n k = ap (λ x. eqb (x % 2) 1) (and_shr m n k) ∙ ap (λ x. eqb x 1) (last (m / 2 ^ k) (n / 2 ^ k)) ∙ both-ones (m / 2 ^ k % 2) (n / 2 ^ k % 2) (omega arith) (omega arith)
  where
    last : (x y : ℕ) → bit_and x y % 2 ≡ min (x % 2) (y % 2)
    last x y = omega (arith, and_step x y)
