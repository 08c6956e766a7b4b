-- A flag as a number (`bit`), read back and in the last digit; and a list of flags that are not set. Assumes nothing.
use Rattle.std.specs.Prelude.{ℕ, zero, suc, ◌%◌, ◌≤◌, ◌<◌, ◌≡◌, refl, Bool, true, false, eqb, get_or, replicate}
use Rattle.std.proofs.Common.{arith}
use mir.Val.{bool_byte}
use Rattle.definitions.specs.Scan.{bit}

-- the number that code makes of it
pub bool-bit : (b : Bool) → bool_byte b ≡ bit b
bool-bit true = refl
bool-bit false = refl

pub bit_le : (b : Bool) → bit b ≤ 1
bit_le true = omega arith
bit_le false = omega arith

pub bit-is_one : (b : Bool) → eqb (bit b) 1 ≡ b
bit-is_one true = refl
bit-is_one false = refl

pub digit-bit : (x : ℕ) → x < 2 → x ≡ bit (eqb x 1)
digit-bit zero h = refl
digit-bit (suc zero) h = refl
digit-bit (suc (suc x)) h = absurd (omega arith)

pub odd-bit : (n : ℕ) → n % 2 ≡ bit (eqb (n % 2) 1)
odd-bit n = digit-bit (n % 2) (omega arith)

pub none_set : (n i : ℕ) → get_or (replicate n false) i false ≡ false
none_set zero i = refl
none_set (suc n) zero = refl
none_set (suc n) (suc i) = none_set n i
