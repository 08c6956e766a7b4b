-- What holds of each number up to three, and so of the entries of a word of changes of sides (`side-entries`): each entry is computed. Assumes nothing.
use Prim.Native.Nat.{ℕ, zero, suc, ◌+◌, ◌*◌, ◌/◌, ◌%◌, ◌^◌, ◌≤◌}
use native.Mathlib.Omega.{arith}
use mathlib.Core.Path.{◌≡◌}
use mathlib.Core.Bool.{Bool}
use Rattle.cut_steps.specs.Crossed.{changes_at, SideWord}

abbrev Four : (ℕ → Type 0) → Type 0
Four P = P 0 × P 1 × P 2 × P 3

up_to-three : (P : ℕ → Type 0) → Four P → (n : ℕ) → n ≤ 3 → P n
up_to-three P f zero h = f.0
up_to-three P f (suc zero) h = f.1
up_to-three P f (suc (suc zero)) h = f.2
up_to-three P f (suc (suc (suc zero))) h = f.3
up_to-three P f (suc (suc (suc (suc n)))) h = absurd (omega arith)

pub up_to_one : (P : ℕ → Type 0) → P 0 → P 1 → (n : ℕ) → n ≤ 1 → P n
up_to_one P p q zero h = p
up_to_one P p q (suc zero) h = q
up_to_one P p q (suc (suc n)) h = absurd (omega arith)

abbrev pub Entry : Bool → (back word ahead j : ℕ) → Type 0
Entry columns back word ahead j = word / 2 ^ (16 * ahead + 4 * j) % 16 * 32 ≡ changes_at columns back 2 ahead j

pub side-entries : (columns : Bool) (back word : ℕ) → Four (λ a. Four (Entry columns back word a)) → SideWord columns back word
side-entries columns back word f ahead j a b = up_to-three (Entry columns back word ahead) (up_to-three (λ a. Four (Entry columns back word a)) f ahead a) j b
