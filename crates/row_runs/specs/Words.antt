-- Words of flags, a byte each, the first lowest: the words of the contracts. Definitions only; assumes nothing.
use Rattle.std.specs.Prelude.{ℕ, zero, suc, ◌+◌, ◌*◌, ◌<◌, Bool, not, Option, None, Some}
use Rattle.definitions.specs.Scan.{bit}
use Rattle.row_runs.specs.Stretch.{Until}

-- Of n places from c on a byte each, 1 where f does not hold and else 0.
unfoldable pub stops : ℕ → (ℕ → Bool) → ℕ → ℕ
stops zero f c = 0
stops (suc n) f c = bit (not (f c)) + 256 * stops n f (c + 1)

-- the first of the eight places from c on of which f does not hold
abbrev pub FirstOfEight : (ℕ → Bool) → ℕ → Option ℕ → Type 0
FirstOfEight f c None = Until f c (c + 8) (c + 8)
FirstOfEight f c (Some r) = Until f c (c + 8) r × (r < c + 8)
