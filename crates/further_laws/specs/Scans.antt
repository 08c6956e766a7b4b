-- A scan below k + 1 that finds nothing, from one below k that finds nothing and what is not at k. Assumes nothing.
use Rattle.std.specs.Prelude.{◌≡◌, ℕ, ◌+◌, Bool, false, ◌||◌}
use Rattle.std.proofs.Common.{ap₂, ◌∙◌}
use Rattle.definitions.specs.Scan.{any_below_lem}
use Rattle.laws.specs.ListLaws.ScanSteps.{any_next}

pub any_none : (f : ℕ → Bool) (k : ℕ) → any_below_lem k f ≡ false → f k ≡ false → any_below_lem (k + 1) f ≡ false
any_none f k h e = any_next f k ∙ ap₂ ◌||◌ h e
