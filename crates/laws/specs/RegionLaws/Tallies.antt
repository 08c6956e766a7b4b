-- How many numbers the tallies of the spans are: two for each span. Assumes nothing.
use Rattle.std.specs.Prelude.{ℕ, zero, suc, ◌*◌, ◌≡◌, refl, [], ◌∷◌, length}
use Rattle.std.proofs.Common.{arith, length-append}
use Rattle.definitions.specs.Limits.{tallies_per_span}
use Rattle.definitions.specs.Scan.{gather}
use Rattle.definitions.specs.Context.{Context}
use Rattle.definitions.specs.AtExit.{tallies_of}

pub tallies-length : (C : Context) → length (tallies_of C) ≡ tallies_per_span * C.count
unfolding tallies_of gather
tallies-length C = two C.count
  where
    two : (n : ℕ) → length (gather n (λ s. C.removed_edges s ∷ C.separated_edges s ∷ [])) ≡ tallies_per_span * n
    two zero = refl
    two (suc n) = omega (arith, length-append (gather n (λ s. C.removed_edges s ∷ C.separated_edges s ∷ [])) (C.removed_edges n ∷ C.separated_edges n ∷ []), two n)
