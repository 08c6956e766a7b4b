-- Laws of the spans that a sheet of kind 3 states: how many numbers they have, that they depend on the boundaries' own numbers alone, and one boundary more.
-- Assumes nothing.
use Rattle.std.specs.Prelude.{ℕ, zero, suc, ◌+◌, ◌*◌, ◌<◌, ◌≡◌, refl, List, [], ◌∷◌, ◌++◌, length, get_or}
use Rattle.std.proofs.Common.{arith, add-one, ap, ap₂, ◌∙◌, length-append}
use Rattle.definitions.specs.Limits.{numbers_per_span, numbers_per_boundary}
use Rattle.definitions.specs.Grid.{segment_at}
use Rattle.definitions.specs.Scan.{gather}
use Rattle.definitions.specs.Sheet.{endpoints, endpoints_in}

pub endpoints-long : (n : ℕ) (boundaries : List ℕ) → length (endpoints_in n boundaries) ≡ numbers_per_span * n
unfolding endpoints_in gather
endpoints-long zero boundaries = refl
endpoints-long (suc n) boundaries =
    length-append (endpoints_in n boundaries) (endpoints (segment_at boundaries (numbers_per_boundary * n))) ∙ omega (arith, endpoints-long n boundaries)

pub endpoints_more : (n : ℕ) (boundaries : List ℕ)
    → endpoints_in (n + 1) boundaries ≡ endpoints_in n boundaries ++ endpoints (segment_at boundaries (numbers_per_boundary * n))
unfolding endpoints_in gather
endpoints_more n boundaries = ap (λ m. endpoints_in m boundaries) (add-one n)

-- lists that begin alike
pub endpoints_same : (n : ℕ) (a b : List ℕ) → ((k : ℕ) → k < numbers_per_boundary * n → get_or a k 0 ≡ get_or b k 0) → endpoints_in n a ≡ endpoints_in n b
unfolding endpoints_in gather
endpoints_same zero a b h = refl
endpoints_same (suc n) a b h =
    ap₂ (λ l m. l ++ m) (endpoints_same n a b (λ k p. h k (omega arith)))
    (λ i. h (numbers_per_boundary * n) (omega arith) i ∷ h (numbers_per_boundary * n + 1) (omega arith) i
    ∷ h (numbers_per_boundary * n + 2) (omega arith) i ∷ h (numbers_per_boundary * n + 3) (omega arith) i ∷ [])
