-- `checks::boundaries::boundaries_fault` meets its contract: the chain looks for the first boundary that its test refuses. Assumes nothing.
use Rattle.std.proofs.Common.{rules, tests, ap, ◌∙◌, ◌≡◌, length, ◌*◌, ◌/◌, true, false, ℕ, Bool, List, []}
use Rattle.std.proofs.lemmas.Iterator.{IsFirst-from_position, YieldsList-from_slice}
use Rattle.definitions.specs.Limits.{numbers_per_boundary}
use Rattle.definitions.specs.Grid.{boundary_at}
use Rattle.definitions.specs.Refusals.{boundary_fits, boundaries_fault}
use Rattle.checks.proofs.Chunks.{boundary_is, found_by_place}
use Rattle.checks.proofs.boundaries.boundaries_fault.Goals as goal

pub returns : goal.returns
unfolding boundaries_fault
returns c =
    let a = c.args in
    let l = a.boundaries.now in
    let fits : List ℕ → Bool = λ x. boundary_fits a.width a.height (boundary_at x 0) in
    let at : ℕ → Bool = λ i. boundary_fits a.width a.height (boundary_at l (numbers_per_boundary * i)) in
    search (rules, tests) ∙ found_by_place [] fits at (length l / numbers_per_boundary) c.as_chunks.result.0.now c.position.result c.as_chunks.ensures.front_len
    (λ i h. ap (boundary_fits a.width a.height) (boundary_is l c.as_chunks.ensures.front i [] h))
    (IsFirst-from_position _ _ c.position.result (λ x. fits x ≡ false) (λ x. fits x ≡ true) c.position.ensures.ran (YieldsList-from_slice c.as_chunks.result.0.now cc) (λ x q k. search (rules, tests)) (λ x q k. search (rules, tests)))
