-- `checks::anchors::anchors_fault` meets its contract: the chain looks for the first anchor that its test refuses. Assumes nothing.
use Rattle.std.proofs.Common.{rules, tests, arith, ap, ap₂, ◌≡◌, ◌&&◌, ltb, length, get_or, ◌+◌, ◌*◌, ◌/◌, true, false, ℕ, Bool, List, []}
use Rattle.std.proofs.lemmas.Iterator.{IsFirst-from_position, YieldsList-from_slice}
use Rattle.definitions.specs.Limits.{numbers_per_anchor}
use Rattle.definitions.specs.Refusals.{anchors_fault}
use Rattle.checks.proofs.Chunks.{first_in, number_in, found_by_place}
use Rattle.checks.proofs.anchors.anchors_fault.Goals as goal

pub returns : goal.returns
unfolding anchors_fault
returns c =
    let a = c.args in
    let l = a.anchors.now in
    let fits : List ℕ → Bool = λ x. ltb (get_or x 0 0) a.width && ltb (get_or x 1 0) a.height in
    let at : ℕ → Bool = λ i. ltb (get_or l (numbers_per_anchor * i) 0) a.width && ltb (get_or l (numbers_per_anchor * i + 1) 0) a.height in
    found_by_place [] fits at (length l / numbers_per_anchor) c.as_chunks.result.0.now c.position.result c.as_chunks.ensures.front_len
    (λ i h. ap₂ ◌&&◌ (ap (λ n. ltb n a.width) (first_in 2 l c.as_chunks.ensures.front i [] h (omega arith))) (ap (λ n. ltb n a.height) (number_in 2 l c.as_chunks.ensures.front i [] h 1 (omega arith))))
    (IsFirst-from_position _ _ c.position.result (λ x. fits x ≡ false) (λ x. fits x ≡ true) c.position.ensures.ran (YieldsList-from_slice c.as_chunks.result.0.now cc) (λ x q k. search (rules, tests)) (λ x q k. search (rules, tests)))
