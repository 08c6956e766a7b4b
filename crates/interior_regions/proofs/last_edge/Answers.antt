-- `last_edge` meets its contract, by what `find` gives from the end. Assumes nothing.
use Rattle.std.proofs.Common.{rules, tests, arith, ◌≡◌, ℕ, ◌≤◌, ◌<◌, true, false, List, ap}
use Rattle.std.specs.Prelude.{Option, None, Some, MatchOption}
use Rattle.std.specs.Iterator.Adapters.{rev_source}
use Rattle.std.specs.declared.ops.Range.{Range}
use Rattle.std.specs.declared.iter.Rev.{Rev}
use Rattle.context.specs.declared.found_regions.FoundRegions.{FoundRegions}
use Rattle.interior_proposals.specs.Owners.{owned_by, owner_at}
use Rattle.interior_regions.specs.Marks.{LastEdge}
use Rattle.range_laws.specs.Backwards.{last_from_range}
use Rattle.interior_regions.proofs.last_edge.Goals as goal

module _ (owners : List FoundRegions) (count name : ℕ) (s : Rev (Range ℕ)) (e : rev_source s ≡ record { start = 0; end = count }) where
  ends : (r : Option ℕ)
      → MatchOption r ((k : ℕ) → (rev_source s).start ≤ k → k < (rev_source s).end → owned_by name (owner_at owners k) ≡ false)
      (λ j. ((rev_source s).start ≤ j) × (j < (rev_source s).end) × (owned_by name (owner_at owners j) ≡ true) × ((k : ℕ) → j < k → k < (rev_source s).end → owned_by name (owner_at owners k) ≡ false))
      → LastEdge owners count name r
  ends None h = record { upto = omega arith; none = λ k a b. h k (omega (arith, ap (λ t. t.start) e)) (omega (arith, ap (λ t. t.end) e)) }
  ends (Some j) (a, b, t, h) = (
    omega (arith, b, ap (λ t. t.end) e),
    record { upto = omega (arith, b, ap (λ t. t.end) e); none = λ k c d. h k (omega arith) (omega (arith, ap (λ t. t.end) e)) },
  )

pub returns : goal.returns
returns c =
    let a = c.args in
    ends a.owners.now a.count a.name c.rev.result c.rev.ensures.source _
    (last_from_range c.rev.result _ _ c.find.result (λ j. owned_by a.name (owner_at a.owners.now j) ≡ true) (λ j. owned_by a.name (owner_at a.owners.now j) ≡ false)
    c.find.ensures.ran (λ x q k. search (rules, tests)) (λ x q k. search (rules, tests)))
