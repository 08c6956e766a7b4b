-- `desk_checks::own::desk_fault` meets its contract: the chain looks for the first number at which boundary and span do not lie on each other. Assumes nothing.
use Prim.Native.Nat.{max}
use Rattle.std.proofs.Common.{rules, tests, ap, ◌∙◌, ◌≡◌, ◌/◌, length, true, false, ℕ, Bool}
use Rattle.std.proofs.lemmas.Iterator.{first_from_Range}
use Rattle.definitions.specs.Limits.{numbers_per_span, numbers_per_boundary}
use Rattle.definitions.specs.Refusals.{first_faulty}
use Rattle.laws.specs.ListLaws.Chains.{found_is_first}
use Rattle.desks.specs.Desks.{desk_fault}
use Rattle.desk_checks.specs.Own.{lies_on}
use Rattle.desk_checks.proofs.own.desk_fault.Goals as goal

pub returns : goal.returns
unfolding desk_fault
returns c =
    let fits : ℕ → Bool = lies_on c.args.spans.now c.args.boundaries.now in
    let n : c.max-count.result ≡ max (length c.args.spans.now / numbers_per_span) (length c.args.boundaries.now / numbers_per_boundary) = search rules in
    found_is_first fits c.max-count.result c.find.result (first_from_Range _ _ _ c.find.result (λ i. fits i ≡ false) (λ i. fits i ≡ true) c.find.ensures.ran (λ x q k. search (rules, tests)) (λ x q k. search (rules, tests))) ∙ ap (λ k. first_faulty k fits) n
