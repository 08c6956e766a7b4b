-- `rest_lists::lists::lists_fault` meets its contract: the chain looks for the first entry at which the lists differ. Assumes nothing.
use Prim.Native.Nat.{max}
use Rattle.std.proofs.Common.{rules, tests, ap, ◌∙◌, ◌≡◌, ◌/◌, length, true, false, ℕ, Bool}
use Rattle.std.proofs.lemmas.Iterator.{first_from_Range}
use Rattle.definitions.specs.Refusals.{first_faulty}
use Rattle.laws.specs.ListLaws.Chains.{found_is_first}
use Rattle.rest_definitions.specs.RestVerdict.{lists_fault}
use Rattle.rest_lists.specs.Early.{agrees_at}
use Rattle.rest_lists.proofs.lists.lists_fault.Goals as goal

pub returns : goal.returns
unfolding lists_fault
returns c =
    let fits : ℕ → Bool = agrees_at c.args.spans.now c.args.boundaries.now in
    let n : c.max-count.result ≡ max (length c.args.spans.now / 4) (length c.args.boundaries.now / 9) = search rules in
    found_is_first fits c.max-count.result c.find.result (first_from_Range _ _ _ c.find.result (λ i. fits i ≡ false) (λ i. fits i ≡ true) c.find.ensures.ran (λ x q k. search (rules, tests)) (λ x q k. search (rules, tests))) ∙ ap (λ k. first_faulty k fits) n
