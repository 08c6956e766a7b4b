-- `junction_proposals::bridges::next_port` meets its contract, by what `find` gives. Assumes nothing.
use Rattle.std.proofs.Common.{rules, tests, arith, ℕ, Bool, ◌≡◌, ◌∙◌, sym, ap, true, false}
use Rattle.std.specs.Prelude.{None, Some}
use Rattle.std.proofs.lemmas.Iterator.{first_from_Range}
use Rattle.definitions.specs.Junctions.{beyond}
use Rattle.context.specs.Rows.{full_pair_of}
use Rattle.junction_proposals.specs.Ports.{names}
use Rattle.junction_proposals.specs.Bridges.{FirstIn, is_pocket_port}
use Rattle.junction_proposals.proofs.bridges.next_port.Goals as goal

pub returns-in_err-index : goal.returns-in_err-index
unfolding is_pocket_port names
returns-in_err-index c =
    let port : ℕ → Bool = is_pocket_port c.args.lists.now.full.now c.args.r c.args.lists.now.boundaries.now in
    let none : FirstIn port c.args.from c.args.lists.now.count None =
    first_from_Range _ _ _ None (λ j. port j ≡ true) (λ j. port j ≡ false) c.in_err-index.ensures.ran (λ x q k. search (rules, tests)) (λ x q k. search (rules, tests)) in
    record { first = rw c.from_residual.ensures none }

pub bounds-lists-index : goal.bounds-lists-index
unfolding is_pocket_port names
bounds-lists-index c =
    let port : ℕ → Bool = is_pocket_port c.args.lists.now.full.now c.args.r c.args.lists.now.boundaries.now in
    let first : FirstIn port c.args.from c.args.lists.now.count (Some c.in_ok-index.index) =
    first_from_Range _ _ _ (Some c.in_ok-index.index) (λ j. port j ≡ true) (λ j. port j ≡ false) c.in_ok-index.ensures.ran (λ x q k. search (rules, tests)) (λ x q k. search (rules, tests)) in
    omega (arith, first.1, c.requires.few)

pub offset_bounds-lists-index : goal.offset_bounds-lists-index
unfolding is_pocket_port names
offset_bounds-lists-index c =
    let port : ℕ → Bool = is_pocket_port c.args.lists.now.full.now c.args.r c.args.lists.now.boundaries.now in
    let first : FirstIn port c.args.from c.args.lists.now.count (Some c.in_ok-index.index) =
    first_from_Range _ _ _ (Some c.in_ok-index.index) (λ j. port j ≡ true) (λ j. port j ≡ false) c.in_ok-index.ensures.ran (λ x q k. search (rules, tests)) (λ x q k. search (rules, tests)) in
    record { fits = omega (arith, first.1, c.requires.few) }

pub returns : goal.returns
unfolding is_pocket_port names
returns c =
    let port : ℕ → Bool = is_pocket_port c.args.lists.now.full.now c.args.r c.args.lists.now.boundaries.now in
    let first : FirstIn port c.args.from c.args.lists.now.count (Some c.in_ok-index.index) =
    first_from_Range _ _ _ (Some c.in_ok-index.index) (λ j. port j ≡ true) (λ j. port j ≡ false) c.in_ok-index.ensures.ran (λ x q k. search (rules, tests)) (λ x q k. search (rules, tests)) in
    record { first = record { first = first; beyond = c.other.ensures ∙ sym (ap (λ o. beyond c.args.r (full_pair_of o)) c.in_ok-pair.was) } }
