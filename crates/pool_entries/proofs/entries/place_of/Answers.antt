-- `entries::place_of` meets its contract, by what a binary search says of entries in order. Assumes nothing.
use Rattle.std.proofs.Common.{rules, subst, sym, ◌+◌, ◌*◌, ◌≤◌, length, get_or}
use Rattle.std.specs.Prelude.{IfSome}
use Rattle.std.proofs.lemmas.List.Sorted.{answers_always}
use Rattle.pool_entries.specs.Steps.{Found}
use Rattle.pool_entries.proofs.Placing.{searched, inside}
use Rattle.pool_entries.proofs.entries.place_of.Goals as goal

pub returns : goal.returns
returns c =
    let l = c.args.entries.now in
    let facts = c.binary_search_by_key.ensures in
    let by_key = facts.position (λ entry. get_or entry 0 0) (answers_always _ _ _ (λ f a r g called. search rules)) in
    subst (λ o. IfSome o (λ k. 4 * (k + 1) ≤ length l) × Found l c.args.map o) (sym c.ok.ensures.value)
    (inside l _ c.as_chunks.ensures.front_len _ facts.bound, λ M f rising e. searched l c.args.map c.as_chunks.ensures.front M f rising e _ facts.bound by_key)
