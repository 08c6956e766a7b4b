-- `ranked_rows::share_port` meets its contract, by what `any` gives. Assumes nothing.
use Rattle.std.proofs.Common.{rules, tests, ◌≡◌, true, false, ◌&&◌, ℕ, Bool}
use Rattle.laws.specs.ListLaws.Chains.{any_from_range, any_is}
use Rattle.junction_proposals.specs.Rows.{form}
use Rattle.junction_selection.specs.Ranks.{reserves_at}
use Rattle.ranked_rows.proofs.share_port.Goals as goal

pub returns : goal.returns
returns c =
    let full = c.args.lists.now.full.now in
    let shared : ℕ → Bool = λ j. reserves_at full (form c.args.other) j && reserves_at full (form c.args.taken) j in
    any_is shared c.args.lists.now.count _
    (any_from_range _ _ _ c.any.result (λ j. shared j ≡ true) (λ j. shared j ≡ false) c.any.ensures.ran (λ x q k. search (rules, tests)) (λ x q k. search (rules, tests)))
