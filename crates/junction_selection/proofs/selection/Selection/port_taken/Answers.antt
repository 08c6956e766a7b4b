-- `junction_selection::selection::Selection::port_taken` meets its contract, by what `any` gives. Assumes nothing.
use Rattle.std.proofs.Common.{rules, tests, ◌≡◌, ◌∙◌, true, false, ◌&&◌, ◌||◌, get_or}
use mathlib.Core.Bool.{and_comm}
use Rattle.laws.specs.ListLaws.Below.{below_ext}
use Rattle.laws.specs.ListLaws.Chains.{any_from_range, any_is}
use Rattle.junction_proposals.specs.Rows.{row_at}
use Rattle.junction_selection.specs.Ranks.{reserves_at}
use Rattle.junction_selection.proofs.selection.Selection.port_taken.Goals as goal

pub returns : goal.returns
returns c =
    any_is (λ j. (get_or c.args.self.now.removed.now j false || get_or c.args.self.now.reserved j false) && reserves_at c.args.found.now.lists.now.full.now (row_at c.args.found.now.rows.now c.args.p) j) c.args.found.now.lists.now.count _
    (any_from_range _ _ _ c.any.result
    (λ j. ((get_or c.args.self.now.removed.now j false || get_or c.args.self.now.reserved j false) && reserves_at c.args.found.now.lists.now.full.now (row_at c.args.found.now.rows.now c.args.p) j) ≡ true)
    (λ j. ((get_or c.args.self.now.removed.now j false || get_or c.args.self.now.reserved j false) && reserves_at c.args.found.now.lists.now.full.now (row_at c.args.found.now.rows.now c.args.p) j) ≡ false)
    c.any.ensures.ran (λ x q k. search (rules, tests)) (λ x q k. search (rules, tests)))
    ∙ below_ext c.args.found.now.lists.now.count _ _ (λ j l. and_comm (get_or c.args.self.now.removed.now j false || get_or c.args.self.now.reserved j false) (reserves_at c.args.found.now.lists.now.full.now (row_at c.args.found.now.rows.now c.args.p) j))
