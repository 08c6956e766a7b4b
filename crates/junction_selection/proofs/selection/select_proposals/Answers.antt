-- `junction_selection::selection::select_proposals` meets its contract, from what its callees ensure. Assumes nothing.
use native.Mathlib.Omega.{arith}
use mathlib.Core.Path.{ap, ◌∙◌}
use mathlib.Core.List.{[]}
use lib.Dec.{eqb}
use Rattle.definitions.specs.Scan.{any}
use Rattle.definitions.specs.Sort.{select}
use Rattle.junction_selection.specs.Ranks.{conflict_at, selected_of}
use Rattle.junction_selection.specs.Taken.{removed_at}
use Rattle.junction_selection.proofs.Standings.{order-front}
use Rattle.junction_selection.proofs.selection.select_proposals.Goals as goal

pub returns : goal.returns
unfolding removed_at selected_of
returns c j l =
    c.select_ranked.ensures j l
    ∙ ap (λ m. any (λ q. eqb j q.index) (select (conflict_at c.args.found.now.lists.now.full.now c.args.found.now.lists.now.count) [] m))
    (order-front c.args.found.now.rows.now c.rank_proposals-m.new.order c.rank_proposals-m.result
    (omega (arith, c.rank_proposals-m.ensures.listed_then.1, c.requires.few, c.rank_proposals-m.auto.order)) ∙ c.rank_proposals-m.ensures.order)
