-- `junction_proposals::proposals::RowList::add` meets its contract, by what was found. Assumes nothing.
use native.Mathlib.Omega.{arith}
use mathlib.Core.Path.{ap, sym, ◌∙◌}
use lib.ListN.{length}
use mathlib.Core.List.{◌++◌}
use Rattle.definitions.specs.Scan.{to_list}
use Rattle.junction_proposals.specs.Rows.{found_form, rows_of}
use Rattle.junction_proposals.proofs.RowLaws.{rows-put}
use Rattle.junction_proposals.proofs.proposals.RowList.add.Goals as goal

pub returns-in-Some-clause-rows : goal.returns-in-Some-clause-rows
returns-in-Some-clause-rows c =
    let list = c.args.self.now in
    rows-put list.rows.now list.count c.in-Some.row (omega (arith, c.requires.room, ap (λ o. length (to_list (found_form o))) c.in-Some.is))
    ∙ ap (λ o. rows_of list.rows.now list.count ++ to_list (found_form o)) (sym c.in-Some.is)
