-- `row_lengths::is_named` meets its contract. Assumes nothing.
use Rattle.std.proofs.Common.{eqb, ◌∙◌, rules}
use Rattle.std.proofs.lemmas.Iterator.{YieldsList-from_slice}
use Rattle.std.proofs.lemmas.Iterator.Search.{any_from_yields_List}
use Rattle.laws.specs.ListLaws.FlatRows.{row_at}
use Rattle.report_figures.proofs.Counting.{named_held}
use Rattle.report_figures.proofs.row_lengths.is_named.Goals as goal

pub returns : goal.returns
returns c =
    let rows = c.args.rows.now in
    let number = c.args.number in
    any_from_yields_List (λ row. eqb (row_at row 0).number number) _ _ c.any.result c.any.ensures.ran (YieldsList-from_slice rows (search rules)) (λ x b q k. (search rules, search rules))
    ∙ named_held number rows
