-- `row_lengths::squared_lengths` meets its contract: the lines lie on a map, so that the sum of their squares fits. Assumes nothing.
use Rattle.std.proofs.Common.{rules, ◌∙◌}
use Rattle.std.proofs.lemmas.Iterator.{YieldsList-from_slice, YieldsList-from_map}
use Rattle.std.proofs.lemmas.Iterator.Consumers.{sum_from_yields_List}
use Rattle.laws.specs.ListLaws.FlatRows.{row_at}
use Rattle.report.specs.Runs.{squared_length}
use Rattle.report_figures.proofs.Lengths.{lengths_held}
use Rattle.report_figures.proofs.row_lengths.squared_lengths.Goals as goal

pub returns : goal.returns
returns c =
    let rows = c.args.rows.now in
    sum_from_yields_List c.map.result c.sum.result c.sum.ensures.ran
    (YieldsList-from_map _ (λ row. squared_length (row_at row 0).line) (YieldsList-from_slice rows (search rules)) c.map.ensures.closure (λ x r q k. (search rules, search rules)))
    ∙ lengths_held rows
