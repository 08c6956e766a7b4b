-- `row_lengths::count_unnamed` meets its contract. Assumes nothing.
use Rattle.std.proofs.Common.{not, ◌∙◌, arith, rules}
use Rattle.std.proofs.lemmas.Iterator.{YieldsList-from_range}
use Rattle.std.proofs.lemmas.Iterator.Consumers.{YieldsList-from_filter, count_from_yields_List}
use Rattle.report.specs.ReportLaws.Named.{named}
use Rattle.laws.specs.ListLaws.FlatRows.{rows_held}
use Rattle.report_figures.proofs.Counting.{unnamed_range}
use Rattle.report_figures.proofs.row_lengths.count_unnamed.Goals as goal

pub returns : goal.returns
returns c =
    let rows = rows_held c.args.rows.now in
    let n = c.args.count in
    count_from_yields_List c.filter.result c.count.result c.count.ensures.ran
    (YieldsList-from_filter _ (λ i. not (named rows i)) (YieldsList-from_range 0 n n c.filter.ensures.source (omega arith)) c.filter.ensures.closure (λ x b q k. (search rules, search rules)))
    ∙ unnamed_range rows n
