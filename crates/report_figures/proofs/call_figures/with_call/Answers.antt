-- `call_figures::with_call` meets its contract, by the number that the call answered: the rows that are kept are those that the output begins with. Assumes nothing.
use Rattle.std.proofs.Common.{◌≡◌, sym, ap, ◌∙◌, subst}
use Rattle.checks.specs.Passes.{pass_number, Named}
use Rattle.report.specs.Report.{sum64, added_by}
use Rattle.report_figures.specs.Forms.{report_form}
use Rattle.report_figures.specs.Calls.{call_run}
use Rattle.report_figures.proofs.Held.{held-on_map, kept-called}
use Rattle.report_figures.proofs.call_figures.with_call.Goals as goal

pub with_kept-requires : goal.with_kept-requires
with_kept-requires c = held-on_map c.args.value c.args.output.now (c.requires c.if-number-ne0.false).2 c.as_chunks.ensures.front

pub returns : goal.returns
returns c =
    let given = c.args in
    let left = c.requires c.if-number-ne0.false in
    let pass : pass_number c.unwrap.result ≡ given.pass = subst (Named given.pass) c.unwrap.ensures c.try_from.ensures.1 in
    c.with_kept.ensures
    ∙ ap (added_by sum64 (report_form given.report)) (kept-called c.unwrap.result pass given.value given.count given.output.now left.2 c.as_chunks.ensures.front)
    ∙ ap (λ n. added_by sum64 (report_form given.report) (call_run given.pass n given.value given.count given.output.now)) (sym c.if-number-ne0.false)
