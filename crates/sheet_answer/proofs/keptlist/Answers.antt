-- `sheet_answer::keptlist` meets its contract where a sheet was run: its rows are printed. Assumes nothing.
use Rattle.std.proofs.Common.{sym, subst, arith, List, ℕ}
use Rattle.std.proofs.Math.Seq.{length-take-le}
use Rattle.printed.specs.Contract.{Printed}
use Rattle.sheet_answer.proofs.Printing.{rows_left, kept-printed}
use Rattle.sheet_answer.proofs.keptlist.Goals as goal

pub slice_bounds-print_kept-end-in-Ok : goal.slice_bounds-print_kept-end-in-Ok
slice_bounds-print_kept-end-in-Ok c =
    let run = c.run_sheet.ensures.run_of c.in-Ok.run' c.in-Ok.is in
    sym (length-take-le c.in-Ok.run'.kept c.as_chunks.result.0.now (omega (arith, c.as_chunks.ensures.front_len, (rows_left c.args.bytes.now run).held)))

pub returns-in-Ok-clause-prints : goal.returns-in-Ok-clause-prints
returns-in-Ok-clause-prints c =
    let run = c.run_sheet.ensures.run_of c.in-Ok.run' c.in-Ok.is in
    subst (λ (l : List ℕ). Printed l c.args.out.now c.print_kept.new.out c.print_kept.result) (sym (kept-printed c.args.bytes.now run c.as_chunks.ensures.front)) c.print_kept.ensures.printed
