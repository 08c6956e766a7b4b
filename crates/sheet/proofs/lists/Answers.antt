-- `sheet::lists` meets its contract: the parts follow one another, the first that is refused is the answer, and behind the last the bytes end. Assumes nothing.
use Rattle.std.proofs.Common.{arith}
use Rattle.laws.specs.SheetReading.SheetLaws.{keeps-entries}
use Rattle.definitions.specs.Sheet.{has_spans}
use Rattle.sheet.specs.Parts.{kind_number}
use Rattle.sheet.proofs.Passed.{passed}
use Rattle.sheet.proofs.PartsFound.{keeps-spans, part-inside, cells-inside, cells_faulty, spans_faulty, boundaries_faulty, anchors_faulty, lists-too_long, lists-found}
use Rattle.sheet.proofs.lists.Goals as goal

pub returns-in_err-front : goal.returns-in_err-front
returns-in_err-front c = rw (passed _ c.from_residual.ensures.1) (cells_faulty (has_spans (kind_number c.args.kind)) _ _ _ _ c.in_err-front.ensures)

pub spans_held-requires : goal.spans_held-requires
spans_held-requires c = cells-inside (has_spans (kind_number c.args.kind)) _ _ _ c.requires c.in_ok-front.ensures

pub returns-in_err-spans : goal.returns-in_err-spans
returns-in_err-spans c = rw (passed _ c.from_residual-in_err-spans.ensures.1) (spans_faulty _ _ _ _ c.in_ok-front.ensures c.in_err-spans.ensures)

pub entries-requires : goal.entries-requires
entries-requires c = (
  part-inside (keeps-spans (has_spans (kind_number c.args.kind))) (cells-inside (has_spans (kind_number c.args.kind)) _ _ _ c.requires c.in_ok-front.ensures) c.in_ok-spans.ensures,
  omega arith,
)

pub returns-in_err-boundaries : goal.returns-in_err-boundaries
returns-in_err-boundaries c =
    rw (passed _ c.from_residual-in_err-boundaries.ensures.1) (boundaries_faulty _ _ _ _ c.in_ok-front.ensures c.in_ok-spans.ensures c.in_err-boundaries.ensures)

pub entries-requires-2 : goal.entries-requires-2
entries-requires-2 c = (
  part-inside (keeps-entries 9) (part-inside (keeps-spans (has_spans (kind_number c.args.kind))) (cells-inside (has_spans (kind_number c.args.kind)) _ _ _ c.requires c.in_ok-front.ensures) c.in_ok-spans.ensures)
      c.in_ok-boundaries.ensures,
  omega arith,
)

pub returns-in_err-anchors : goal.returns-in_err-anchors
returns-in_err-anchors c =
    rw (passed _ c.from_residual-in_err-anchors.ensures.1)
    (anchors_faulty _ _ _ _ c.in_ok-front.ensures c.in_ok-spans.ensures c.in_ok-boundaries.ensures c.in_err-anchors.ensures)

pub returns-in_err-end_at : goal.returns-in_err-end_at
returns-in_err-end_at c =
    let left_over = c.in_err-end_at.ensures in
    rw (passed _ c.from_residual-in_err-end_at.ensures.1, left_over.1)
    (lists-too_long _ _ _ _ c.in_ok-front.ensures c.in_ok-spans.ensures c.in_ok-boundaries.ensures c.in_ok-anchors.ensures left_over.0)

pub returns : goal.returns
returns c =
    lists-found _ _ _ _ c.in_ok-front.ensures c.in_ok-spans.ensures c.in_ok-boundaries.ensures c.in_ok-anchors.ensures c.requires c.in_ok-end_at.ensures
