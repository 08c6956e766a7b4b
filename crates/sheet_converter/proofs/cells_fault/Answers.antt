-- `sheet_converter::cells_fault` meets its contract. The loop's invariant: the cells from i on stand from here on (`Walking`), and none before them is faulty. What was
-- judged is not refused. Assumes nothing.
use native.Mathlib.Omega.{arith}
use mathlib.Core.Path.{sym, ap, ◌∙◌}
use lib.ListN.{length}
use Rattle.definitions.specs.Refusals.{elevations_fault}
use Rattle.definitions.specs.Sheet.{cell}
use Rattle.laws.specs.ListLaws.FirstBelow.{none_faulty_zero, none_faulty_more, none_faulty_end, first_faulty_lem}
use Rattle.sheet.specs.Numbers.{values_at}
use Rattle.sheet.proofs.Filling.{unwrapped, held-length}
use Rattle.sheet.proofs.Items.{as_cell, up_to_most}
use Rattle.sheet_converter.proofs.Walking.{walking_starts, walking_unwraps, walking_cell, walking_goes_on}
use Rattle.sheet_converter.proofs.cells_fault.Invariants.{fits, fitting}
use Rattle.sheet_converter.proofs.cells_fault.Goals as goal

pub loop-i-init : goal.loop-i-init
loop-i-init c =
    (walking_starts c.requires, none_faulty_zero (fits (values_at cell c.args.bytes.now c.args.at c.args.count)))

pub unwrap-read-requires : goal.unwrap-read-requires
unwrap-read-requires c = walking_unwraps c.loop-i.invariant.0 c.loop-i-test.true _ (as_cell _ _ c.item.ensures)

pub overflow_cast-read : goal.overflow_cast-read
overflow_cast-read c =
    omega (arith, up_to_most 255 _ _ (unwrapped _ c.item.ensures c.unwrap-read.ensures))

pub returns-then-not-elevation_fits : goal.returns-then-not-elevation_fits
unfolding elevations_fault
returns-then-not-elevation_fits c =
    let cells = (values_at cell c.args.bytes.now c.args.at c.args.count) in
    let long = held-length c.requires in
    sym (first_faulty_lem (fits cells) (length cells) c.loop-i.i (omega (arith, long, c.loop-i-test.true)) c.loop-i.invariant.1
    (c.elevation_fits.ensures ∙ ap fitting (sym (walking_cell c.loop-i.invariant.0 c.loop-i-test.true (unwrapped _ (as_cell _ _ c.item.ensures) c.unwrap-read.ensures)))) c.if-not-elevation_fits.true-raw)

pub loop-i-preserved : goal.loop-i-preserved
loop-i-preserved c = (
  walking_goes_on c.loop-i.invariant.0 c.loop-i-test.true (unwrapped _ (as_cell _ _ c.item.ensures) c.unwrap-read.ensures),
  none_faulty_more (fits (values_at cell c.args.bytes.now c.args.at c.args.count)) c.loop-i.i c.loop-i.invariant.1
      (c.elevation_fits.ensures ∙ ap fitting (sym (walking_cell c.loop-i.invariant.0 c.loop-i-test.true (unwrapped _ (as_cell _ _ c.item.ensures) c.unwrap-read.ensures)))) c.if-not-elevation_fits.false-raw,
)

pub returns : goal.returns
unfolding elevations_fault
returns c =
    let cells = (values_at cell c.args.bytes.now c.args.at c.args.count) in
    let long = held-length c.requires in
    sym (none_faulty_end (fits cells) (length cells) c.loop-i.i (omega (arith, long, c.loop-i.invariant.0.few)) (omega (arith, long, c.loop-i-test.false)) c.loop-i.invariant.1)
