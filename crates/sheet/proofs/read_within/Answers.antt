-- `sheet::read_within` meets its contract: nothing is stored before the whole of the bytes is judged and the lists are known to have room. Assumes nothing.
use Rattle.std.proofs.Common.{rules, sym, ◌∙◌}
use Rattle.refusals.proofs.Steps.{holds}
use Rattle.sheet.proofs.Passed.{passed}
use Rattle.sheet.proofs.Answering.{answered-read, answered-short}
use Rattle.sheet.proofs.read_within.Goals as goal

pub returns-in_err-ensure : goal.returns-in_err-ensure
returns-in_err-ensure c =
    rw (passed _ c.from_residual-in_err-ensure.ensures.1)
    (answered-short c.in_ok-plan.ensures _ _ _ _ c.stated_length-stated.ensures c.have_room.ensures c.in_err-ensure.ensures)

pub returns : goal.returns
returns c =
    answered-read c.in_ok-plan.ensures _ _ _ _ c.stated_length-stated.ensures (sym c.have_room.ensures ∙ holds 10 _ c.in_ok-ensure.ensures) c.header_of.ensures
    (search rules ∙ c.fill.ensures.filled.cells) (search rules ∙ c.fill.ensures.filled.spans)
    (search rules ∙ c.fill.ensures.filled.boundaries) (search rules ∙ c.fill.ensures.filled.anchors)
