-- `read_result` meets its contract: nothing is stored before the whole of the bytes is judged and all lists are known to have room. Assumes nothing.
use Rattle.std.proofs.Common.{rules, sym, refl, ◌∙◌}
use Rattle.refusals.proofs.Steps.{holds}
use Rattle.sheet.proofs.Passed.{passed, refuses}
use Rattle.result_reader.proofs.Answering.{answered-read, answered-short, answered-refused}
use Rattle.result_reader.proofs.read_result.Goals as goal

pub returns-in_err-plan : goal.returns-in_err-plan
returns-in_err-plan c = rw (passed _ c.from_residual.ensures.1) (answered-refused _ _ _ _ _ _ c.in_err-plan.ensures refl)

pub returns-in_err-ensure : goal.returns-in_err-ensure
returns-in_err-ensure c =
    let r = refuses 10 _ _ c.in_err-ensure.ensures in
    rw (passed _ c.from_residual-in_err-ensure.ensures.1) (answered-short c.in_ok-plan.ensures _ _ _ _ _ (sym c.have_room.ensures ∙ r.0) r.1)

pub returns : goal.returns
returns c =
    let each = c.fill.ensures.filled in
    answered-read c.in_ok-plan.ensures _ _ _ _ (sym c.have_room.ensures ∙ holds 10 _ c.in_ok-ensure.ensures) refl
    (search rules ∙ each.labels) (search rules ∙ each.tallies) (search rules ∙ each.pairs) (search rules ∙ each.rows)
