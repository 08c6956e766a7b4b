-- `result_writer::spend_list` meets its contract: first the count is taken, then the numbers. Assumes nothing.
use Rattle.std.proofs.Common.{ap, ◌∙◌, length}
use Rattle.std.specs.Prelude.{Some}
use Rattle.definitions.specs.Scan.{concat_map}
use Rattle.results.specs.Shortest.{shortest}
use Rattle.result_writer.specs.Contract.{spent}
use Rattle.result_writer.proofs.Mapped.{themselves}
use Rattle.result_writer.proofs.Spending.{spent_none, spent-behind, spent-list}
use Rattle.result_writer.proofs.spend_list.Goals as goal

pub returns-in_err-left : goal.returns-in_err-left
returns-in_err-left c =
    rw c.from_residual.ensures (spent-list (Some c.args.room) c.args.size c.args.numbers.now c.spend_number.ensures (spent_none _ c.in_err-left.was))

pub returns : goal.returns
returns c =
    let given = c.args in
    let list = given.numbers.now in
    let left = c.spend_numbers.ensures ∙ ap (λ l. spent (Some c.in_ok-left.left) (length (concat_map shortest l))) (themselves list) in
    spent-list (Some given.room) given.size list c.spend_number.ensures (spent-behind _ c.in_ok-left.was left)
