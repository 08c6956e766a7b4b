-- `result_writer::spend_numbers` meets its contract. The loop's invariant is `Spending`. Assumes nothing.
use Rattle.std.proofs.Common.{ap, ◌∙◌, length}
use Rattle.std.specs.Prelude.{Some}
use Rattle.results.specs.Shortest.{shortest}
use Rattle.result_writer.specs.Contract.{spent}
use Rattle.result_writer.proofs.Spending.{spending_goes_on, spending_stops, spending_ends}
use Rattle.result_writer.proofs.Mapped.{mapped_inside, mapped_ends, mapped_item}
use Rattle.result_writer.proofs.spend_numbers.Goals as goal

pub returns-in_err-left : goal.returns-in_err-left
returns-in_err-left g c =
    let size = ap (λ n. spent (Some c.loop-n.left) (length (shortest n))) (mapped_item g.T.Entry.value c.args.numbers.now c.loop-n.n-index c.loop-n-test.true c.n-item.is c.value.ensures) in
    rw c.from_residual.ensures
    (spending_stops c.loop-n.invariant (mapped_inside g.T.Entry.value c.args.numbers.now c.loop-n.n-index c.loop-n-test.true) (c.spend_number.ensures ∙ size) c.in_err-left.was)

pub loop-n-preserved : goal.loop-n-preserved
loop-n-preserved g c =
    let size = ap (λ n. spent (Some c.loop-n.left) (length (shortest n))) (mapped_item g.T.Entry.value c.args.numbers.now c.loop-n.n-index c.loop-n-test.true c.n-item.is c.value.ensures) in
    spending_goes_on c.loop-n.invariant (mapped_inside g.T.Entry.value c.args.numbers.now c.loop-n.n-index c.loop-n-test.true) (c.spend_number.ensures ∙ size) c.in_ok-left.was

pub returns : goal.returns
returns g c = spending_ends c.loop-n.invariant (mapped_ends g.T.Entry.value c.args.numbers.now c.loop-n.n-index c.loop-n-test.false)
