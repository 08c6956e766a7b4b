-- `boundary_blocks::start::put_rows` meets its contract. The loop's invariant: the rows of the first k places are stored, and nothing else. Assumes nothing.
use Prim.Native.Nat.{◌+◌, ◌*◌}
use native.Mathlib.Omega.{arith}
use mathlib.Core.Path.{refl, ap, ◌∙◌}
use lib.ListN.{get_or, set, length-set}
use lib.Seq.{sets}
use borrow.Author.Rules.{rules}
use Rattle.definitions.specs.Scan.{collect}
use Rattle.definitions.specs.Rows.{flat_rows}
use Rattle.boundary_blocks.specs.Blocks.{part}
use Rattle.boundary_blocks.specs.Start.{rows_at}
use Rattle.boundary_blocks.proofs.Placing.{output_more}
use Rattle.boundary_blocks.proofs.start.put_rows.Goals as goal

pub loop-k-init : goal.loop-k-init
unfolding rows_at collect flat_rows
loop-k-init c = (omega arith, refl, refl)

pub loop-k-preserved : goal.loop-k-preserved
loop-k-preserved c =
    let turn = c.loop-k in
    let given = c.args in
    let numbers = given.numbers.now in
    let spans = given.spans.now in (
      omega arith,
      c.copy_block.auto.to ∙ length-set turn.output (5 * turn.k) (get_or numbers turn.k 0) ∙ turn.invariant.1,
      c.copy_block.ensures
          ∙ ap (λ l. sets (set l (5 * turn.k) (get_or numbers turn.k 0)) (5 * turn.k + 1) (part (4 * turn.k) 4 spans)) turn.invariant.2
          ∙ output_more numbers spans given.output.now turn.k (search rules) (search rules),
    )
