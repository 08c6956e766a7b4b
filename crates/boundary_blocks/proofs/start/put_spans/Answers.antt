-- `boundary_blocks::start::put_spans` meets its contract. The loop's invariant: the endpoints of the first k rows are stored, and nothing else. Assumes nothing.
use Prim.Native.Nat.{◌*◌}
use native.Mathlib.Omega.{arith}
use mathlib.Core.Path.{refl, ap, ◌∙◌}
use mathlib.Core.List.{[]}
use lib.ListN.{get_or}
use lib.Seq.{sets}
use Rattle.definitions.specs.Scan.{concat_map}
use Rattle.rest.specs.FlatLists.{flat_segment}
use Rattle.boundary_blocks.specs.Blocks.{part}
use Rattle.boundary_blocks.specs.Start.{ends_of_lem}
use Rattle.boundary_blocks.proofs.Placing.{row_more, ends_block_lem}
use Rattle.boundary_blocks.proofs.start.put_spans.Goals as goal

pub loop-k-init : goal.loop-k-init
unfolding ends_of_lem concat_map
loop-k-init c = (refl, refl)

pub loop-k-preserved : goal.loop-k-preserved
unfolding ends_of_lem
loop-k-preserved c =
    let turn = c.loop-k in
    let given = c.args in
    let rows = given.rows.now in
    let old = given.spans.now in
    let row = get_or rows turn.k [] in (
      c.copy_block.auto.to ∙ turn.invariant.0,
      c.copy_block.ensures
          ∙ ap (λ l. sets l (4 * turn.k) (part 1 4 row)) turn.invariant.1
          ∙ row_more (λ r. flat_segment r.line) 4 (λ r. refl) (λ n. omega arith) refl rows old turn.k [] c.loop-k-test.true (omega (arith, c.loop-k-test.true, c.requires)) (ends_block_lem row (omega (arith, c.told-rows turn.k c.loop-k-test.true))),
    )
