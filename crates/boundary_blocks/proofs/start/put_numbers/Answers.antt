-- `boundary_blocks::start::put_numbers` meets its contract. The loop's invariant: the numbers of the first k rows are stored, and nothing else. Assumes nothing.
use Prim.Native.Nat.{◌*◌}
use native.Mathlib.Omega.{arith}
use mathlib.Core.Path.{◌≡◌, refl, sym, ap, ◌∙◌}
use mathlib.Core.List.{[], ◌∷◌}
use lib.ListN.{get_or, set, length-set, take}
use Rattle.definitions.specs.Scan.{concat_map}
use Rattle.definitions.specs.Lists.{overwrite}
use Rattle.laws.specs.ListLaws.FlatRows.{rows_held}
use Rattle.boundary_blocks.specs.Start.{numbers_of}
use Rattle.boundary_blocks.proofs.Placing.{row_more}
use Rattle.boundary_blocks.proofs.start.put_numbers.Goals as goal

pub loop-k-init : goal.loop-k-init
unfolding numbers_of concat_map
loop-k-init c = (refl, refl)

pub loop-k-preserved : goal.loop-k-preserved
unfolding numbers_of
loop-k-preserved c =
    let turn = c.loop-k in
    let given = c.args in
    let rows = given.rows.now in
    let old = given.numbers.now in
    let number = get_or (get_or rows turn.k []) 0 0 in
    let one : 1 * turn.k ≡ turn.k = omega arith in (
      length-set turn.numbers turn.k number ∙ turn.invariant.0,
      ap (λ l. set l turn.k number) turn.invariant.1
          ∙ ap (λ n. set (overwrite (numbers_of (rows_held (take turn.k rows))) old) n number) (sym one)
          ∙ row_more (λ r. r.number ∷ []) 1 (λ r. refl) (λ n. omega arith) refl rows old turn.k [] c.loop-k-test.true (omega (arith, c.loop-k-test.true, c.requires)) refl,
    )
