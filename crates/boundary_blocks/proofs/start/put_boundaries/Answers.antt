-- `boundary_blocks::start::put_boundaries` meets its contract. The loop's invariant: the boundaries of the first k rows are stored, and nothing else. Assumes nothing.
use Prim.Native.Nat.{◌*◌}
use native.Mathlib.Omega.{arith}
use mathlib.Core.Path.{refl, ap, subst, ◌∙◌}
use mathlib.Core.List.{[]}
use lib.ListN.{get_or}
use lib.Seq.{sets}
use Rattle.definitions.specs.Scan.{concat_map}
use Rattle.laws.specs.ListLaws.FlatRows.{row_at}
use Rattle.laws.specs.ListLaws.Members.{all-place}
use Rattle.std.proofs.lemmas.List.{get_or-map, length-map}
use Rattle.rest.specs.FlatLists.{flat_boundary}
use Rattle.rest_definitions.specs.RowOrder.{no_row}
use Rattle.boundary_blocks.specs.Start.{NamedIn, turned_in, turned_of}
use Rattle.boundary_blocks.proofs.Placing.{row_more}
use Rattle.boundary_blocks.proofs.start.put_boundaries.Goals as goal

pub loop-k-init : goal.loop-k-init
unfolding turned_of concat_map
loop-k-init c = (refl, refl)

pub loop-k-preserved : goal.loop-k-preserved
unfolding turned_of
loop-k-preserved c =
    let turn = c.loop-k in
    let given = c.args in
    let rows = given.rows.now in
    let old = given.boundaries.now in
    let row = row_at (get_or rows turn.k []) 0 in (
      c.put_boundary.auto.boundaries ∙ turn.invariant.0,
      c.put_boundary.ensures
          ∙ ap (λ l. sets l (9 * turn.k) (flat_boundary (turned_in given.lent.now row))) turn.invariant.1
          ∙ row_more (λ r. flat_boundary (turned_in given.lent.now r)) 9 (λ r. refl) (λ n. omega arith) refl rows old turn.k [] c.loop-k-test.true (omega (arith, c.loop-k-test.true, c.requires.0)) refl,
    )

pub put_boundary-requires : goal.put_boundary-requires
put_boundary-requires c =
    let turn = c.loop-k in
    let given = c.args in
    let rows = given.rows.now in
    let named = all-place no_row c.requires.1 turn.k (omega (arith, length-map rows (λ r. row_at r 0), c.loop-k-test.true)) in
    (omega (arith, c.requires.0, turn.invariant.0, c.loop-k-test.true), subst (NamedIn given.lent.now) (get_or-map (λ r. row_at r 0) rows turn.k [] no_row c.loop-k-test.true) named)
