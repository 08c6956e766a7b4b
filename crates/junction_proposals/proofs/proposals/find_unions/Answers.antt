-- `junction_proposals::proposals::find_unions` meets its contract. The loop's invariant: the rows are the unions at the boundaries below i. Assumes nothing.
use Prim.Native.Nat.{ℕ}
use native.Mathlib.Omega.{arith}
use mathlib.Core.Path.{sym, ap, ap₂, ◌∙◌, refl}
use Rattle.std.specs.Prelude.{Option}
use mathlib.Core.List.{◌++◌}
use Rattle.definitions.specs.Scan.{to_list, collect}
use Rattle.definitions.specs.Junctions.{Proposal}
use Rattle.laws.specs.ListLaws.ScanSteps.{collect_next}
use Rattle.junction_proposals.specs.Rows.{found_form, rows_of, union_in}
use Rattle.junction_proposals.proofs.RowLaws.{rows_none, at_most_one}
use Rattle.junction_proposals.proofs.proposals.find_unions.Goals as goal

pub loop-i-init : goal.loop-i-init
unfolding collect
loop-i-init c = (omega arith, omega (arith, c.requires.none_yet), refl, refl, ap (rows_of c.args.list.now.rows.now) c.requires.none_yet ∙ rows_none _)

pub loop-i-preserved : goal.loop-i-preserved
loop-i-preserved c =
    let unions : ℕ → Option Proposal = union_in c.args.lists.now in
    let i = c.loop-i.invariant in
    let a = c.add.ensures in (
      omega (arith, c.loop-i-test.true),
      omega (arith, a.count, i.1, at_most_one (found_form c.union_row.result)),
      a.same ∙ i.2,
      a.long ∙ i.3,
      a.rows ∙ ap₂ (λ m o. m ++ to_list o) i.4 c.union_row.ensures ∙ sym (collect_next unions c.loop-i.i),
    )
