-- `junction_proposals::proposals::find_bridges` meets its contract. The loop's invariant: behind the unions stand the bridges of the regions up to k. Assumes nothing.
use Prim.Native.Nat.{ℕ, ◌+◌, ◌≤◌}
use native.Mathlib.Numerals.{add-one}
use native.Mathlib.Nat.{le_antisymm, add-zero}
use native.Mathlib.Omega.{arith}
use mathlib.Core.Path.{◌≡◌, refl, sym, ap, ap₂, ◌∙◌}
use Rattle.std.specs.Prelude.{Option}
use mathlib.Core.List.{List, ◌++◌, append-nil, append_assoc}
use lib.ListN.{length, length-append}
use Rattle.region_pairs.specs.declared.Pair as declared
use Rattle.definitions.specs.Scan.{collect, to_list}
use Rattle.definitions.specs.Limits.{max_entries}
use Rattle.definitions.specs.Junctions.{Proposal}
use Rattle.laws.specs.ListLaws.ScanSteps.{collect_next}
use Rattle.junction_proposals.specs.Bridges.{is_bridge_at}
use Rattle.junction_proposals.specs.Rows.{max_proposals, rows_of}
use Rattle.junction_proposals.proofs.Counting.{bridges, bridges-few}
use Rattle.junction_proposals.proofs.proposals.find_bridges.Goals as goal

module _ (boundaries : List ℕ) (full : List (Option declared.Pair)) (marks counts : List ℕ) (count : ℕ) where
  -- the same of a number as the code counts
  found_at : (k : ℕ) → is_bridge_at boundaries full marks (k + 1) counts count ≡ bridges boundaries full marks counts count k
  found_at k = ap (λ r. is_bridge_at boundaries full marks r counts count) (add-one k)

  -- one bridge more is still few
  few : {unions : ℕ} → unions ≤ count → count ≤ max_entries → (k : ℕ) → unions + length (collect k (bridges boundaries full marks counts count)) + length (to_list (bridges boundaries full marks counts count k)) ≤ max_proposals
  few u f k =
      let found : ℕ → Option Proposal = bridges boundaries full marks counts count in
      omega (
        arith,
        u,
        f,
        bridges-few boundaries full marks counts count (k + 1),
        ap length (collect_next found k),
        length-append (collect k found) (to_list (found k)),
      )

pub loop-k-init : goal.loop-k-init
unfolding collect
loop-k-init c = (omega arith, refl, refl, sym (add-zero c.args.list.now.count), sym (append-nil _))

pub overflow_cast-k : goal.overflow_cast-k
overflow_cast-k c = omega (arith, c.loop-k-test.true, c.requires.lent.labels)

pub add-requires : goal.add-requires
add-requires c =
    let l = c.args.lists.now in
    let i = c.loop-k.invariant in
    omega (arith, few l.boundaries.now l.full.now l.marks.now l.counts.now l.count c.requires.unions c.requires.lent.bounds.few c.loop-k.k, i.3, c.requires.rows_room, i.2, ap (λ o. length (to_list o)) (c.bridge_row.ensures ∙ found_at l.boundaries.now l.full.now l.marks.now l.counts.now l.count c.loop-k.k))

pub loop-k-preserved : goal.loop-k-preserved
loop-k-preserved c =
    let l = c.args.lists.now in
    let found : ℕ → Option Proposal = bridges l.boundaries.now l.full.now l.marks.now l.counts.now l.count in
    let i = c.loop-k.invariant in
    let a = c.add.ensures in
    let unions = rows_of c.args.list.now.rows.now c.args.list.now.count in
    let e = c.bridge_row.ensures ∙ found_at l.boundaries.now l.full.now l.marks.now l.counts.now l.count c.loop-k.k in (
      omega (arith, c.loop-k-test.true),
      a.same ∙ i.1,
      a.long ∙ i.2,
      omega (arith, a.count, i.3, ap (λ o. length (to_list o)) e, ap length (collect_next found c.loop-k.k), length-append (collect c.loop-k.k found) (to_list (found c.loop-k.k))),
      a.rows ∙ ap₂ (λ m o. m ++ to_list o) i.4 e ∙ append_assoc unions (collect c.loop-k.k found) (to_list (found c.loop-k.k))
          ∙ ap (λ m. unions ++ m) (sym (collect_next found c.loop-k.k)),
    )

pub returns : goal.returns
returns c =
    let l = c.args.lists.now in
    let found : ℕ → Option Proposal = bridges l.boundaries.now l.full.now l.marks.now l.counts.now l.count in
    let i = c.loop-k.invariant in
    record {
      same = i.1;
      rows = i.4 ∙ ap (λ k. rows_of c.args.list.now.rows.now c.args.list.now.count ++ collect k found) (le_antisymm i.0 c.loop-k-test.false);
      bound = omega (arith, i.3, few l.boundaries.now l.full.now l.marks.now l.counts.now l.count c.requires.unions c.requires.lent.bounds.few c.loop-k.k);
    }
