-- `components::join_cuts` meets its contract. The invariant: the links of the boundaries passed are merged. Assumes nothing.
use Rattle.definitions.specs.Partition.{merge_all}
use Rattle.interior_proposals.proofs.Preparing.{cuts-start, cuts-size, cuts_more, cuts-end}
use native.Mathlib.Omega.{arith}
use borrow.Author.Rules.{rules}
use Rattle.definitions.specs.Scan.{gather}
use Rattle.interior_proposals.specs.Given.{alone, links_of}
use Rattle.interior_proposals.proofs.components.join_cuts.Goals as goal

pub loop-i-init : goal.loop-i-init
loop-i-init c = (search rules, λ C G e P. cuts-start C P)

pub join_cut-requires : goal.join_cut-requires
join_cut-requires c =
    let C = c.requires.0 in
    let m = c.loop-i.invariant.1 C c.requires.1.0 c.requires.1.1.0 c.requires.1.1.1 in
    (C, (c.requires.1.0, (omega (arith, c.requires.1.1.0, c.loop-i-test.true), (merge_all (alone C) (gather c.loop-i.i (links_of C)), (m.parented, cuts-size C _ m)))))

pub loop-i-preserved : goal.loop-i-preserved
loop-i-preserved c =
    let i = c.loop-i.i in (
      search rules,
      λ C G e P.
          let m = c.loop-i.invariant.1 C G e P in
          cuts_more C i m (c.join_cut.ensures C _ G (omega (arith, e, c.loop-i-test.true)) m.parented (cuts-size C i m)),
    )

pub returns : goal.returns
returns c = λ C G e P. cuts-end C _ (c.loop-i.invariant.1 C G e P) e c.loop-i.invariant.0 c.loop-i-test.false
