-- `components::join_cut` meets its contract, by the test. Assumes nothing.
use mathlib.Core.Path.{ap₂, subst}
use lib.ListN.{length}
use Rattle.context.specs.Shown.{pairs_between}
use Rattle.interior_proposals.specs.Forest.{Merged}
use Rattle.context.proofs.ShownLaws.{shown-stretch}
use Rattle.interior_proposals.proofs.Forests.{merged-start}
use Rattle.interior_proposals.proofs.Preparing.{rows-placed, cut-joins, cut-idle}
use Rattle.interior_proposals.proofs.components.join_cut.Goals as goal

pub join_pairs-requires : goal.join_pairs-requires
join_pairs-requires c =
    let g = c.requires.1.0.paired in
    let l = c.requires.1.1.0 in
    let w = shown-stretch g c.args.i l in
    let f = c.requires.1.1.1 in
    rw (c.rows.ensures.0, c.rows.ensures.1) (record {
      sizes = (w.rising, w.long);
      joinable = (f.0, (f.1.0, rows-placed g c.args.i l (length f.0) f.1.1));
    })

pub returns-then-is_ordinary : goal.returns-then-is_ordinary
returns-then-is_ordinary c =
    λ C cs G l P e. cut-joins C _ G.paired l (c.is_ordinary.ensures C G.bounds G.tallied l) c.if-is_ordinary.true (subst (λ ps. Merged cs c.args.parents.now ps c.join_pairs.new.parents) (ap₂ (pairs_between c.args.context.pairs.now) c.rows.ensures.0 c.rows.ensures.1) (c.join_pairs.ensures cs P (rw (c.rows.ensures.0, c.rows.ensures.1) (rows-placed G.paired _ l (length cs) e))))

pub returns-else-is_ordinary : goal.returns-else-is_ordinary
returns-else-is_ordinary c = λ C cs G l P e. cut-idle C _ (c.is_ordinary.ensures C G.bounds G.tallied l) c.if-is_ordinary.false (merged-start P)
