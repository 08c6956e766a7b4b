-- `proposals::propose_at` meets its contract, by what is first. Assumes nothing.
use Prim.Native.Nat.{◌<◌}
use native.Mathlib.Omega.{arith}
use mathlib.Core.Path.{◌∙◌}
use Rattle.interior_proposals.proofs.ProgressLaws.{facing, found-proposed, found_nothing}
use Rattle.interior_proposals.proofs.proposals.propose_at.Goals as goal

pub returns-in_err-r-clause-proposed : goal.returns-in_err-r-clause-proposed
returns-in_err-r-clause-proposed c =
    λ C was wasMarks W P.
    let l : c.args.i < C.count = omega (arith, c.requires.i_within, W.counted) in
    let n = found_nothing W c.args.i l P c.in_err-r.ensures in
    (n.0, c.from_residual.ensures ∙ n.1)

pub propose-requires : goal.propose-requires
propose-requires c =
    let w = c.requires.progress in
    let l : c.args.i < w.0.count = omega (arith, c.requires.i_within, w.1.0.counted) in
    (w.0, facing w.1.0 c.args.i l w.1.1 c.in_ok-r.ensures)

pub returns-clause-proposed : goal.returns-clause-proposed
returns-clause-proposed c =
    λ C was wasMarks W P.
    let l : c.args.i < C.count = omega (arith, c.requires.i_within, W.counted) in
    found-proposed W c.args.i l P c.in_ok-r.ensures (c.propose.ensures.proposed C (facing W c.args.i l P c.in_ok-r.ensures))
