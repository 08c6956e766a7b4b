-- `approaches::approach_from` meets its contract, by the mouth's shape. Assumes nothing.
use mathlib.Core.Path.{sym, ap, ◌∙◌}
use Rattle.std.specs.Prelude.{Some}
use Rattle.context.specs.Rows.{pair_form}
use Rattle.mouth_proposals.specs.declared.approaches.Approach.TheVariants as approach
use Rattle.mouth_proposals.proofs.ApproachLaws.{from_single, from_star}
use Rattle.mouth_proposals.proofs.approaches.approach_from.Goals as goal

pub returns-in_err-r-in-Single : goal.returns-in_err-r-in-Single
returns-in_err-r-in-Single c =
    let s = c.args in
    λ C P l h e. c.from_residual.ensures ∙ from_single (C.pairs s.m) (pair_form s.q) s.s e (P.named s.m l) c.in-Single.is (sym c.in_err-r-in-Single.was ∙ c.shared_region.ensures C P l h)

pub returns-in_ok-r-in-Single : goal.returns-in_ok-r-in-Single
returns-in_ok-r-in-Single c =
    let s = c.args in
    λ C P l h e.
    ap (λ x. Some (approach.Single (record { outer = x; approach = c.in_ok-r-in-Single.r }))) c.other.ensures
    ∙ from_single (C.pairs s.m) (pair_form s.q) s.s e (P.named s.m l) c.in-Single.is (sym c.in_ok-r-in-Single.was ∙ c.shared_region.ensures C P l h)

pub returns-in_err-r-in-Star : goal.returns-in_err-r-in-Star
returns-in_err-r-in-Star c =
    let s = c.args in
    λ C P l h e. c.from_residual-in_err-r-in-Star.ensures ∙ from_star (C.pairs s.m) (pair_form s.q) s.s e c.in-Star.is (sym c.in_err-r-in-Star.was ∙ c.shared_region-in-Star.ensures C P l h)

pub returns-in_ok-r-in-Star : goal.returns-in_ok-r-in-Star
returns-in_ok-r-in-Star c =
    let s = c.args in
    λ C P l h e. from_star (C.pairs s.m) (pair_form s.q) s.s e c.in-Star.is (sym c.in_ok-r-in-Star.was ∙ c.shared_region-in-Star.ensures C P l h)
