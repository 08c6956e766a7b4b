-- `held::hold_row` meets its contract: the smaller region, then the larger. Assumes nothing.
use mathlib.Core.Path.{ap, ◌∙◌}
use mathlib.Core.List.{[], ◌∷◌}
use Rattle.mouth_selection.specs.Held.{mark_inner}
use Rattle.mouth_selection.proofs.held.hold_row.Goals as goal

pub returns : goal.returns
unfolding mark_inner
returns c =
    let s = c.args in
    c.hold_inner_region-2.ensures ∙ ap (λ l. mark_inner s.outer l (s.p.hi ∷ [])) c.hold_inner_region.ensures
