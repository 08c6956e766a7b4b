-- `is_allowed` meets its contract: what it reads of the row and of the lists is what the context says. Assumes nothing.
use mathlib.Core.Path.{sym, ◌∙◌}
use Rattle.junction_proposals.proofs.Shapes.{one_marked}
use Rattle.junction_regions.proofs.Rows.{ends-are, allowed-bridge, allowed-union}
use Rattle.junction_regions.proofs.is_allowed.Goals as goal

pub returns-then-not-is_union : goal.returns-then-not-is_union
returns-then-not-is_union c =
    λ C h. allowed-bridge h (ends-are h c.segment_of-ends.ensures) (sym c.is_union.ensures ∙ c.if-not-is_union.true) c.bridge_region.ensures

pub returns : goal.returns
returns c =
    λ C h. allowed-union h (ends-are h c.segment_of-ends.ensures) (sym c.is_union.ensures ∙ c.if-not-is_union.false) (one_marked c.is_anchored.ensures c.is_anchored-2.ensures) c.union_regions.ensures
