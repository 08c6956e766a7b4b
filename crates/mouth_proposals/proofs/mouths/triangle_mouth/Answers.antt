-- `mouths::triangle_mouth` meets its contract, by how many of the regions that two edges name are anchored. Assumes nothing.
use mathlib.Core.Path.{◌∙◌}
use Rattle.mouth_proposals.proofs.TriangleMouths.{triangle_none, triangle_one, triangle-several}
use Rattle.mouth_proposals.proofs.TriangleFound.{found_in}
use Rattle.mouth_proposals.proofs.mouths.triangle_mouth.Goals as goal

pub returns-in-None : goal.returns-in-None
returns-in-None c =
    λ C m a A w e.
    triangle_none C m a (found_in A w e c.with_region-one.ensures c.with_region-two.ensures c.with_region-three.ensures c.with_region.ensures ∙ c.in-None.is)

pub returns-in-One : goal.returns-in-One
returns-in-One c =
    λ C m a A w e.
    triangle_one C m a _ (found_in A w e c.with_region-one.ensures c.with_region-two.ensures c.with_region-three.ensures c.with_region.ensures ∙ c.in-One.is)

pub returns-in-Several : goal.returns-in-Several
returns-in-Several c =
    λ C m a A w e.
    triangle-several C m a (found_in A w e c.with_region-one.ensures c.with_region-two.ensures c.with_region-three.ensures c.with_region.ensures ∙ c.in-Several.is)
