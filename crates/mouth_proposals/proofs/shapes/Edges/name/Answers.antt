-- `shapes::Edges::name` meets its contract, by both rows. Assumes nothing.
use mathlib.Core.Path.{sym, ◌∙◌}
use mathlib.Core.Bool.{◌||◌, or-false}
use Rattle.definitions.specs.Scan.{any}
use Rattle.mouth_proposals.proofs.shapes.Edges.name.Goals as goal

pub returns : goal.returns
unfolding any
returns c = (λ i. c.contains.ensures i || (c.contains-2.ensures ∙ sym (or-false _)) i)
