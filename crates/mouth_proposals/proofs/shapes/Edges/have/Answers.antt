-- `shapes::Edges::have` meets its contract, by both rows. Assumes nothing.
use mathlib.Core.Path.{sym, ◌∙◌}
use mathlib.Core.Bool.{◌||◌, or-false}
use Rattle.definitions.specs.Scan.{any}
use Rattle.mouth_proposals.proofs.shapes.Edges.have.Goals as goal

pub returns : goal.returns
unfolding any
returns c = (λ i. c.eq.ensures i || (c.eq-2.ensures ∙ sym (or-false _)) i)
