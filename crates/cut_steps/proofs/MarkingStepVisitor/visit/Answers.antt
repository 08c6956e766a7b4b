-- The visit of `Marking` meets the trait's contract: the bits of the directions are those of the cell's cut steps (`cell-marked`). Assumes nothing.
use lib.Bits.{bit_or}
use lib.ListN.{get_or, set}
use mathlib.Core.Path.{refl, subst⁻¹}
use Rattle.cut_steps.specs.Marking.{Marked}
use Rattle.cut_steps.specs.Walks.{walk_map, cell_steps}
use Rattle.cut_steps.proofs.Marks.{cell-marked}
use Rattle.cut_steps.proofs.MarkingStepVisitor.visit.Goals as goal

pub returns : goal.returns
returns c =
    let a = c.args in
    let was = a.self.now.masks.now in (
      refl,
      subst⁻¹ (λ k. Marked (walk_map a.walk) was (set was k (bit_or (get_or was k 0) a.directions)) (cell_steps a.walk a.cell)) c.index-c.ensures
          (cell-marked c.requires.asked c.requires.directions was c.requires.is_ready),
    )
