-- `crossed_directions` of the assessment meets the trait's contract: a cell's mask says which of its changes of sides are of steps (`shown-directions`). Assumes nothing.
use native.Mathlib.Omega.{arith}
use mathlib.Core.Path.{ap}
use lib.Arith.{digits_lt}
use lib.Bits.{bit_and}
use lib.ListN.{get_or}
use Rattle.definitions.specs.Grid.{cell_count}
use Rattle.cut_steps.proofs.Shown.{shown-directions}
use Rattle.assessments.proofs.AssessingStepVisitor.crossed_directions.Goals as goal

pub bounds-self-index : goal.bounds-self-index
unfolding cell_count
bounds-self-index c = omega (arith, c.index.ensures, digits_lt c.requires.asked.in_y c.requires.asked.in_x, c.requires.is_ready.shown.long)

pub returns : goal.returns
returns c =
    let a = c.args in
    shown-directions c.requires.asked.in_x c.requires.asked.in_y c.requires.crossed c.requires.is_ready.shown (ap (λ k. bit_and a.changes (get_or a.self.now.masks.now k 0)) c.index.ensures)
