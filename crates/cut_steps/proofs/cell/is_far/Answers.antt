-- `cell::is_far` meets its contract, by `far-span`. Assumes nothing.
use mathlib.Core.Path.{refl, ◌∙◌}
use mir.Syntax.{w64}
use mir.Facts.{to_z-of_z}
use Rattle.definitions.specs.Grid.{at}
use Rattle.cut_steps.proofs.Sides.{far-span}
use Rattle.cut_steps.proofs.cell.is_far.Goals as goal

pub returns : goal.returns
returns c =
    far-span c.requires.0 (at c.args.cell.x c.args.cell.y) (to_z-of_z {w = w64} (record { sfits = c.side_of-side.type_inv }) ∙ c.side_of-side.ensures) refl refl c.exceeds.ensures c.not_negative.ensures c.exceeds-2.ensures
