-- `cell::is_far_eastward` meets its contract, by `far-east`. Assumes nothing.
use mathlib.Core.Path.{refl, sym, ◌∙◌}
use mir.Syntax.{w64}
use mir.Facts.{to_z-of_z}
use Rattle.definitions.specs.Grid.{at}
use Rattle.cut_steps.proofs.Sides.{far-east}
use Rattle.cut_steps.proofs.cell.is_far_eastward.Goals as goal

pub returns : goal.returns
returns c =
    λ e. far-east c.requires.0 (at c.args.cell.x c.args.cell.y) (to_z-of_z {w = w64} (record { sfits = c.side_of.type_inv }) ∙ c.side_of.ensures) refl (sym c.exceeds.ensures ∙ e)
