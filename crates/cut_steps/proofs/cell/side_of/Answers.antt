-- `cell::side_of` meets its contract: `cross` at the centre of the cell. Assumes nothing.
use mathlib.Core.Path.{◌∙◌}
use mir.Syntax.{w64}
use mir.Facts.{to_z-of_z}
use Rattle.definitions.specs.Spans.{cross}
use Rattle.span_geometry.specs.Shapes.{point_of}
use Rattle.cut_steps.proofs.cell.side_of.Goals as goal

pub returns : goal.returns
returns c =
    let g = c.args.g in
    to_z-of_z {w = w64} (record { sfits = c.cross.type_inv }) ∙ c.cross.ensures ∙ (λ i. cross (point_of g.ends.a) (point_of g.ends.b) (c.cell_center.ensures.0 i))
