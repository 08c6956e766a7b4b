-- `walk_part` meets its contract: a part of more than one column, or row, is between the span's ends. Assumes nothing.
use Prim.Native.Nat.{ℕ, ◌-◌, ◌*◌, ◌≤◌, ◌<◌}
use native.Mathlib.Omega.{arith}
use native.Mathlib.Nat.{le_refl}
use Rattle.definitions.specs.Limits.{max_side}
use Rattle.span_geometry.specs.Shapes.{segment_of}
use Rattle.cut_steps.specs.Walks.{walk_map, column_steps, columns_steps}
use Rattle.cut_steps.proofs.Among.{among_same}
use Rattle.cut_steps.proofs.Passing.{visited_as}
use Rattle.cut_steps.proofs.SpanParts.{column-asked, part-single}
use Rattle.cut_steps.proofs.walk.walk_part.Goals as goal

-- a part that is not empty has room for one column, or row
single : {from to : ℕ} → from < to → max_side ≤ max_side * (to - from)
single a = omega arith

pub walk_column-requires : goal.walk_column-requires
walk_column-requires g c =
    let a = c.args in
    let walk = a.walk.now in
    let part = c.requires.part in
    let one = part-single (walk_map walk) (segment_of walk.g) walk.strip part.some c.if-to-from.true in
    record {
      asked = (c.requires.asked.0, column-asked c.requires.asked.1 (le_refl a.from) part.some);
      is_ready = g.met.V.StepVisitor.laws.part (walk_map walk) (columns_steps walk a.from a.to) (column_steps walk a.from) max_side (max_side * (a.to - a.from)) a.visitor.now (among_same one) (single part.some) c.requires.is_ready;
    }

pub returns-then-to-from : goal.returns-then-to-from
returns-then-to-from g c =
    let a = c.args in
    let walk = a.walk.now in
    let part = c.requires.part in
    let laws = g.met.V.StepVisitor.laws in
    visited_as laws (walk_map walk) (part-single (walk_map walk) (segment_of walk.g) walk.strip part.some c.if-to-from.true)
    (laws.most (walk_map walk) (column_steps walk a.from) max_side (max_side * (a.to - a.from)) a.visitor.now c.walk_column.new.visitor (single part.some) c.walk_column.ensures)
