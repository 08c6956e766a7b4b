-- What filling the lent lists promises, before and after. Definitions only; assumes nothing.
use Rattle.std.specs.Prelude.{ℕ, ◌≡◌, List}
use Rattle.definitions.specs.Lists.{overwrite}
use Rattle.definitions.specs.Sheet.{has_spans, spans_stated}
use Rattle.sheet.specs.declared.Kind.{Kind}
use Rattle.sheet.specs.declared.Parts.{Parts}
use Rattle.sheet.specs.declared.SheetLists.{SheetLists}
use Rattle.sheet.specs.Parts.{kind_number, part_of, cells_in}

-- what was judged stands in front of each list
pub record Filled (bytes : List ℕ) (kind : Kind) (parts : Parts) (x y : SheetLists) : Type 0 where
  pub cells : y.cells.now ≡ overwrite (cells_in bytes parts) x.cells.now
  pub spans : y.spans.now
      ≡ overwrite (spans_stated (has_spans (kind_number kind)) (part_of bytes parts.spans) (part_of bytes parts.boundaries)) x.spans.now
  pub boundaries : y.boundaries.now ≡ overwrite (part_of bytes parts.boundaries) x.boundaries.now
  pub anchors : y.anchors.now ≡ overwrite (part_of bytes parts.anchors) x.anchors.now

-- y refers to the lists of x
pub record SameLists (x y : SheetLists) : Type 0 where
  pub cells : y.cells.ghost_name ≡ x.cells.ghost_name
  pub spans : y.spans.ghost_name ≡ x.spans.ghost_name
  pub boundaries : y.boundaries.ghost_name ≡ x.boundaries.ghost_name
  pub anchors : y.anchors.ghost_name ≡ x.anchors.ghost_name
