-- `SheetLists::fill` meets its contract: each list is filled by one call, and the others do not touch it. The spans come behind the boundaries, which they may be
-- filled from. Assumes nothing.
use borrow.Author.Rules.{rules}
use mathlib.Core.Path.{ap, ◌∙◌}
use lib.ListN.{take}
use Rattle.definitions.specs.Lists.{overwrite}
use Rattle.definitions.specs.Sheet.{has_spans, spans_stated}
use Rattle.sheet.specs.Parts.{kind_number, part_of}
use Rattle.sheet.proofs.Answering.{spans-stored}
use Rattle.sheet.proofs.SheetLists.fill.Goals as goal

pub returns-clause-filled : goal.returns-clause-filled
returns-clause-filled c =
    let given = c.args in
    let bytes = given.bytes.now in
    let own = has_spans (kind_number given.kind) in
    let b = given.parts.spans in
    let c₁ = given.parts.boundaries in
    let old = given.self.now.spans.now in
    record {
      cells = search rules;
      spans =
          c.fill_spans.ensures
          ∙ ap (λ l. overwrite (spans_stated own (part_of bytes b) (take c₁.count l)) old) c.fill_numbers.ensures
          ∙ ap (λ l. overwrite l old) (spans-stored own bytes b c₁ given.self.now.boundaries.now c.requires.held.boundaries);
      boundaries = search rules;
      anchors = search rules;
    }
