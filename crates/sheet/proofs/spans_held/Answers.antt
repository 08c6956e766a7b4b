-- `sheet::spans_held` meets its contract: where the sheet holds no spans, an empty part stands for them. Assumes nothing.
use mathlib.Core.Path.{sym, subst}
use Rattle.definitions.specs.Sheet.{has_spans, spans_held}
use Rattle.sheet.specs.Parts.{kind_number, PartHeld}
use Rattle.sheet.proofs.PartsFound.{spans_none}
use Rattle.sheet.proofs.spans_held.Goals as goal

pub returns-in-SharedSpans : goal.returns-in-SharedSpans
returns-in-SharedSpans c =
    let given = c.args in
    subst (λ k. PartHeld (spans_held (has_spans (kind_number k))) given.bytes.now given.at (record { first = given.at; count = 0 }) given.at) (sym c.in-SharedSpans.is)
    (spans_none given.bytes.now given.at c.requires)
