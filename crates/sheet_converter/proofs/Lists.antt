-- The lists of a sheet of kind 1 that was judged: they fit the arrays that they are stored in, and what is stored is what the sheet states. Assumes nothing.
use Prim.Native.Nat.{ℕ, ◌≤◌}
use native.Mathlib.Omega.{arith}
use mathlib.Core.Path.{◌≡◌, sym, ap, ◌∙◌}
use Rattle.std.specs.Prelude.{Option}
use mathlib.Core.List.{List}
use lib.ListN.{length, take, drop}
use lib.Seq.{take-append_seam}
use Rattle.definitions.specs.Limits.{max_side}
use Rattle.definitions.specs.Lists.{overwrite}
use Rattle.definitions.specs.Refusals.{Refusal}
use Rattle.definitions.specs.SheetNumber.{number}
use Rattle.definitions.specs.Sheet.{has_spans, spans_stated, plain_cell_limit}
use Rattle.laws.specs.SheetReading.SheetSizes.{sized}
use Rattle.sheet.specs.declared.Part.{Part}
use Rattle.sheet.specs.declared.Plan.{Plan}
use Rattle.sheet.specs.Numbers.{Held}
use Rattle.sheet.specs.Parts.{kind_number, part_of, cells_in, sheet_of, SheetHeld}
use Rattle.sheet.proofs.Filling.{held-length}
use Rattle.sheet_converter.specs.Contract.{map_refusal, refusal_for}

-- of kind 1 the spans that are stated are those that the sheet holds
stated_1 : {kind : ℕ} → kind ≡ 1 → (spans boundaries : List ℕ) → spans_stated (has_spans kind) spans boundaries ≡ spans
stated_1 k spans boundaries = ap (λ n. spans_stated (has_spans n) spans boundaries) k

pub record PlanFits (plan : Plan) : Type 0 where
  pub wide : plan.width ≤ max_side
  pub high : plan.height ≤ max_side
  pub spans : plan.parts.spans.count ≤ 1024
  pub boundaries : plan.parts.boundaries.count ≤ 2304
  pub anchors : plan.parts.anchors.count ≤ 512

pub plan-fits : {bytes : List ℕ} {plan : Plan} → SheetHeld plain_cell_limit bytes plan → kind_number plan.kind ≡ 1 → PlanFits plan
plan-fits {bytes} {plan} S k =
    let Z = sized plain_cell_limit bytes S.same in
    let parts = plan.parts in
    let own = ap length (stated_1 k (part_of bytes parts.spans) (part_of bytes parts.boundaries)) in
    record {
      wide = Z.wide;
      high = Z.high;
      spans = omega (arith, Z.spans.long, Z.spans.few, own, held-length S.held.spans);
      boundaries = omega (arith, Z.boundaries.long, Z.boundaries.few, held-length S.held.boundaries);
      anchors = omega (arith, Z.anchors.long, Z.anchors.few, held-length S.held.anchors);
    }

-- the first numbers of a list that was filled
pub part-taken : (bytes : List ℕ) (part : Part) {filled : List ℕ} (old : List ℕ) → Held number bytes part.first part.count
    → filled ≡ overwrite (part_of bytes part) old → take part.count filled ≡ part_of bytes part
part-taken bytes part {filled} old H e =
    let l = part_of bytes part in
    ap (λ n. take n filled) (sym (held-length H)) ∙ ap (take (length l)) e ∙ take-append_seam l (drop (length l) old)

-- so the checks are of what the sheet states
pub checks_same : (bytes : List ℕ) (plan : Plan) → kind_number plan.kind ≡ 1 → {spans boundaries anchors : List ℕ} {o : Option Refusal}
    → spans ≡ part_of bytes plan.parts.spans → boundaries ≡ part_of bytes plan.parts.boundaries → anchors ≡ part_of bytes plan.parts.anchors
    → o ≡ map_refusal plan.pass plan.width plan.height (cells_in bytes plan.parts) spans boundaries anchors → o ≡ refusal_for (sheet_of bytes plan)
checks_same bytes plan k {spans} {boundaries} {anchors} a b c e =
    let cells = cells_in bytes plan.parts in
    let stated = stated_1 k (part_of bytes plan.parts.spans) (part_of bytes plan.parts.boundaries) in
    e ∙ (λ i. map_refusal plan.pass plan.width plan.height cells ((a ∙ sym stated) i) (b i) (c i))
