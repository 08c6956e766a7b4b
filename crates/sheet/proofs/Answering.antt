-- From what was judged to what is answered: the three ways in which a reading ends. Assumes nothing.
use Prim.Native.Nat.{ℕ, ◌*◌, ◌/◌, ◌≤◌}
use mathlib.Core.Path.{◌≡◌, refl, sym, ap, subst, ◌∙◌}
use mathlib.Core.Bool.{Bool, true, false, ◌&&◌, cond}
use mathlib.Core.List.{List}
use lib.ListN.{length, take, drop}
use lib.Dec.{leb}
use borrow.Author.Tests.{leb-true}
use Rattle.definitions.specs.Limits.{numbers_per_span, numbers_per_boundary, numbers_per_anchor}
use Rattle.definitions.specs.Lists.{overwrite}
use Rattle.definitions.specs.SheetNumber.{number}
use Rattle.definitions.specs.Sheet.{has_spans, spans_stated, endpoints_of, well_formed, refused, read_sheet, room_for}
use Rattle.std.proofs.Math.Seq.{take-append_seam}
use Rattle.laws.specs.ListLaws.Tests.{both}
use Rattle.laws.specs.SheetReading.Endpoints.{endpoints-long}
use Rattle.sheet.specs.Numbers.{Held}
use Rattle.sheet.specs.Parts.{kind_number, part_of, cells_in, sheet_of, PartsHeld, SheetHeld, stated_long, room_in, Room}
use Rattle.sheet.specs.Contract.{header_of, header_in, Answered, reading_within}
use Rattle.sheet.specs.declared.Part.{Part}
use Rattle.sheet.specs.declared.Parts.{Parts}
use Rattle.sheet.specs.declared.Plan.{Plan}
use Rattle.sheet.specs.declared.Header.{Header}
use Rattle.std.specs.Prelude.{Some, Ok, Err}
use Rattle.definitions.specs.Refusals.{unless}
use Rattle.definitions.specs.Verdict.{refusal as refusal_by}
use Rattle.refusals.specs.declared.Refusal.{Refusal}
use Rattle.refusals.specs.Refusals.{number_of, refusal_of}
use Rattle.sheet.proofs.Passed.{refuses}
use Rattle.sheet.proofs.Filling.{held-length}

pub room-known : {parts : Parts} {n stated cells spans boundaries anchors : ℕ} → n ≡ stated → room_in parts n cells spans boundaries anchors ≡ true
    → Room parts stated cells spans boundaries anchors
room-known {parts} {n} {stated} {cells} {spans} {boundaries} {anchors} e h =
    let a = leb parts.cells.count cells in
    let b = leb n spans in
    let c = leb parts.boundaries.count boundaries in
    let abc = both (a && b && c) (leb parts.anchors.count anchors) h in
    let ab = both (a && b) c abc.0 in
    let each = both a b ab.0 in
    record {
      for_cells = leb-true parts.cells.count cells each.0;
      for_spans = subst (λ m. m ≤ spans) e (leb-true n spans each.1);
      for_boundaries = leb-true parts.boundaries.count boundaries ab.1;
      for_anchors = leb-true parts.anchors.count anchors abc.1;
    }

-- ---- the spans

-- what is stored of the boundaries, read as spans, is what the sheet states
pub spans-stored : (own : Bool) (bytes : List ℕ) (spans boundaries : Part) (lent : List ℕ) → Held number bytes boundaries.first boundaries.count
    → spans_stated own (part_of bytes spans) (take boundaries.count (overwrite (part_of bytes boundaries) lent))
    ≡ spans_stated own (part_of bytes spans) (part_of bytes boundaries)
spans-stored own bytes spans boundaries lent H =
    let p = part_of bytes boundaries in
    ap (spans_stated own (part_of bytes spans))
    (ap (λ n. take n (overwrite p lent)) (sym (held-length H)) ∙ take-append_seam p (drop (length p) lent))

spans-long : (own : Bool) {bytes : List ℕ} {parts : Parts} → PartsHeld bytes parts
    → length (spans_stated own (part_of bytes parts.spans) (part_of bytes parts.boundaries))
    ≡ cond own parts.spans.count (numbers_per_span * (parts.boundaries.count / numbers_per_boundary))
unfolding endpoints_of
spans-long true H = held-length H.spans
spans-long false {bytes} {parts} H =
    endpoints-long (length (part_of bytes parts.boundaries) / numbers_per_boundary) (part_of bytes parts.boundaries)
    ∙ ap (λ n. numbers_per_span * (n / numbers_per_boundary)) (held-length H.boundaries)

-- ---- a sheet that was found

module _ {limit : ℕ} {bytes : List ℕ} {plan : Plan} (S : SheetHeld limit bytes plan) where
  abbrev stated : ℕ
  stated = stated_long (kind_number plan.kind) plan.parts

  header_same : header_of (sheet_of bytes plan) ≡ header_in plan stated
  header_same = λ i. record {
    pass = plan.pass;
    width = plan.width;
    height = plan.height;
    spans = spans-long (has_spans (kind_number plan.kind)) S.held i / numbers_per_span;
    boundaries = held-length S.held.boundaries i / numbers_per_boundary;
    anchors = held-length S.held.anchors i / numbers_per_anchor;
  }

  module _ (cells spans boundaries anchors : List ℕ) where
    by_room : reading_within limit bytes cells spans boundaries anchors
        ≡ cond (room_in plan.parts stated (length cells) (length spans) (length boundaries) (length anchors)) (well_formed (sheet_of bytes plan)) (refused 10 0)
    by_room =
        ap (λ r. room_for r (length cells) (length spans) (length boundaries) (length anchors)) S.same
        ∙ (λ i. cond
        (leb (held-length S.held.cells i) (length cells) && leb (spans-long (has_spans (kind_number plan.kind)) S.held i) (length spans)
        && leb (held-length S.held.boundaries i) (length boundaries) && leb (held-length S.held.anchors i) (length anchors))
        (well_formed (sheet_of bytes plan)) (refused 10 0))

    in_room : {n : ℕ} → n ≡ stated
        → room_in plan.parts stated (length cells) (length spans) (length boundaries) (length anchors)
        ≡ room_in plan.parts n (length cells) (length spans) (length boundaries) (length anchors)
    in_room k = ap (λ m. room_in plan.parts m (length cells) (length spans) (length boundaries) (length anchors)) (sym k)

    pub answered-short : {n : ℕ} {room : Bool} {refusal : Refusal} → n ≡ stated
        → room ≡ room_in plan.parts n (length cells) (length spans) (length boundaries) (length anchors) → Some (refusal_of refusal) ≡ refusal_by 10 (unless room)
        → Answered (reading_within limit bytes cells spans boundaries anchors) cells spans boundaries anchors (Err refusal) cells spans boundaries anchors
    answered-short {room = room} {refusal} k f p =
        let r = refuses 10 room refusal p in
        let e : reading_within limit bytes cells spans boundaries anchors ≡ refused 10 0 = by_room ∙ ap (λ t. cond t (well_formed (sheet_of bytes plan)) (refused 10 0)) (in_room k ∙ sym f ∙ r.0) in
        rw e (record { said = ap Err r.1; cells_left = refl; spans-left = refl; boundaries-left = refl; anchors-left = refl })

    pub answered-read : {n : ℕ} {header : Header} {cells' spans' boundaries' anchors' : List ℕ} → n ≡ stated
        → room_in plan.parts n (length cells) (length spans) (length boundaries) (length anchors) ≡ true → header ≡ header_in plan n
        → cells' ≡ overwrite (cells_in bytes plan.parts) cells
        → spans' ≡ overwrite (spans_stated (has_spans (kind_number plan.kind)) (part_of bytes plan.parts.spans) (part_of bytes plan.parts.boundaries)) spans
        → boundaries' ≡ overwrite (part_of bytes plan.parts.boundaries) boundaries → anchors' ≡ overwrite (part_of bytes plan.parts.anchors) anchors
        → Answered (reading_within limit bytes cells spans boundaries anchors) cells spans boundaries anchors (Ok header) cells' spans' boundaries' anchors'
    answered-read k h e a b c d =
        let w : reading_within limit bytes cells spans boundaries anchors ≡ well_formed (sheet_of bytes plan) = by_room ∙ ap (λ t. cond t (well_formed (sheet_of bytes plan)) (refused 10 0)) (in_room k ∙ h) in
        rw w (record { said = ap Ok (e ∙ ap (header_in plan) k ∙ sym header_same); cells_left = a; spans-left = b; boundaries-left = c; anchors-left = d })

-- ---- a sheet that was not

pub answered-refused : (limit : ℕ) (bytes : List ℕ) (refusal : Refusal) {cells spans boundaries anchors : List ℕ} → read_sheet limit bytes ≡ refused (number_of refusal.cause) refusal.place
    → Answered (reading_within limit bytes cells spans boundaries anchors) cells spans boundaries anchors (Err refusal) cells spans boundaries anchors
answered-refused limit bytes refusal h = rw h (record { said = refl; cells_left = refl; spans-left = refl; boundaries-left = refl; anchors-left = refl })
