-- Request 12 over calls. What is assumed, whole: a call of the writer, or of the converter, met its contract (`Writes`, `Converts`) and answered 0; the writer's lists hold
-- numbers of 64 bits and bytes, as their element types have it. Then the bytes that it wrote read as the map that the writer was given, or as the sheet that was converted,
-- for any limit of cells.
use Rattle.std.specs.Prelude.{ℕ, ◌*◌, ◌/◌, ◌%◌, ◌^◌, ◌<◌, ◌≤◌, ◌≡◌, refl, Bool, true, false, ◌&&◌, cond, List, [], ◌∷◌, leb, eqb, length, take, drop, Option, None, Some}
use Rattle.std.proofs.Common.{arith, sym, ap, ◌∙◌, leb-true, eqb-true, le-leb, mul-le-mul}
use Rattle.std.proofs.Math.Seq.{take-append_seam}
use Rattle.definitions.specs.Limits.{is_side, max_entries, numbers_per_boundary, numbers_per_anchor}
use Rattle.definitions.specs.Refusals.{Refusal, unless, is_whole, pass_fault, boundaries_fault, anchors_fault, elevations_fault}
use Rattle.definitions.specs.Verdict.{Answer, refusal, first_refusal}
use Rattle.definitions.specs.Sheet.{Sheet, Reading, well_formed, refused, read_sheet, plain_cell_limit, endpoints_of}
use Rattle.definitions.specs.SheetNumber.{Read, found, failed, number}
use Rattle.laws.specs.ListLaws.Lists.{All}
use Rattle.laws.specs.ListLaws.Tests.{both}
use Rattle.results.proofs.WrittenReads.{Words}
use Rattle.map_sheets.specs.SheetBytes.{sheet_bytes}
use Rattle.map_sheets.specs.Writing.{write_verdict, written_at_exit, Writes}
use Rattle.map_sheets.specs.Converting.{is_one_list, of_kind1, read_kind1, convert_answer, convert_verdict, converted_bytes, Converts}
use Rattle.map_sheets.proofs.WrittenReads.{Writable, written-reads}
use Rattle.map_sheets.proofs.Converted.{converted-states}
use Rattle.map_sheets.specs.Limited.{read-within}
use Rattle.laws.specs.TableLaws.AcceptedCalls.{Numbered, refusal-numbered, spans-numbered, number-above}
use Rattle.laws.specs.SheetReading.SheetSizes.{sides_most}

-- what lists in memory keep to
pub record InMemory (s : Sheet) : Type 0 where
  pub pass : s.pass < 2 ^ 64
  pub cells : All (λ n. n ≤ 255) s.cells
  pub boundaries : Words s.boundaries
  pub anchors : Words s.anchors

-- ---- the writer

record Accepted (s : Sheet) (value : ℕ) : Type 0 where
  pub sides : (is_side s.width && is_side s.height) ≡ true
  pub filled : eqb (length s.cells) (s.width * s.height) ≡ true
  pub whole : (is_whole numbers_per_boundary s.boundaries && is_whole numbers_per_anchor s.anchors) ≡ true
  pub size : value ≡ length (sheet_bytes 3 s)

abbrev by_tests_lem : ℕ → Bool → Bool → Bool → Bool → Answer
by_tests_lem size a b c d = first_refusal (refusal 1 (unless a) ∷ refusal 2 (unless b) ∷ refusal 3 (unless c) ∷ refusal 10 (unless d) ∷ []) size

accepted : (s : Sheet) (room : ℕ) → (write_verdict s room).number ≡ 0 → Accepted s (write_verdict s room).value
unfolding write_verdict
accepted s room h =
    go (is_side s.width && is_side s.height) refl (eqb (length s.cells) (s.width * s.height)) refl
    (is_whole numbers_per_boundary s.boundaries && is_whole numbers_per_anchor s.anchors) refl (leb (length (sheet_bytes 3 s)) room) h
  where
    go : (a : Bool) → (is_side s.width && is_side s.height) ≡ a → (b : Bool) → eqb (length s.cells) (s.width * s.height) ≡ b
        → (c : Bool) → (is_whole numbers_per_boundary s.boundaries && is_whole numbers_per_anchor s.anchors) ≡ c → (d : Bool)
        → (by_tests_lem (length (sheet_bytes 3 s)) a b c d).number ≡ 0 → Accepted s (by_tests_lem (length (sheet_bytes 3 s)) a b c d).value
    go true e true f true g true h = record { sides = e; filled = f; whole = g; size = refl }
    go true e true f true g false h = absurd (omega arith)
    go true e true f false g d h = absurd (omega arith)
    go true e false f c g d h = absurd (omega arith)
    go false e b f c g d h = absurd (omega arith)

writable : {s : Sheet} {value : ℕ} → InMemory s → Accepted s value → Writable plain_cell_limit s
writable {s} m A =
    let k = sides_most s.width s.height refl A.sides in
    let few : s.width * s.height ≤ plain_cell_limit = mul-le-mul k.0 k.1 in
    let lists = both (is_whole numbers_per_boundary s.boundaries) (is_whole numbers_per_anchor s.anchors) A.whole in
    let b = both (eqb (length s.boundaries % numbers_per_boundary) 0) (leb (length s.boundaries / numbers_per_boundary) max_entries) lists.0 in
    let a = both (eqb (length s.anchors % numbers_per_anchor) 0) (leb (length s.anchors / numbers_per_anchor) max_entries) lists.1 in
    record {
      pass = m.pass;
      width = omega (arith, k.0);
      height = omega (arith, k.1);
      sides = ap (λ t. t && leb (s.width * s.height) plain_cell_limit) A.sides ∙ le-leb (s.width * s.height) plain_cell_limit few;
      area = eqb-true (length s.cells) (s.width * s.height) A.filled;
      cells = m.cells;
      boundaries = m.boundaries;
      boundaries-few = leb-true (length s.boundaries / numbers_per_boundary) max_entries b.1;
      boundaries-whole = eqb-true (length s.boundaries % numbers_per_boundary) 0 b.0;
      anchors = m.anchors;
      anchors-few = leb-true (length s.anchors / numbers_per_anchor) max_entries a.1;
      anchors-whole = eqb-true (length s.anchors % numbers_per_anchor) 0 a.0;
    }

-- what a call that answered 0 has written
taken : (bytes lent : List ℕ) {lent' : List ℕ} {number value : ℕ} → number ≡ 0 → value ≡ length bytes → lent' ≡ written_at_exit number bytes lent → take value lent' ≡ bytes
taken bytes lent {lent'} {number} {value} z v e =
    let full : lent' ≡ written_at_exit 0 bytes lent = e ∙ ap (λ n. written_at_exit n bytes lent) z in
    ap (λ n. take n lent') v ∙ ap (take (length bytes)) full ∙ take-append_seam bytes (drop (length bytes) lent)

-- "what it writes reads as itself"
pub written-call : {s : Sheet} {lent lent' : List ℕ} {answer : Answer} → InMemory s → s.spans ≡ endpoints_of s.boundaries → Writes s lent answer lent' → answer.number ≡ 0
    → read_sheet plain_cell_limit (take answer.value lent') ≡ well_formed s
written-call {s} {lent} {answer = answer} m one W z =
    let A : Accepted s (write_verdict s (length lent)).value = accepted s (length lent) (ap (λ (a : Answer). a.number) (sym W.said) ∙ z) in
    let v : answer.value ≡ length (sheet_bytes 3 s) = ap (λ (a : Answer). a.value) W.said ∙ A.size in
    ap (read_sheet plain_cell_limit) (taken (sheet_bytes 3 s) lent z v W.left) ∙ written-reads plain_cell_limit s (writable m A) one

-- ---- the converter

-- it answered 0: a sheet was read that states one list, and so many bytes were written
record Converted (bytes : List ℕ) (value : ℕ) : Type 0 where
  pub stated : Sheet
  pub reads : read_sheet plain_cell_limit bytes ≡ well_formed stated
  pub kind_1 : read_kind1 bytes ≡ well_formed stated
  pub one : is_one_list stated ≡ true
  pub size : value ≡ length (sheet_bytes 3 stated)

record Answered (s : Sheet) (value : ℕ) : Type 0 where
  pub one : is_one_list s ≡ true
  pub size : value ≡ length (sheet_bytes 3 s)

abbrev checks : Option Refusal → Option Refusal → Option Refusal → Option Refusal → Option Refusal → Bool → Bool → List (Option Refusal)
checks a b c d e t u = a ∷ b ∷ c ∷ d ∷ e ∷ refusal 22 (unless t) ∷ refusal 10 (unless u) ∷ []

answered : (s : Sheet) (room : ℕ) → (convert_answer (well_formed s) room).number ≡ 0 → Answered s (convert_answer (well_formed s) room).value
unfolding convert_answer
answered s room h =
    go _ (refusal-numbered 4 (pass_fault s.pass) (omega arith)) _ (spans-numbered s.width s.height s.spans)
    _ (refusal-numbered 7 (boundaries_fault s.width s.height s.boundaries) (omega arith)) _ (refusal-numbered 8 (anchors_fault s.width s.height s.anchors) (omega arith))
    _ (refusal-numbered 9 (elevations_fault s.cells) (omega arith)) (is_one_list s) refl (leb (length (sheet_bytes 3 s)) room) h
  where
    never : {r : Refusal} → Numbered (Some r) → r.number ≡ 0 → ⊥
    never N z = omega (arith, number-above N refl)

    go : (a : Option Refusal) → Numbered a → (b : Option Refusal) → Numbered b → (c : Option Refusal) → Numbered c → (d : Option Refusal) → Numbered d
        → (e : Option Refusal) → Numbered e → (t : Bool) → is_one_list s ≡ t → (u : Bool) → (first_refusal (checks a b c d e t u) (length (sheet_bytes 3 s))).number ≡ 0
        → Answered s (first_refusal (checks a b c d e t u) (length (sheet_bytes 3 s))).value
    go None A None B None C None D None E true f true h = record { one = f; size = refl }
    go None A None B None C None D None E true f false h = absurd (omega arith)
    go None A None B None C None D None E false f u h = absurd (omega arith)
    go None A None B None C None D (Some r) E t f u h = absurd (never E h)
    go None A None B None C (Some r) D e E t f u h = absurd (never D h)
    go None A None B (Some r) C d D e E t f u h = absurd (never C h)
    go None A (Some r) B c C d D e E t f u h = absurd (never B h)
    go (Some r) A b B c C d D e E t f u h = absurd (never A h)

-- a reading that is refused is not answered 0: the numbers of the reader are above it
converted : (bytes : List ℕ) (room : ℕ) → ((refusal place : ℕ) → read_kind1 bytes ≡ refused refusal place → 0 < refusal)
    → (convert_verdict bytes room).number ≡ 0 → Converted bytes (convert_verdict bytes room).value
unfolding convert_verdict read_kind1 convert_answer
converted bytes room above h = go (read_kind1 bytes) refl h
  where
    same : {s : Sheet} (r : Read ℕ) (x : Reading) → of_kind1 r x ≡ well_formed s → x ≡ well_formed s
    same {s} (found k o m) x e = pick (eqb k 1) e
      where
        pick : (t : Bool) → cond t x (refused 14 0) ≡ well_formed s → x ≡ well_formed s
        pick true e = e
        pick false e = absurd (let z : ◌≡◌ {A = ℕ} 0 1 = cc in omega arith)
    same (failed n p) x e = e

    go : (r : Reading) → read_kind1 bytes ≡ r → (convert_answer r room).number ≡ 0 → Converted bytes (convert_answer r room).value
    go (well_formed s) e z =
        let A = answered s room z in
        record { stated = s; reads = same (number 0 bytes) (read_sheet plain_cell_limit bytes) e; kind_1 = e; one = A.one; size = A.size }
    go (refused n p) e z = absurd (omega (arith, above n p e))

-- what the converter was given states one list, and the bytes that it wrote are the sheet of kind 3 that states the same
pub record Made (bytes new : List ℕ) : Type 0 where
  pub stated : Sheet
  pub reads : read_sheet plain_cell_limit bytes ≡ well_formed stated
  pub one : is_one_list stated ≡ true
  pub written : new ≡ sheet_bytes 3 stated

pub made : {bytes lent lent' : List ℕ} {answer : Answer} → ((refusal place : ℕ) → read_kind1 bytes ≡ refused refusal place → 0 < refusal)
    → Converts bytes lent answer lent' → answer.number ≡ 0 → Made bytes (take answer.value lent')
unfolding converted_bytes
made {bytes} {lent} {lent'} {answer} above C z =
    let A = converted bytes (length lent) above (ap (λ (a : Answer). a.number) (sym C.said) ∙ z) in
    let v : answer.value ≡ length (sheet_bytes 3 A.stated) = ap (λ (a : Answer). a.value) C.said ∙ A.size in
    record {
      stated = A.stated;
      reads = A.reads;
      one = A.one;
      written = taken (sheet_bytes 3 A.stated) lent z v (C.left ∙ ap (λ r. written_at_exit answer.number (converted_bytes r) lent) A.kind_1);
    }

-- it reads as the one that was converted, within any limit of cells
pub made_reads : {bytes new : List ℕ} → Made bytes new → (limit : ℕ) → read_sheet limit new ≡ read_sheet limit bytes
made_reads {bytes} {new} M limit =
    let s = M.stated in
    ap (read_sheet limit) M.written
    ∙ read-within plain_cell_limit limit (sheet_bytes 3 s) (converted-states plain_cell_limit bytes M.reads M.one)
    ∙ sym (read-within plain_cell_limit limit bytes M.reads)
