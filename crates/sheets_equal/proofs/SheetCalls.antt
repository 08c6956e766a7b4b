-- Request 3 over calls. What is assumed, whole: two calls of `sheet::read_sheet` met its contract (`Called`) and answered 0, and their bytes are below 256. Then
-- their bytes are equal exactly when they left the same pass, sides and map lists. That every call meets `Called`, whatever it is lent, is the contract of
-- `read_sheet` (crates/sheet).
use Rattle.std.specs.Prelude.{ℕ, ◌*◌, ◌/◌, ◌≡◌, refl, ◌↔◌, Bool, true, false, ◌&&◌, cond, List, [], leb, length, take, drop, Result, Ok, Err}
use Rattle.std.proofs.Common.{arith, sym, ap, ◌∙◌}
use Rattle.std.proofs.Math.Seq.{take-append_seam}
use Rattle.definitions.specs.Limits.{numbers_per_span, numbers_per_boundary, numbers_per_anchor}
use Rattle.definitions.specs.Lists.{overwrite}
use Rattle.definitions.specs.SheetNumber.{Read, found, failed}
use Rattle.definitions.specs.Sheet.{Sheet, Reading, well_formed, refused, reading, sheet, read_sheet, plain_cell_limit, read_verdict, room_for, reading_number, at_exit}
use Rattle.laws.specs.SheetReading.SheetSizes.{Sized, sized}
use Rattle.refusals.specs.declared.Refusal.{Refusal}
use Rattle.sheet.specs.Contract.{Answered, answer_of, by_number, answer_number, answer_number_lem}
use Rattle.sheet.specs.declared.Header.{Header}
use Rattle.sheets_equal.specs.NumberBytes.{Bytes}
use Rattle.sheets_equal.specs.Refusing.{refuses-sheet}
use Rattle.sheets_equal.proofs.SheetsEqual.{kind_of, sheets_equal}

-- a call: the bytes, the lists at entry, the answer, and the lists at exit
abbrev pub Called : List ℕ → List ℕ → List ℕ → List ℕ → List ℕ → Result Header Refusal → List ℕ → List ℕ → List ℕ → List ℕ → Type 0
Called bytes cells spans boundaries anchors =
    Answered (read_verdict bytes (length cells) (length spans) (length boundaries) (length anchors)) cells spans boundaries anchors

-- What the caller then has: the pass and the sides of the answer, and of each list as much as the answer counts. A refusal gives nothing.
abbrev pub held : {E : Type 0} → Result Header E → List ℕ → List ℕ → List ℕ → List ℕ → Sheet
held (Ok header) cells spans boundaries anchors =
    record {
      pass = header.pass;
      width = header.width;
      height = header.height;
      cells = take (header.width * header.height) cells;
      spans = take (header.spans * numbers_per_span) spans;
      boundaries = take (header.boundaries * numbers_per_boundary) boundaries;
      anchors = take (header.anchors * numbers_per_anchor) anchors;
    }
held (Err refusal) cells spans boundaries anchors =
    record { pass = 0; width = 0; height = 0; cells = []; spans = []; boundaries = []; anchors = [] }

-- the same of the answer by its number
held-same : (answer : Result Header Refusal) (cells spans boundaries anchors : List ℕ) → held answer cells spans boundaries anchors ≡ held (by_number answer) cells spans boundaries anchors
held-same (Ok header) cells spans boundaries anchors = refl
held-same (Err refusal) cells spans boundaries anchors = refl

-- ---- one call

not-zero : (bytes : List ℕ) {refusal place : ℕ} → read_sheet plain_cell_limit bytes ≡ refused refusal place → refusal ≡ 0 → ⊥
unfolding read_sheet
not-zero bytes {refusal} {place} h z = go (sheet plain_cell_limit 0 bytes) refl h
  where
    go : (r : Read Sheet) → sheet plain_cell_limit 0 bytes ≡ r → reading r ≡ refused refusal place → ⊥
    go (found s next rest) e q = let z : ◌≡◌ {A = ℕ} 0 1 = cc in omega arith
    go (failed n p) e q =
        let same : n ≡ refusal = cc in
        omega (arith, (refuses-sheet plain_cell_limit).above 0 bytes e)

-- the first numbers of a list that was filled
pub filled : (l lent : List ℕ) (n : ℕ) → n ≡ length l → take n (overwrite l lent) ≡ l
filled l lent n h = ap (λ m. take m (overwrite l lent)) h ∙ take-append_seam l (drop (length l) lent)

held_is : {limit : ℕ} {s : Sheet} → Sized limit s → (cells spans boundaries anchors : List ℕ)
    → held (answer_of (well_formed s)) (overwrite s.cells cells) (overwrite s.spans spans) (overwrite s.boundaries boundaries) (overwrite s.anchors anchors) ≡ s
held_is {limit} {s} S cells spans boundaries anchors =
    let a = filled s.cells cells (s.width * s.height) (sym S.cells_long_lem) in
    let b = filled s.spans spans (length s.spans / numbers_per_span * numbers_per_span) (omega (arith, S.spans.long)) in
    let c = filled s.boundaries boundaries (length s.boundaries / numbers_per_boundary * numbers_per_boundary) (omega (arith, S.boundaries.long)) in
    let d = filled s.anchors anchors (length s.anchors / numbers_per_anchor * numbers_per_anchor) (omega (arith, S.anchors.long)) in
    λ i. record { pass = s.pass; width = s.width; height = s.height; cells = a i; spans = b i; boundaries = c i; anchors = d i }

-- the bytes of a call that answered 0 read as what its caller then has
pub call-reads : (bytes : List ℕ) {cells spans boundaries anchors : List ℕ} {answer : Result Header Refusal} {cells' spans' boundaries' anchors' : List ℕ}
    → Called bytes cells spans boundaries anchors answer cells' spans' boundaries' anchors' → answer_number (by_number answer) ≡ 0
    → read_sheet plain_cell_limit bytes ≡ well_formed (held answer cells' spans' boundaries' anchors')
unfolding read_verdict
call-reads bytes {cells} {spans} {boundaries} {anchors} {answer} {cells'} {spans'} {boundaries'} {anchors'} C zero = go (read_sheet plain_cell_limit bytes) refl
  where
    verdict : Reading
    verdict = read_verdict bytes (length cells) (length spans) (length boundaries) (length anchors)

    number : reading_number verdict ≡ 0
    number = sym (answer_number_lem verdict) ∙ ap answer_number (sym C.said) ∙ zero

    left : {s : Sheet} → verdict ≡ well_formed s → read_sheet plain_cell_limit bytes ≡ well_formed s → read_sheet plain_cell_limit bytes ≡ well_formed (held answer cells' spans' boundaries' anchors')
    left {s} v e =
        let all : held answer cells' spans' boundaries' anchors' ≡ s =
        held-same answer cells' spans' boundaries' anchors'
        ∙ (λ i. held (C.said i) (C.cells_left i) (C.spans-left i) (C.boundaries-left i) (C.anchors-left i))
        ∙ ap (λ r. held (answer_of r) (at_exit (λ s. s.cells) r cells) (at_exit (λ s. s.spans) r spans) (at_exit (λ s. s.boundaries) r boundaries) (at_exit (λ s. s.anchors) r anchors)) v
        ∙ held_is (sized plain_cell_limit bytes e) cells spans boundaries anchors in
        e ∙ ap well_formed (sym all)

    go : (r : Reading) → read_sheet plain_cell_limit bytes ≡ r → read_sheet plain_cell_limit bytes ≡ well_formed (held answer cells' spans' boundaries' anchors')
    go (refused refusal place) e =
        let v : verdict ≡ refused refusal place = ap (λ r. room_for r (length cells) (length spans) (length boundaries) (length anchors)) e in
        absurd (not-zero bytes e (sym (ap reading_number v) ∙ number))
    go (well_formed s) e = pick _ refl
      where
        fits : Bool
        fits = leb (length s.cells) (length cells) && leb (length s.spans) (length spans) && leb (length s.boundaries) (length boundaries) && leb (length s.anchors) (length anchors)

        roomed : (t : Bool) → fits ≡ t → verdict ≡ cond t (well_formed s) (refused 10 0)
        roomed t f = ap (λ r. room_for r (length cells) (length spans) (length boundaries) (length anchors)) e ∙ ap (λ t. cond t (well_formed s) (refused 10 0)) f

        pick : (t : Bool) → fits ≡ t → read_sheet plain_cell_limit bytes ≡ well_formed (held answer cells' spans' boundaries' anchors')
        pick true f = left (roomed true f) e
        pick false f = absurd (let n : reading_number (refused 10 0) ≡ 0 = sym (ap reading_number (roomed false f)) ∙ number in omega arith)

-- ---- two calls

-- "equal bytes exactly when they state the same pass, sides and map lists", of two sheets of one kind
pub calls_equal : (a : List ℕ) {cells spans boundaries anchors : List ℕ} {answer : Result Header Refusal} {cells' spans' boundaries' anchors' : List ℕ}
    (b : List ℕ) {cells₂ spans₂ boundaries₂ anchors₂ : List ℕ} {answer₂ : Result Header Refusal} {cells₂' spans₂' boundaries₂' anchors₂' : List ℕ}
    → Called a cells spans boundaries anchors answer cells' spans' boundaries' anchors' → answer_number (by_number answer) ≡ 0
    → Called b cells₂ spans₂ boundaries₂ anchors₂ answer₂ cells₂' spans₂' boundaries₂' anchors₂' → answer_number (by_number answer₂) ≡ 0
    → Bytes a → Bytes b → kind_of a ≡ kind_of b
    → (a ≡ b) ↔ (held answer cells' spans' boundaries' anchors' ≡ held answer₂ cells₂' spans₂' boundaries₂' anchors₂')
calls_equal a b C c D d A B k = sheets_equal plain_cell_limit a b A B k (call-reads a C c) (call-reads b D d)
