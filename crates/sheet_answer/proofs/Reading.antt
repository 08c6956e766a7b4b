-- The bytes of a sheet as they are read with the limits of `keptlist`, into lists that have room for every sheet: what was read, or why nothing was. Assumes nothing.
use Prim.Native.Nat.{ℕ, ◌*◌, ◌/◌, ◌≤◌}
use native.Mathlib.Omega.{arith}
use mathlib.Core.Path.{◌≡◌, refl, sym, ap, subst, ◌∙◌}
use mathlib.Core.Bool.{Bool, true, false, cond}
use mathlib.Core.List.{List}
use lib.ListN.{length, take, drop, length-append}
use lib.Seq.{take_at, length-take-le}
use lib.Dec.{ltb}
use Rattle.std.specs.Prelude.{Result, Ok, Err}
use Rattle.definitions.specs.Limits.{numbers_per_span, numbers_per_boundary, numbers_per_anchor}
use Rattle.definitions.specs.Lists.{overwrite}
use Rattle.definitions.specs.Sheet.{Sheet, Reading, well_formed, refused, read_sheet, keptlist_cell_limit}
use Rattle.definitions.specs.Printed.{max_sheet_bytes}
use Rattle.laws.specs.SheetReading.SheetSizes.{Sized, sized, room-enough}
use Rattle.refusals.specs.declared.Refusal.{Refusal}
use Rattle.refusals.specs.Refusals.{number_of, refusal_of}
use Rattle.sheet.specs.Contract.{Answered, by_number, header_of, answer_of}
use Rattle.sheet.specs.declared.Header.{Header}
use Rattle.report_reading.specs.Contract.{limited_reading}
use Rattle.sheet_answer.specs.Contract.{keptlist_reading, ListsLong, sheet_from, sheet_in, Inside, SheetHeld}

-- a list behind which the old entries stand
begins : (l old : List ℕ) {new : List ℕ} (n : ℕ) → length l ≡ n → new ≡ overwrite l old → Inside n new × (take n new ≡ l)
begins l old {new} n h e =
    let few : n ≤ length new = omega (arith, h, ap length e, length-append l (drop (length l) old)) in
    ((few, sym (length-take-le n new few)), ap (take n) e ∙ take_at l (drop (length l) old) n h)

-- a sheet that the program reads has at most so many cells
reading-sized : (bytes : List ℕ) {s : Sheet} → keptlist_reading bytes ≡ well_formed s → Sized keptlist_cell_limit s
unfolding keptlist_reading
reading-sized bytes {s} h = go (ltb max_sheet_bytes (length bytes)) h
  where
    go : (long : Bool) → cond long (refused 14 max_sheet_bytes) (read_sheet keptlist_cell_limit bytes) ≡ well_formed s → Sized keptlist_cell_limit s
    go true e = absurd (let z : ◌≡◌ {A = ℕ} 0 1 = cc in omega arith)
    go false e = sized keptlist_cell_limit bytes e

-- what was read: the lists hold a sheet, as the header has it
pub record SheetRead (bytes : List ℕ) (header : Header) (cells spans boundaries anchors : List ℕ) : Type 0 where
  pub is : keptlist_reading bytes ≡ well_formed (sheet_in header cells spans boundaries anchors)
  pub held : SheetHeld header cells spans boundaries anchors

module _ (bytes : List ℕ) {cells spans boundaries anchors : List ℕ} (L : ListsLong (length cells) (length spans) (length boundaries) (length anchors))
    {answer : Result Header Refusal} {cells' spans' boundaries' anchors' : List ℕ}
    (A : Answered (limited_reading bytes cells spans boundaries anchors) cells spans boundaries anchors answer cells' spans' boundaries' anchors') where
  B : Answered (keptlist_reading bytes) cells spans boundaries anchors answer cells' spans' boundaries' anchors'
  unfolding keptlist_reading
  B =
      subst (λ r. Answered r cells spans boundaries anchors answer cells' spans' boundaries' anchors')
      (ap (cond (ltb max_sheet_bytes (length bytes)) (refused 14 max_sheet_bytes))
      (room-enough keptlist_cell_limit bytes L.for_cells L.for_spans L.for_boundaries L.for_anchors))
      A

  pub not_read : (refusal : Refusal) → answer ≡ Err refusal → keptlist_reading bytes ≡ refused (number_of refusal.cause) refusal.place
  not_read refusal e = go (keptlist_reading bytes) (ap by_number (sym e) ∙ B.said)
    where
      go : (r : Reading) → by_number (Err refusal) ≡ answer_of r → r ≡ refused (number_of refusal.cause) refusal.place
      go (well_formed s) f = absurd (let z : ◌≡◌ {A = ℕ} 0 1 = cc f in omega arith)
      go (refused n p) f =
          let s : refusal_of refusal ≡ record { number = n; place = p } = cc f in
          ap (λ x. refused x.number x.place) (sym s)

  pub sheet_read : {header : Header} → answer ≡ Ok header → SheetRead bytes header cells' spans' boundaries' anchors'
  sheet_read {header} f = go (keptlist_reading bytes) refl B
    where
      go : (r : Reading) → keptlist_reading bytes ≡ r → Answered r cells spans boundaries anchors answer cells' spans' boundaries' anchors'
          → SheetRead bytes header cells' spans' boundaries' anchors'
      go (refused number place) e C = absurd (let q = ap by_number (sym f) ∙ C.said in let z : ◌≡◌ {A = ℕ} 0 1 = cc q in omega arith)
      go (well_formed s) e C =
          let q = ap by_number (sym f) ∙ C.said in
          let same : header_of s ≡ header = cc q in
          let S : Sized keptlist_cell_limit s = reading-sized bytes e in
          let a = begins s.cells cells (s.width * s.height) S.cells_long_lem C.cells_left in
          let b = begins s.spans spans (numbers_per_span * (length s.spans / numbers_per_span)) (omega (arith, S.spans.long)) C.spans-left in
          let c = begins s.boundaries boundaries (numbers_per_boundary * (length s.boundaries / numbers_per_boundary)) (omega (arith, S.boundaries.long)) C.boundaries-left in
          let d = begins s.anchors anchors (numbers_per_anchor * (length s.anchors / numbers_per_anchor)) (omega (arith, S.anchors.long)) C.anchors-left in
          let whole : sheet_in (header_of s) cells' spans' boundaries' anchors' ≡ s = λ i. sheet_from s.pass s.width s.height (a.1 i) (b.1 i) (c.1 i) (d.1 i) in
          subst (λ h. SheetRead bytes h cells' spans' boundaries' anchors') same
          (record {
            is = e ∙ ap well_formed (sym whole);
            held = record {
              cells-few = S.area-few;
              spans-few = omega (arith, S.spans.long, S.spans.few);
              boundaries-few = omega (arith, S.boundaries.long, S.boundaries.few);
              anchors-few = omega (arith, S.anchors.long, S.anchors.few);
              cells-inside = a.0;
              spans-inside = b.0;
              boundaries-inside = c.0;
              anchors-inside = d.0;
            };
          })
