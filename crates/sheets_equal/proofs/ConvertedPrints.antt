-- "Old kind 1 sheets with equal lists convert to kind 3 and give equal rows" (document 02, request 12), over a call of the converter and down to the printed list. What is
-- assumed, whole: the call met its contract (`Converts`) and answered 0, its bytes are below 256, and for what `keptlist` prints the sheet has at most 65,536 bytes. Of a
-- longer one `keptlist` says `refused 14 at 65536`, while its conversion may be short enough to be read.
use Rattle.std.specs.Prelude.{ℕ, ◌+◌, ◌<◌, ◌≤◌, ◌≡◌, refl, ◌⊎◌, Bool, true, false, cond, List, [], ◌++◌, eqb, length, take}
use Rattle.std.proofs.Common.{arith, sym, ap, ◌∙◌, inl, inr, length-append, le-ltb}
use Rattle.definitions.specs.Limits.{numbers_per_span, numbers_per_boundary, numbers_per_anchor}
use Rattle.definitions.specs.Scan.{concat_map}
use Rattle.definitions.specs.Printed.{max_sheet_bytes, printed_reading, keptlist}
use Rattle.definitions.specs.SheetNumber.{Read, found, failed, number}
use Rattle.definitions.specs.Sheet.{Sheet, well_formed, refused, reading, sheet, read_sheet, plain_cell_limit, keptlist_cell_limit}
use Rattle.definitions.specs.Verdict.{Answer}
use Rattle.results.specs.Shortest.{shortest_within, shortest, list_bytes}
use Rattle.map_sheets.specs.SheetBytes.{sheet_bytes}
use Rattle.map_sheets.specs.Converting.{of_kind1, read_kind1, Converts}
use Rattle.map_sheets.proofs.Calls.{Made, made, made_reads}
use Rattle.sheets_equal.specs.NumberBytes.{Bytes}
use Rattle.sheets_equal.specs.Refusing.{refuses-sheet}
use Rattle.sheets_equal.proofs.SheetsEqual.{kind_of, read-written, kind_1_or_3}

-- ---- no refusal of the reader has the number 0

not-refused : {s : Sheet} {n p : ℕ} → well_formed s ≡ refused n p → ⊥
not-refused h = let z : ◌≡◌ {A = ℕ} 0 1 = cc in omega arith

read_above : (limit : ℕ) (bytes : List ℕ) {n p : ℕ} → read_sheet limit bytes ≡ refused n p → 0 < n
unfolding read_sheet
read_above limit bytes {n} {p} h = go (sheet limit 0 bytes) refl h
  where
    go : (r : Read Sheet) → sheet limit 0 bytes ≡ r → reading r ≡ refused n p → 0 < n
    go (found s next rest) e q = absurd (not-refused q)
    go (failed m place) e q =
        let same : m ≡ n = cc in
        omega (arith, (refuses-sheet limit).above 0 bytes e)

pub kind_1-above : (bytes : List ℕ) (n p : ℕ) → read_kind1 bytes ≡ refused n p → 0 < n
unfolding read_kind1
kind_1-above bytes n p h = go (number 0 bytes) h
  where
    fourteen : refused 14 0 ≡ refused n p → 0 < n
    fourteen q =
        let same : 14 ≡ n = cc in
        omega arith

    pick : (t : Bool) → cond t (read_sheet plain_cell_limit bytes) (refused 14 0) ≡ refused n p → 0 < n
    pick true q = read_above plain_cell_limit bytes q
    pick false q = fourteen q

    go : (r : Read ℕ) → of_kind1 r (read_sheet plain_cell_limit bytes) ≡ refused n p → 0 < n
    go (found kind next rest) q = pick (eqb kind 1) q
    go (failed m place) q = read_above plain_cell_limit bytes q

-- ---- the call

-- the new sheet states what the old one does, for any limit of cells
pub converted-reads : {bytes lent lent' : List ℕ} {answer : Answer} → Converts bytes lent answer lent' → answer.number ≡ 0
    → (limit : ℕ) → read_sheet limit (take answer.value lent') ≡ read_sheet limit bytes
converted-reads {bytes} C z limit = made_reads (made (kind_1-above bytes) C z) limit

-- ---- what is printed

parts-long : (a b c d e f g h : List ℕ) → length (a ++ b ++ c ++ d ++ e ++ f ++ g ++ h)
    ≡ length a + length b + length c + length d + length e + length f + length g + length h
parts-long a b c d e f g h = simp length-append refl

shorter : (s : Sheet) → length (sheet_bytes 3 s) ≤ length (sheet_bytes 1 s)
unfolding sheet_bytes shortest shortest_within
shorter s =
    let p = shortest s.pass in
    let w = shortest s.width in
    let h = shortest s.height in
    let c = concat_map shortest s.cells in
    let n = list_bytes numbers_per_boundary s.boundaries in
    let a = list_bytes numbers_per_anchor s.anchors in
    omega (arith, parts-long (shortest 3) p w h c [] n a, parts-long (shortest 1) p w h c (list_bytes numbers_per_span s.spans) n a)

-- so the new sheet is no longer than the old one
made-short : {bytes new : List ℕ} → Bytes bytes → Made bytes new → length new ≤ length bytes
made-short {bytes} {new} B M = go (kind_1_or_3 plain_cell_limit bytes M.reads)
  where
    whole : bytes ≡ sheet_bytes (kind_of bytes) M.stated
    whole = read-written plain_cell_limit bytes B M.reads

    go : (kind_of bytes ≡ 1) ⊎ (kind_of bytes ≡ 3) → length new ≤ length bytes
    go (inl k) = omega (arith, ap length M.written, ap length (whole ∙ ap (λ n. sheet_bytes n M.stated) k), shorter M.stated)
    go (inr k) = omega (arith, ap length M.written, ap length (whole ∙ ap (λ n. sheet_bytes n M.stated) k))

printed : (bytes : List ℕ) → length bytes ≤ max_sheet_bytes → keptlist bytes ≡ printed_reading (read_sheet keptlist_cell_limit bytes)
unfolding keptlist
printed bytes h = rw (le-ltb max_sheet_bytes (length bytes) h) refl

-- `keptlist` prints the same
pub converted_prints : {bytes lent lent' : List ℕ} {answer : Answer} → Bytes bytes → length bytes ≤ max_sheet_bytes → Converts bytes lent answer lent' → answer.number ≡ 0
    → keptlist (take answer.value lent') ≡ keptlist bytes
converted_prints {bytes} {lent} {lent'} {answer} B h C z =
    let M = made (kind_1-above bytes) C z in
    printed (take answer.value lent') (omega (arith, made-short B M)) ∙ ap printed_reading (made_reads M keptlist_cell_limit) ∙ sym (printed bytes h)
