-- Request 13: what every run is that an operation adds, a call's or a sheet's. Its refusal has a number that is counted; accepted, its pass is 1, 2 or 3, its boundaries are at most
-- 256 and those kept and removed together, and its squared lengths are at most 2^35. The argument: no check of the table and no reader refuses with a number above 14. Assumes
-- nothing.
use Rattle.std.specs.Prelude.{ℕ, zero, suc, ◌+◌, ◌*◌, ◌/◌, ◌%◌, ◌≤◌, ◌<◌, ◌≡◌, refl, Bool, true, false, not, ◌&&◌, cond, List, [], ◌∷◌, length, leb, eqb, ltb, Option, None, Some}
use Rattle.std.proofs.Common.{arith, mul-le-mul_right, leb-true}
use Rattle.definitions.specs.Limits.{is_side, max_entries, numbers_per_span, numbers_per_boundary, numbers_per_anchor}
use Rattle.definitions.specs.Scan.{only_if}
use Rattle.definitions.specs.Grid.{segment_at}
use Rattle.definitions.specs.Refusals.{Refusal, or_else, first_below_lem, unless, sides_fault, cells_fault, is_whole, pass_fault, both_on_map, endpoints_differ, spans_refusal, boundaries_fault, anchors_fault, elevations_fault, output_room}
use Rattle.definitions.specs.Rows.{rows_of}
use Rattle.definitions.specs.Verdict.{Lent, map_in, refusal, first_refusal, records_fault, pairs_fault, partition_has_room, verdict}
use Rattle.definitions.specs.SheetNumber.{Read, found, failed, with_group, continued, ill_formed, groups, number}
use Rattle.definitions.specs.Sheet.{Reader, check, and_then, times, judged, is_map_kind, kind, cell, area, entries, has_spans, spans_held, end, Sheet, well_formed, refused, reading, sheet, read_sheet, room_for, read_verdict, plain_cell_limit, keptlist_cell_limit}
use Rattle.definitions.specs.Printed.{max_sheet_bytes, lent_for}
use Rattle.laws.specs.ListLaws.Lists.{All, done, more}
use Rattle.laws.specs.ListLaws.Tests.{both}
use Rattle.laws.specs.ListLaws.NoFault.{no_fault_lem}
use Rattle.laws.specs.TableLaws.AcceptedCalls.{accepted}
use Rattle.laws.specs.TableLaws.KeptRows.{boundary_count_lem}
use Rattle.laws.specs.RustPasses.Accepted.{accepted-on_map}
use Rattle.report.specs.Runs.{Figures, Run, refused_run, accepted_run, squared_lengths, figures_from, figures_of, accepted_of, run_by, run_of, sheet_reading, reading_run, sheet_run}
use Rattle.report.specs.Report.{refusal_numbers, pass_count}
use Rattle.report.specs.ReportLaws.OneRun.{max_square, in_is_sum, squared-few}

-- the most squared lengths of one run, 2^35
abbrev pub max_squares : ℕ
max_squares = max_entries * max_square

-- the figures of one accepted run
pub record OneRun (f : Figures) : Type 0 where
  pub one : f.accepted ≡ 1
  pub few : f.boundaries ≤ max_entries
  pub sum : f.boundaries ≡ f.kept + f.removed

pub data Possible : Run → Type 0 where
  refusing : {n : ℕ} → n < refusal_numbers → Possible (refused_run n)
  accepting : {pass : ℕ} {f : Figures} {squared : ℕ} → 1 ≤ pass → pass ≤ pass_count → OneRun f → squared ≤ max_squares → Possible (accepted_run pass f squared)

-- ---- the numbers of refusals: calls

data Low : Option Refusal → Type 0 where
  nothing : Low None
  low : {r : Refusal} → r.number < refusal_numbers → Low (Some r)

refusal-low : (n : ℕ) (place : Option ℕ) → n < refusal_numbers → Low (refusal n place)
refusal-low n None h = nothing
refusal-low n (Some place) h = low h

or_low : {x y : Option Refusal} → Low x → Low y → Low (or_else x y)
or_low nothing k = k
or_low (low h) k = low h

only_low : (t : Bool) (n place : ℕ) → n < refusal_numbers → Low (only_if t (record { number = n; place = place }))
only_low true n place h = low h
only_low false n place h = nothing

below-low : (n : ℕ) (f : ℕ → Option Refusal) → ((i : ℕ) → Low (f i)) → Low (first_below_lem n f)
unfolding first_below_lem
below-low zero f h = nothing
below-low (suc n) f h = or_low (below-low n f h) (h n)

spans-low : (w h : ℕ) (spans : List ℕ) → Low (spans_refusal w h spans)
unfolding spans_refusal
spans-low w h spans =
    below-low (length spans / numbers_per_span) _
    (λ i. or_low (only_low (not (both_on_map w h (segment_at spans (numbers_per_span * i)))) 5 i (omega arith))
    (only_low (not (endpoints_differ (segment_at spans (numbers_per_span * i)))) 6 i (omega arith)))

first_low : {l : List (Option Refusal)} (count : ℕ) → All Low l → (first_refusal l count).number < refusal_numbers
first_low count done = omega arith
first_low count (more nothing a) = first_low count a
first_low count (more (low h) a) = h

verdict-low : (L : Lent) → (verdict L).number < refusal_numbers
unfolding verdict
verdict-low L =
    first_low (length (rows_of L.pass (map_in L)))
    (more (refusal-low 1 (sides_fault L.width L.height) (omega arith))
    (more (refusal-low 2 (cells_fault L.width L.height L.cells) (omega arith))
    (more (refusal-low 3 (unless (is_whole numbers_per_span L.spans && is_whole numbers_per_boundary L.boundaries && is_whole numbers_per_anchor L.anchors)) (omega arith))
    (more (refusal-low 4 (pass_fault L.pass) (omega arith))
    (more (spans-low L.width L.height L.spans)
    (more (refusal-low 7 (boundaries_fault L.width L.height L.boundaries) (omega arith))
    (more (refusal-low 8 (anchors_fault L.width L.height L.anchors) (omega arith))
    (more (refusal-low 9 (elevations_fault L.cells) (omega arith))
    (more (refusal-low 10 (unless (partition_has_room L && output_room (length L.boundaries / numbers_per_boundary) (length L.output))) (omega arith))
    (more (refusal-low 11 (records_fault L (map_in L)) (omega arith))
    (more (refusal-low 12 (pairs_fault L (map_in L)) (omega arith)) done)))))))))))

-- ---- the numbers of refusals: sheets

data LowRead {A : Type 0} : Read A → Type 0 where
  value : {a : A} {offset : ℕ} {rest : List ℕ} → LowRead (found a offset rest)
  low_read : {n place : ℕ} → n < refusal_numbers → LowRead (failed n place)

then-low : {A B : Type 0} {r : Read A} (next : A → Reader B) → LowRead r → ((a : A) (offset : ℕ) (bytes : List ℕ) → LowRead (next a offset bytes)) → LowRead (and_then r next)
then-low next value k = k _ _ _
then-low next (low_read h) k = low_read h

check-low : {A : Type 0} (ok : Bool) (n place : ℕ) (a : A) → n < refusal_numbers → (offset : ℕ) (bytes : List ℕ) → LowRead (check ok n place a offset bytes)
check-low true n place a h offset bytes = value
check-low false n place a h offset bytes = low_read h

groups-low : (first g sum offset : ℕ) (bytes : List ℕ) → LowRead (groups first g sum offset bytes)
unfolding groups
groups-low first g sum offset [] = low_read {n = 14} (omega arith)
groups-low first g sum offset (b ∷ rest) = go (ill_formed g b) (continued b) (with_group sum g b) (groups-low first (g + 1) (with_group sum g b) (offset + 1) rest)
  where
    go : (bad onward : Bool) (a : ℕ) {r : Read ℕ} → LowRead r → LowRead (cond bad (failed 14 first) (cond onward r (found a (offset + 1) rest)))
    go true onward a k = low_read {n = 14} (omega arith)
    go false true a k = k
    go false false a k = value

number-low : (offset : ℕ) (bytes : List ℕ) → LowRead (number offset bytes)
unfolding number
number-low offset bytes = groups-low offset 0 0 offset bytes

judged-low : (ok : ℕ → Bool) (offset : ℕ) (bytes : List ℕ) → LowRead (judged ok offset bytes)
unfolding judged
judged-low ok offset bytes = then-low _ (number-low offset bytes) (λ a. check-low (ok a) 14 offset a (omega arith))

times-low : (n : ℕ) (item : Reader ℕ) → ((offset : ℕ) (bytes : List ℕ) → LowRead (item offset bytes)) → (offset : ℕ) (bytes : List ℕ) → LowRead (times n item offset bytes)
unfolding times
times-low zero item h offset bytes = value
times-low (suc n) item h offset bytes = then-low _ (h offset bytes) (λ a o m. then-low _ (times-low n item h o m) (λ l p k. value))

entries-low : (size offset : ℕ) (bytes : List ℕ) → LowRead (entries size offset bytes)
unfolding entries
entries-low size offset bytes =
    then-low _ (number-low offset bytes)
    (λ written o m. then-low _ (check-low (leb written max_entries) 3 0 written (omega arith) o m) (λ count p k. times-low (count * size) number number-low p k))

spans_held-low : (own : Bool) (offset : ℕ) (bytes : List ℕ) → LowRead (spans_held own offset bytes)
spans_held-low true offset bytes = entries-low numbers_per_span offset bytes
spans_held-low false offset bytes = value

end_low : (offset : ℕ) (bytes : List ℕ) → LowRead (end offset bytes)
end_low offset [] = value
end_low offset (b ∷ rest) = low_read {n = 14} (omega arith)

kind-low : (offset : ℕ) (bytes : List ℕ) → LowRead (kind offset bytes)
unfolding kind
kind-low = judged-low is_map_kind

cell-low : (offset : ℕ) (bytes : List ℕ) → LowRead (cell offset bytes)
unfolding cell
cell-low = judged-low (λ a. leb a 255)

area-low : (limit width height offset : ℕ) (bytes : List ℕ) → LowRead (area limit width height offset bytes)
area-low limit width height = check-low (is_side width && is_side height && leb (width * height) limit) 1 0 (width * height) (omega arith)

sheet-low : (limit offset : ℕ) (bytes : List ℕ) → LowRead (sheet limit offset bytes)
unfolding sheet
sheet-low limit offset bytes =
    then-low _ (kind-low offset bytes) (λ written o₁ b₁.
    then-low _ (number-low o₁ b₁) (λ pass o₂ b₂.
    then-low _ (number-low o₂ b₂) (λ width o₃ b₃.
    then-low _ (number-low o₃ b₃) (λ height o₄ b₄.
    then-low _ (area-low limit width height o₄ b₄) (λ count o₅ b₅.
    then-low _ (times-low count cell cell-low o₅ b₅) (λ cells o₆ b₆.
    then-low _ (spans_held-low (has_spans written) o₆ b₆) (λ spans o₇ b₇.
    then-low _ (entries-low numbers_per_boundary o₇ b₇) (λ boundaries o₈ b₈.
    then-low _ (entries-low numbers_per_anchor o₈ b₈) (λ anchors o₉ b₉.
    then-low _ (end_low o₉ b₉) (λ _ o b. value))))))))))

-- ---- every run

call_possible : (L : Lent) → Possible (run_of L)
unfolding run_of run_by accepted_of figures_of figures_from
call_possible L = go (verdict L).number refl (verdict-low L)
  where
    go : (n : ℕ) → (verdict L).number ≡ n → n < refusal_numbers → Possible (run_by n L)
    go (suc n) e h = refusing h
    go zero e h =
        let A = accepted L e in
        let M = map_in L in
        let p = both (leb 1 L.pass) (leb L.pass 3) (no_fault_lem (leb 1 L.pass && leb L.pass 3) 0 A.pass) in
        let lists = both (is_whole numbers_per_span L.spans && is_whole numbers_per_boundary L.boundaries) (is_whole numbers_per_anchor L.anchors) A.whole in
        let whole = both (is_whole numbers_per_span L.spans) (is_whole numbers_per_boundary L.boundaries) lists.0 in
        let n : ℕ = length L.boundaries / numbers_per_boundary in
        let entries = both (eqb (length L.boundaries % numbers_per_boundary) 0) (leb n max_entries) whole.1 in
        let few : length M.boundaries ≤ max_entries = omega (arith, boundary_count_lem L, leb-true n max_entries entries.1) in
        let squares : length M.boundaries * max_square ≤ max_entries * max_square = mul-le-mul_right max_square few in
        let squared : squared_lengths (rows_of L.pass M) ≤ max_squares = omega (arith, squared-few L.pass M (accepted-on_map L e), squares) in
        accepting (leb-true 1 L.pass p.0) (leb-true L.pass 3 p.1) (record { one = refl; few = few; sum = in_is_sum L.pass M }) squared

reading_possible : (r : Read Sheet) → LowRead r → Possible (reading_run (reading r))
unfolding reading_run
reading_possible (found s offset rest) k = call_possible (lent_for s)
reading_possible (failed n place) (low_read h) = refusing h

sheet_possible : (bytes : List ℕ) → Possible (sheet_run bytes)
unfolding sheet_run sheet_reading read_sheet reading_run
sheet_possible bytes = go (ltb max_sheet_bytes (length bytes))
  where
    go : (long : Bool) → Possible (reading_run (cond long (refused 14 max_sheet_bytes) (reading (sheet keptlist_cell_limit 0 bytes))))
    go true = refusing {n = 14} (omega arith)
    go false = reading_possible (sheet keptlist_cell_limit 0 bytes) (sheet-low keptlist_cell_limit 0 bytes)

-- reading alone refuses with 10 too
refused_possible : (r : Read Sheet) → LowRead r → (cells spans boundaries anchors : ℕ) {n place : ℕ} → room_for (reading r) cells spans boundaries anchors ≡ refused n place
    → Possible (refused_run n)
refused_possible (failed m p) (low_read h) cells spans boundaries anchors {n} {place} e =
    let same : m ≡ n = cc e in
    refusing {n = n} (omega (arith, same, h))
refused_possible (found s offset rest) k cells spans boundaries anchors {n} {place} e =
    go (leb (length s.cells) cells && leb (length s.spans) spans && leb (length s.boundaries) boundaries && leb (length s.anchors) anchors) e
  where
    go : (b : Bool) → cond b (well_formed s) (refused 10 0) ≡ refused n place → Possible (refused_run n)
    go true f = absurd (let z : ◌≡◌ {A = ℕ} 0 1 = cc f in omega arith)
    go false f =
        let same : 10 ≡ n = cc f in
        refusing {n = n} (omega (arith, same))

reading-refused : (bytes : List ℕ) (cells spans boundaries anchors : ℕ) {n place : ℕ} → read_verdict bytes cells spans boundaries anchors ≡ refused n place → Possible (refused_run n)
unfolding read_verdict read_sheet
reading-refused bytes cells spans boundaries anchors e = refused_possible (sheet plain_cell_limit 0 bytes) (sheet-low plain_cell_limit 0 bytes) cells spans boundaries anchors e

-- what an operation adds: a call of a pass; a sheet, read and run as `keptlist` does it; or a sheet of any size that reading alone refuses
pub data Made : Run → Type 0 where
  by_call : (L : Lent) → Made (run_of L)
  by_sheet : (bytes : List ℕ) → Made (sheet_run bytes)
  by_reading : (bytes : List ℕ) (cells spans boundaries anchors : ℕ) {n place : ℕ} → read_verdict bytes cells spans boundaries anchors ≡ refused n place → Made (refused_run n)

pub made_possible : {run : Run} → Made run → Possible run
made_possible (by_call L) = call_possible L
made_possible (by_sheet bytes) = sheet_possible bytes
made_possible (by_reading bytes cells spans boundaries anchors e) = reading-refused bytes cells spans boundaries anchors e
