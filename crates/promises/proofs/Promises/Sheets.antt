-- What the bytes of sheets and of result sheets say: that they read back, and that one map has one sheet. In the order of the requests. Assumes nothing.
use Prim.Native.Nat.{ℕ, ◌+◌, ◌^◌, ◌<◌, ◌≤◌}
use mathlib.Core.Path.{◌≡◌, ap, ◌∙◌}
use mathlib.Core.Logic.{◌↔◌}
use mathlib.Core.List.{List, ◌++◌}
use lib.ListN.{length, take}
use Rattle.definitions.specs.Partition.{labels}
use Rattle.definitions.specs.Verdict.{Answer}
use Rattle.definitions.specs.Printed.{max_sheet_bytes, keptlist}
use Rattle.definitions.specs.SheetNumber.{found, number}
use Rattle.definitions.specs.Sheet.{Sheet, read_sheet}
use Rattle.definitions.specs.Sheet as sheet
use Rattle.results.specs.Result.{Result}
use Rattle.results.specs.ResultAnswers.{read_result, result_bytes, well_formed, Writes}
use Rattle.results.specs.Shortest.{shortest}
use Rattle.results.specs.ShortestReads.{number-shortest}
use Rattle.results.proofs.Calls.{InMemory}
use Rattle.results.proofs.Calls as written
use Rattle.std.specs.Prelude as prelude
use Rattle.refusals.specs.declared.Refusal as refusals
use Rattle.sheet.specs.Contract.{by_number, answer_number}
use Rattle.sheet.specs.declared.Header.{Header}
use Rattle.sheets_equal.specs.NumberBytes.{Bytes}
use Rattle.sheets_equal.proofs.NumberBytes as numbers
use Rattle.sheets_equal.proofs.SheetsEqual.{kind_of}
use Rattle.sheets_equal.proofs.SheetsEqual as sheets
use Rattle.sheets_equal.proofs.ConvertedPrints as conversions
use Rattle.map_sheets.specs.Writing.{Writes as WritesSheet}
use Rattle.map_sheets.specs.Converting.{Converts}
use Rattle.map_sheets.specs.Before as before
use Rattle.map_sheets.proofs.Calls.{InMemory as SheetInMemory}
use Rattle.map_sheets.proofs.Calls as new-sheets
use Rattle.sheets_equal.proofs.SheetCalls.{Called as ReadCall, held}
use Rattle.sheets_equal.proofs.SheetCalls as sheet-calls
use Rattle.sheets_equal.proofs.ResultsEqual as results
use Rattle.sheets_equal.proofs.ReaderCalls as reader-calls
use Rattle.result_reader.specs.Contract.{Reads}
use Rattle.result_reader.specs.TwoCalls.{Enough, Holds}
use Rattle.result_reader.specs.TwoCalls as two
use Rattle.result_reader.specs.declared.ResultAnswer.{ResultAnswer}

-- ---- request 1: what a call of the writer wrote

-- it reads as itself; and the reader reads it back, entry by entry, into lists that are long enough
pub written-reads-back : {r : Result} {lent lent' : List ℕ} {wrote : Answer} {labels tallies pairs rows labels' tallies' pairs' rows' : List ℕ} {answer : ResultAnswer}
    → InMemory r → Writes r lent wrote lent' → wrote.number ≡ 0
    → (read_result (take wrote.value lent') ≡ well_formed r)
    × (Enough r labels tallies pairs rows
    → Reads (take wrote.value lent') labels tallies pairs rows answer labels' tallies' pairs' rows' → Holds r answer labels' tallies' pairs' rows')
written-reads-back small call success = (written.written-call small call success, λ long read. two.written-reads-back small call success long read)

-- ---- request 3: one map has one sheet

-- bytes read as a number and a rest exactly when they are the bytes that would be written for the number, and then the rest
pub number_exactly : (offset : ℕ) (bytes : List ℕ) (v : ℕ) (rest : List ℕ) → Bytes bytes → v < 2 ^ 64
    → ((next : ℕ) × (number offset bytes ≡ found v next rest)) ↔ (bytes ≡ shortest v ++ rest)
number_exactly offset bytes v rest B small =
    (λ r. numbers.number-bytes offset bytes B r.1, λ e. (offset + length (shortest v), ap (number offset) e ∙ number-shortest v offset rest small))

-- "Two accepted sheets of kind 1 are then equal bytes exactly when they state the same pass, sides and map lists", whatever the limit of cells; and two of kind 3.
-- Two of different kinds, which may state the same, are never equal bytes.
pub sheets_equal : (cellLimit : ℕ) (a b : List ℕ) {s t : Sheet} → Bytes a → Bytes b
    → read_sheet cellLimit a ≡ sheet.well_formed s → read_sheet cellLimit b ≡ sheet.well_formed t → (a ≡ b) ↔ ((kind_of a ≡ kind_of b) × (s ≡ t))
sheets_equal cellLimit a b A B g h =
    (λ e. (ap kind_of e, (sheets.sheets_equal cellLimit a b A B (ap kind_of e) g h).0 e), λ p. (sheets.sheets_equal cellLimit a b A B p.0 g h).1 p.1)

-- the same over two calls of the reader that answered 0, of what their callers then have
pub sheet_calls_equal : (a : List ℕ) {cells spans boundaries anchors : List ℕ} {answer : prelude.Result Header refusals.Refusal} {cells' spans' boundaries' anchors' : List ℕ}
    (b : List ℕ) {cells₂ spans₂ boundaries₂ anchors₂ : List ℕ} {answer₂ : prelude.Result Header refusals.Refusal} {cells₂' spans₂' boundaries₂' anchors₂' : List ℕ}
    → ReadCall a cells spans boundaries anchors answer cells' spans' boundaries' anchors' → answer_number (by_number answer) ≡ 0
    → ReadCall b cells₂ spans₂ boundaries₂ anchors₂ answer₂ cells₂' spans₂' boundaries₂' anchors₂' → answer_number (by_number answer₂) ≡ 0
    → Bytes a → Bytes b → kind_of a ≡ kind_of b
    → (a ≡ b) ↔ (held answer cells' spans' boundaries' anchors' ≡ held answer₂ cells₂' spans₂' boundaries₂' anchors₂')
sheet_calls_equal = sheet-calls.calls_equal

-- of kind 2: a result that was read is the bytes that would be written for it, so that two result sheets are equal bytes exactly when they state the same result
pub results_equal : (a b : List ℕ) {r t : Result} → Bytes a → Bytes b → read_result a ≡ well_formed r → read_result b ≡ well_formed t
    → (a ≡ result_bytes r) × (b ≡ result_bytes t) × ((a ≡ b) ↔ (r ≡ t))
results_equal a b A B g h = (results.read-written a A g, results.read-written b B h, results.results_equal a b A B g h)

-- the same over two calls of the reader that answered 0, of what their callers then have
pub result_calls_equal : (a labels tallies pairs rows : List ℕ) {answer : ResultAnswer} {labels' tallies' pairs' rows' : List ℕ}
    (b labels₂ tallies₂ pairs₂ rows₂ : List ℕ) {answer₂ : ResultAnswer} {labels₂' tallies₂' pairs₂' rows₂' : List ℕ}
    → Reads a labels tallies pairs rows answer labels' tallies' pairs' rows' → answer.number ≡ 0
    → Reads b labels₂ tallies₂ pairs₂ rows₂ answer₂ labels₂' tallies₂' pairs₂' rows₂' → answer₂.number ≡ 0
    → Bytes a → Bytes b
    → (a ≡ b) ↔ (reader-calls.held answer labels' tallies' pairs' rows' ≡ reader-calls.held answer₂ labels₂' tallies₂' pairs₂' rows₂')
result_calls_equal = reader-calls.calls_equal

-- ---- request 12: sheets without spans of their own

-- "what it writes reads as itself": a call of the writer that met its contract and answered 0, with the boundaries' endpoints as spans
pub sheet-written : {s : Sheet} {lent lent' : List ℕ} {answer : Answer} → SheetInMemory s → s.spans ≡ sheet.endpoints_of s.boundaries
    → WritesSheet s lent answer lent' → answer.number ≡ 0 → read_sheet sheet.plain_cell_limit (take answer.value lent') ≡ sheet.well_formed s
sheet-written = new-sheets.written-call

-- "Old kind 1 sheets with equal lists convert to kind 3 and give equal rows": a call of the converter that answered 0 wrote a sheet that states the same, within any
-- limit of cells, and for which `keptlist` prints the same, for old sheets of the length that it takes
pub converted_same : {bytes lent lent' : List ℕ} {answer : Answer}
    → Converts bytes lent answer lent' → answer.number ≡ 0
    → ((limit : ℕ) → read_sheet limit (take answer.value lent') ≡ read_sheet limit bytes)
    × (Bytes bytes → length bytes ≤ max_sheet_bytes → keptlist (take answer.value lent') ≡ keptlist bytes)
converted_same call success = (conversions.converted-reads call success, λ B short. conversions.converted_prints B short call success)

-- "still read and still get the answer they had": bytes that begin with kind 1 read as by the grammar of before
pub kind_1-stays : (limit next : ℕ) (bytes rest : List ℕ) → number 0 bytes ≡ found 1 next rest → read_sheet limit bytes ≡ before.read_before limit bytes
kind_1-stays = before.kind_1-stays
