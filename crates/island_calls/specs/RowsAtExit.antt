-- What an output holds after a call that met the contract and returned 0: it holds the definitions' rows (`rows_held_lem`), and a boundary of the list has a row
-- exactly when the pass keeps it (`row_kept`). The argument: with no refusal the answer counts these rows, and they stand at the output's front. Assumes nothing.
use Rattle.std.specs.Prelude.{ℕ, ◌<◌, ◌≡◌, Bool, not, ◌&&◌, List, ◌++◌, length, drop, eqb}
use Rattle.std.proofs.Common.{sym, ap, ◌∙◌, lt-ltb}
use Rattle.definitions.specs.Scan.{member}
use Rattle.definitions.specs.Sort.{list_lt}
use Rattle.definitions.specs.Grid.{Map, canonical, boundary_of}
use Rattle.definitions.specs.RegionRecord.{Region}
use Rattle.definitions.specs.Rows.{Row, removed_of, is_kept, row_key, rows_from, rows_of, flat_rows}
use Rattle.definitions.specs.Verdict.{Lent, Answer, map_in}
use Rattle.definitions.specs.AtExit.{call_exit, exit_with, stage_of}
use Rattle.laws.specs.ListLaws.FlatRows.{rows_of-flat}
use Rattle.laws.specs.ListLaws.Scans.{picked, any-picked}
use Rattle.laws.specs.ListLaws.SortedMembers.{any-sort}
use Rattle.laws.specs.SetLaws.Sets.{numbers_below, member_below}
use Rattle.laws.specs.TableLaws.AcceptedCalls.{accepted-count}
use Rattle.call_partition.specs.Contract.{Ran}
use Rattle.island_calls.specs.Outputs.{rows_held, has_row}

pub rows_held_lem : {L : Lent} {a : Answer} {l m q t p : List ℕ} {s : List Region} {o : List ℕ} → Ran L a l m q t p s o → a.number ≡ 0 → rows_held a o ≡ rows_of L.pass (map_in L)
unfolding call_exit exit_with stage_of
rows_held_lem {L} {a} {o = o} R h =
    let rows = rows_of L.pass (map_in L) in
    let answer = R.answer in
    let count : a.value ≡ length rows = ap (λ b. b.value) answer ∙ accepted-count L (ap (λ b. b.number) (sym answer) ∙ h) in
    let front : o ≡ flat_rows rows ++ drop (length (flat_rows rows)) L.output = R.output ∙ ap (λ n. (call_exit L n).output) h in
    rw (count, front) (rows_of-flat rows (drop (length (flat_rows rows)) L.output))

pub row_kept : (pass : ℕ) (M : Map) (i : ℕ) → i < length M.boundaries → has_row i (rows_of pass M) ≡ is_kept pass M i
unfolding rows_of rows_from is_kept numbers_below member
row_kept pass M i h =
    any-sort (λ r s. list_lt (row_key r) (row_key s)) (λ r. eqb i r.number) (picked kept row n)
    ∙ any-picked kept row (λ r. eqb i r.number) n
    ∙ sym (any-picked kept (λ j. j) (eqb i) n)
    ∙ member_below kept i n
    ∙ ap (λ b. b && kept i) (lt-ltb i n h)
  where
    n : ℕ
    n = length M.boundaries

    kept : ℕ → Bool
    kept j = not (member j (removed_of pass M))

    row : ℕ → Row
    row j = record { number = j; line = canonical (boundary_of M j).endpoints }
