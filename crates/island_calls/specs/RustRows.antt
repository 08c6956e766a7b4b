-- DEMAND 2 over a call: a call that met the contract and returned 0 holds in its output the rows that the Rust's own steps return for the map that it was lent.
-- The proof: check 4 leaves passes 1, 2 and 3, and for each the steps return the definitions' rows (laws, RustPasses). Assumes nothing more.
use Rattle.std.specs.Prelude.{ℕ, zero, suc, ◌≡◌, List, [], leb, None}
use Rattle.std.proofs.Common.{arith, sym, ap, ◌∙◌, true≢false, leb-true}
use Rattle.definitions.specs.Grid.{Map}
use Rattle.definitions.specs.RegionRecord.{Region}
use Rattle.definitions.specs.Refusals.{pass_fault}
use Rattle.definitions.specs.Rows.{Row, rows_of}
use Rattle.definitions.specs.Verdict.{Lent, Answer, map_in, verdict}
use Rattle.laws.specs.ListLaws.Tests.{both}
use Rattle.laws.specs.ListLaws.NoFault.{found, no_fault_lem}
use Rattle.laws.specs.TableLaws.AcceptedCalls.{accepted}
use Rattle.laws.specs.RustPasses.RampRows.{replace_ramp_mouths_lem, collapse_ramp_interiors_lem}
use Rattle.laws.specs.RustPasses.JunctionRows.{remove_junction_boundaries_lem}
use Rattle.laws.proofs.RustPasses.Accepted.{accepted-mouths, accepted-interiors, accepted-junctions}
use Rattle.call_partition.specs.Contract.{Ran}
use Rattle.island_calls.specs.Outputs.{rows_held}
use Rattle.island_calls.specs.RowsAtExit.{rows_held_lem}

-- the Rust's own steps of a pass, by the pass's number. (Any other number is refused, number 4.)
abbrev pub rust_rows : ℕ → Map → List Row
rust_rows zero M = []
rust_rows (suc zero) M = replace_ramp_mouths_lem M
rust_rows (suc (suc zero)) M = collapse_ramp_interiors_lem M
rust_rows (suc (suc (suc zero))) M = remove_junction_boundaries_lem M
rust_rows (suc (suc (suc (suc n)))) M = []

by_pass : (L : Lent) → (verdict L).number ≡ 0 → (pass : ℕ) → pass_fault pass ≡ None → rows_of pass (map_in L) ≡ rust_rows pass (map_in L)
by_pass L h zero k = absurd (true≢false (ap found k))
by_pass L h (suc zero) k = sym (accepted-mouths L h)
by_pass L h (suc (suc zero)) k = sym (accepted-interiors L h)
by_pass L h (suc (suc (suc zero))) k = sym (accepted-junctions L h)
by_pass L h (suc (suc (suc (suc n)))) k =
    absurd (omega (arith, leb-true (suc (suc (suc (suc n)))) 3 (both (leb 1 (suc (suc (suc (suc n))))) (leb (suc (suc (suc (suc n)))) 3) (no_fault_lem _ 0 k)).1))

-- a call: lent, answer, and at exit labels, masks, queue, tallies, pairs, records and output
pub call_rows : {L : Lent} {a : Answer} {l m q t p : List ℕ} {s : List Region} {o : List ℕ} → Ran L a l m q t p s o → a.number ≡ 0 → rows_held a o ≡ rust_rows L.pass (map_in L)
call_rows {L} ran success =
    let accepts : (verdict L).number ≡ 0 = ap (λ b. b.number) (sym ran.answer) ∙ success in
    rows_held_lem ran success ∙ by_pass L accepts L.pass (accepted L accepts).pass
