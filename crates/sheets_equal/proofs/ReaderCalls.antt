-- Requests 1 and 3 over calls of the reader of result sheets. What is assumed, whole: two calls met its contract (`Reads`) and answered 0, and their bytes are
-- below 256. Then their bytes are equal exactly when they left the same result.
use Rattle.std.specs.Prelude.{ℕ, ◌≡◌, refl, ◌↔◌, List}
use Rattle.std.proofs.Common.{sym, ap, ◌∙◌}
use Rattle.results.specs.Result.{Result}
use Rattle.results.specs.ResultAnswers.{ResultReading, well_formed, refused, read_result, at_exit}
use Rattle.sheets_equal.specs.NumberBytes.{Bytes}
use Rattle.sheets_equal.proofs.ResultsEqual.{results_equal}
use Rattle.sheets_equal.proofs.ResultCalls.{result_number, held_with, held_by_lem, verdict_of, call-reads}
use Rattle.result_reader.specs.Contract.{answer_of, Reads}
use Rattle.result_reader.specs.declared.ResultAnswer.{ResultAnswer}

-- what the caller then has: the region count of the answer, and of each list as much as the answer counts
abbrev pub held : ResultAnswer → List ℕ → List ℕ → List ℕ → List ℕ → Result
held a labels tallies pairs rows = held_with a.regions a.labels a.spans a.pairs a.rows labels tallies pairs rows

held_by : (reading : ResultReading) (labels tallies pairs rows : List ℕ)
    → held (answer_of reading) (at_exit (λ r. r.labels) reading labels) (at_exit (λ r. r.tallies) reading tallies) (at_exit (λ r. r.pairs) reading pairs) (at_exit (λ r. r.rows) reading rows)
    ≡ held_by_lem reading labels tallies pairs rows
held_by (well_formed r) labels tallies pairs rows = refl
held_by (refused number place) labels tallies pairs rows = refl

number_is : (reading : ResultReading) → (answer_of reading).number ≡ result_number reading
number_is (well_formed r) = refl
number_is (refused number place) = refl

-- the bytes of a call that answered 0 read as what its caller then has
pub result-read : (bytes labels tallies pairs rows : List ℕ) {answer : ResultAnswer} {labels' tallies' pairs' rows' : List ℕ}
    → Reads bytes labels tallies pairs rows answer labels' tallies' pairs' rows' → answer.number ≡ 0 → read_result bytes ≡ well_formed (held answer labels' tallies' pairs' rows')
result-read bytes labels tallies pairs rows {answer} C zero =
    call-reads bytes labels tallies pairs rows (sym (number_is (verdict_of bytes labels tallies pairs rows)) ∙ ap (λ (a : ResultAnswer). a.number) (sym C.said) ∙ zero)
    ∙ ap well_formed (sym ((λ i. held (C.said i) (C.labels-left i) (C.tallies-left i) (C.pairs-left i) (C.rows_left i)) ∙ held_by (verdict_of bytes labels tallies pairs rows) labels tallies pairs rows))

pub calls_equal : (a labels tallies pairs rows : List ℕ) {answer : ResultAnswer} {labels' tallies' pairs' rows' : List ℕ}
    (b labels₂ tallies₂ pairs₂ rows₂ : List ℕ) {answer₂ : ResultAnswer} {labels₂' tallies₂' pairs₂' rows₂' : List ℕ}
    → Reads a labels tallies pairs rows answer labels' tallies' pairs' rows' → answer.number ≡ 0
    → Reads b labels₂ tallies₂ pairs₂ rows₂ answer₂ labels₂' tallies₂' pairs₂' rows₂' → answer₂.number ≡ 0
    → Bytes a → Bytes b
    → (a ≡ b) ↔ (held answer labels' tallies' pairs' rows' ≡ held answer₂ labels₂' tallies₂' pairs₂' rows₂')
calls_equal a labels tallies pairs rows b labels₂ tallies₂ pairs₂ rows₂ C c D d A B =
    results_equal a b A B (result-read a labels tallies pairs rows C c) (result-read b labels₂ tallies₂ pairs₂ rows₂ D d)
