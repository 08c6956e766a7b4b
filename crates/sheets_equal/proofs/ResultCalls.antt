-- Requests 1 and 3 over calls that read result sheets. What is assumed, whole: two such calls answer as `read_verdict` has it and fill their lists as `at_exit` has
-- it, their answers are 0, and their bytes are below 256. Then the bytes are equal exactly when the callers have the same result.
use Rattle.std.specs.Prelude.{ℕ, ◌*◌, ◌/◌, ◌<◌, ◌↔◌, Bool, true, false, ◌&&◌, cond, List, leb, length, take, Option, None, Some}
use Rattle.std.proofs.Common.{arith, sym, ◌∙◌}
use Rattle.std.proofs.Math.Path.{◌≡◌, refl, ap, subst}
use Rattle.definitions.specs.Limits.{tallies_per_span, numbers_per_pair, numbers_per_row}
use Rattle.definitions.specs.SheetNumber.{Read, found, failed}
use Rattle.definitions.specs.Sheet.{end}
use Rattle.laws.specs.SheetReading.SheetSizes.{Gives, gives_any, gives_value, gives_then}
use Rattle.results.specs.Result.{Result, Placed, result_of, kind, entry, entries, result, rules_fault}
use Rattle.results.specs.ResultAnswers.{ResultReading, well_formed, refused, judged_by, reading, read_result, room_for, read_verdict, at_exit}
use Rattle.sheets_equal.specs.NumberBytes.{Bytes}
use Rattle.sheets_equal.specs.Refusing.{refuses-result}
use Rattle.sheets_equal.proofs.SheetCalls.{filled}
use Rattle.sheets_equal.proofs.ResultsEqual.{gives_list, results_equal}

-- document 01: "Success returns 0"
abbrev pub result_number : ResultReading → ℕ
result_number (well_formed r) = 0
result_number (refused number place) = number

-- what a caller has after an answer with this region count and these counts of entries, and lists at exit
abbrev pub held_with : ℕ → ℕ → ℕ → ℕ → ℕ → List ℕ → List ℕ → List ℕ → List ℕ → Result
held_with regions labelCount spans pair_count row_count_lem labels tallies pairs rows =
    record {
      regions = regions;
      labels = take labelCount labels;
      tallies = take (spans * tallies_per_span) tallies;
      pairs = take (pair_count * numbers_per_pair) pairs;
      rows = take (row_count_lem * numbers_per_row) rows;
    }

-- The same from what the bytes read as and the lists at entry: counts of entries as request 1 has them, lists as `at_exit` leaves them. A refusal gives nothing.
abbrev pub held_by_lem : ResultReading → List ℕ → List ℕ → List ℕ → List ℕ → Result
held_by_lem (well_formed r) labels tallies pairs rows =
    held_with r.regions (length r.labels) (length r.tallies / tallies_per_span) (length r.pairs / numbers_per_pair) (length r.rows / numbers_per_row)
    (at_exit (λ r. r.labels) (well_formed r) labels) (at_exit (λ r. r.tallies) (well_formed r) tallies) (at_exit (λ r. r.pairs) (well_formed r) pairs)
    (at_exit (λ r. r.rows) (well_formed r) rows)
held_by_lem (refused number place) labels tallies pairs rows = held_with 0 0 0 0 0 labels tallies pairs rows

-- ---- the lists of a result that was read have whole entries

record Whole (r : Result) : Type 0 where
  pub tallies : length r.tallies / tallies_per_span * tallies_per_span ≡ length r.tallies
  pub pairs : length r.pairs / numbers_per_pair * numbers_per_pair ≡ length r.pairs
  pub rows : length r.rows / numbers_per_row * numbers_per_row ≡ length r.rows

gives_result : Gives result (λ p. Whole (result_of p))
unfolding result
gives_result =
    gives_then kind _ _ _ (gives_any kind) (λ _ _.
    gives_then (entry 1) _ _ _ (gives_any (entry 1)) (λ count _.
    gives_then (entries 1) _ _ _ (gives_any (entries 1)) (λ labels _.
    gives_then (entries tallies_per_span) _ _ _ (gives_list tallies_per_span) (λ tallies t.
    gives_then (entries numbers_per_pair) _ _ _ (gives_list numbers_per_pair) (λ pairs p.
    gives_then (entries numbers_per_row) _ _ _ (gives_list numbers_per_row) (λ rows w.
    gives_then end _ _ _ (gives_any end) (λ _ _.
    gives_value (λ p. Whole (result_of p)) _ (record { tallies = omega (arith, t.1); pairs = omega (arith, p.1); rows = omega (arith, w.1) }))))))))

-- ---- what is read and what is not

module _ (bytes : List ℕ) where
  judged-kept : (fault : Option ℕ) (t : Result) {r : Result} → judged_by fault t ≡ well_formed r → t ≡ r
  judged-kept None t q = cc
  judged-kept (Some place) t q = absurd (let z : ◌≡◌ {A = ℕ} 0 1 = cc in omega arith)

  whole : {r : Result} → read_result bytes ≡ well_formed r → Whole r
  unfolding read_result reading
  whole {r} h = go (result 0 bytes) refl h
    where
      go : (read : Read Placed) → result 0 bytes ≡ read → reading read ≡ well_formed r → Whole r
      go (found p next rest) e q = subst Whole (judged-kept (rules_fault p) (result_of p) q) (gives_result.holds 0 bytes e)
      go (failed number place) e q = absurd (let z : ◌≡◌ {A = ℕ} 0 1 = cc in omega arith)

  judged-above : (fault : Option ℕ) (t : Result) {number place : ℕ} → judged_by fault t ≡ refused number place → 0 < number
  judged-above None t q = absurd (let z : ◌≡◌ {A = ℕ} 0 1 = cc in omega arith)
  judged-above (Some at) t {number} q =
      let same : 15 ≡ number = cc in
      omega arith

  refused-above : {number place : ℕ} → read_result bytes ≡ refused number place → 0 < number
  unfolding read_result reading
  refused-above {number} {place} h = go (result 0 bytes) refl h
    where
      go : (read : Read Placed) → result 0 bytes ≡ read → reading read ≡ refused number place → 0 < number
      go (found p next rest) e q = judged-above (rules_fault p) (result_of p) q
      go (failed n at) e q =
          let same : n ≡ number = cc in
          omega (arith, refuses-result.above 0 bytes e)

-- ---- one call

held_is : {r : Result} → Whole r → (labels tallies pairs rows : List ℕ) → held_by_lem (well_formed r) labels tallies pairs rows ≡ r
held_is {r} W labels tallies pairs rows =
    let a = filled r.labels labels (length r.labels) refl in
    let b = filled r.tallies tallies (length r.tallies / tallies_per_span * tallies_per_span) W.tallies in
    let c = filled r.pairs pairs (length r.pairs / numbers_per_pair * numbers_per_pair) W.pairs in
    let d = filled r.rows rows (length r.rows / numbers_per_row * numbers_per_row) W.rows in
    λ i. record { regions = r.regions; labels = a i; tallies = b i; pairs = c i; rows = d i }

module _ (bytes labels tallies pairs rows : List ℕ) where
  abbrev pub verdict_of : ResultReading
  verdict_of = read_verdict bytes (length labels) (length tallies) (length pairs) (length rows)

  -- the bytes of a call that answered 0 read as what its caller then has
  pub call-reads : result_number verdict_of ≡ 0 → read_result bytes ≡ well_formed (held_by_lem verdict_of labels tallies pairs rows)
  unfolding read_verdict
  call-reads zero = go (read_result bytes) refl
    where
      left : {r : Result} → verdict_of ≡ well_formed r → read_result bytes ≡ well_formed r → read_result bytes ≡ well_formed (held_by_lem verdict_of labels tallies pairs rows)
      left {r} v e = e ∙ ap well_formed (sym (ap (λ reading. held_by_lem reading labels tallies pairs rows) v ∙ held_is (whole bytes e) labels tallies pairs rows))

      go : (read : ResultReading) → read_result bytes ≡ read → read_result bytes ≡ well_formed (held_by_lem verdict_of labels tallies pairs rows)
      go (refused number place) e =
          let v : verdict_of ≡ refused number place = ap (λ r. room_for r (length labels) (length tallies) (length pairs) (length rows)) e in
          let n : number ≡ 0 = sym (ap result_number v) ∙ zero in
          absurd (omega (arith, refused-above bytes e))
      go (well_formed r) e = pick _ refl
        where
          fits : Bool
          fits = leb (length r.labels) (length labels) && leb (length r.tallies) (length tallies) && leb (length r.pairs) (length pairs) && leb (length r.rows) (length rows)

          roomed : (t : Bool) → fits ≡ t → verdict_of ≡ cond t (well_formed r) (refused 10 0)
          roomed t f = ap (λ r. room_for r (length labels) (length tallies) (length pairs) (length rows)) e ∙ ap (λ t. cond t (well_formed r) (refused 10 0)) f

          pick : (t : Bool) → fits ≡ t → read_result bytes ≡ well_formed (held_by_lem verdict_of labels tallies pairs rows)
          pick true f = left (roomed true f) e
          pick false f = absurd (let n : result_number (refused 10 0) ≡ 0 = sym (ap result_number (roomed false f)) ∙ zero in omega arith)

-- ---- two calls

pub calls_equal : (a labels tallies pairs rows b labels₂ tallies₂ pairs₂ rows₂ : List ℕ) → result_number (verdict_of a labels tallies pairs rows) ≡ 0
    → result_number (verdict_of b labels₂ tallies₂ pairs₂ rows₂) ≡ 0 → Bytes a → Bytes b
    → (a ≡ b) ↔ (held_by_lem (verdict_of a labels tallies pairs rows) labels tallies pairs rows ≡ held_by_lem (verdict_of b labels₂ tallies₂ pairs₂ rows₂) labels₂ tallies₂ pairs₂ rows₂)
calls_equal a labels tallies pairs rows b labels₂ tallies₂ pairs₂ rows₂ g h A B =
    results_equal a b A B (call-reads a labels tallies pairs rows g) (call-reads b labels₂ tallies₂ pairs₂ rows₂ h)
