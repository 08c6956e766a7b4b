-- "A result that was written reads as itself" (document 02, request 1), over two calls. What is assumed, whole: a call of the writer met its contract (`Writes`)
-- and answered 0, a call of the reader that was given the bytes that it wrote met its own (`Reads`), the lists lent to the reader are long enough, and what
-- the writer was given are lists of 64-bit numbers in memory (`InMemory`). Then the reader answers 0, and its lists hold the result, entry by entry.
use Rattle.std.specs.Prelude.{ℕ, ◌/◌, ◌≤◌, ◌≡◌, refl, List, length, take, drop}
use Rattle.std.proofs.Common.{ap, subst, ◌∙◌, le-leb}
use Rattle.std.proofs.Math.Seq.{take-append_seam}
use Rattle.definitions.specs.Limits.{tallies_per_span, numbers_per_pair, numbers_per_row}
use Rattle.definitions.specs.Lists.{overwrite}
use Rattle.definitions.specs.Verdict as verdict
use Rattle.results.specs.Result.{Result}
use Rattle.results.specs.ResultAnswers.{well_formed, read_verdict, room_for, Writes}
use Rattle.results.proofs.Calls.{InMemory, written-call}
use Rattle.result_reader.specs.Contract.{Answered, Reads}
use Rattle.result_reader.specs.declared.ResultAnswer.{ResultAnswer}

-- lent lists that are long enough
pub record Enough (r : Result) (labels tallies pairs rows : List ℕ) : Type 0 where
  pub for_labels : length r.labels ≤ length labels
  pub for_tallies : length r.tallies ≤ length tallies
  pub for_pairs : length r.pairs ≤ length pairs
  pub for_rows : length r.rows ≤ length rows

-- the answer, and the lists at exit, hold this result
pub record Holds (r : Result) (answer : ResultAnswer) (labels tallies pairs rows : List ℕ) : Type 0 where
  pub number : answer.number ≡ 0
  pub regions : answer.regions ≡ r.regions
  pub label-count : answer.labels ≡ length r.labels
  pub span_count_lem : answer.spans ≡ length r.tallies / tallies_per_span
  pub pair_count_lem : answer.pairs ≡ length r.pairs / numbers_per_pair
  pub row_count : answer.rows ≡ length r.rows / numbers_per_row
  pub for_labels : take (length r.labels) labels ≡ r.labels
  pub for_tallies : take (length r.tallies) tallies ≡ r.tallies
  pub for_pairs : take (length r.pairs) pairs ≡ r.pairs
  pub for_rows : take (length r.rows) rows ≡ r.rows

filled : (part lent : List ℕ) {lent' : List ℕ} → lent' ≡ overwrite part lent → take (length part) lent' ≡ part
filled part lent e = ap (take (length part)) e ∙ take-append_seam part (drop (length part) lent)

roomy : (r : Result) (labels tallies pairs rows : List ℕ) → Enough r labels tallies pairs rows
    → room_for (well_formed r) (length labels) (length tallies) (length pairs) (length rows) ≡ well_formed r
roomy r labels tallies pairs rows E =
    rw (
      le-leb (length r.labels) (length labels) E.for_labels,
      le-leb (length r.tallies) (length tallies) E.for_tallies,
      le-leb (length r.pairs) (length pairs) E.for_pairs,
      le-leb (length r.rows) (length rows) E.for_rows,
    ) refl

pub written-reads-back : {r : Result} {lent lent' : List ℕ} {written : verdict.Answer} {labels tallies pairs rows labels' tallies' pairs' rows' : List ℕ} {answer : ResultAnswer}
    → InMemory r → Writes r lent written lent' → written.number ≡ 0 → Enough r labels tallies pairs rows
    → Reads (take written.value lent') labels tallies pairs rows answer labels' tallies' pairs' rows' → Holds r answer labels' tallies' pairs' rows'
unfolding read_verdict
written-reads-back {r} {labels = labels} {tallies = tallies} {pairs = pairs} {rows = rows} {labels' = labels'} {tallies' = tallies'} {pairs' = pairs'} {rows' = rows'} {answer = answer} m W h E R =
    let v = ap (λ x. room_for x (length labels) (length tallies) (length pairs) (length rows)) (written-call m W h) ∙ roomy r labels tallies pairs rows E in
    let A : Answered (well_formed r) labels tallies pairs rows answer labels' tallies' pairs' rows' = subst (λ x. Answered x labels tallies pairs rows answer labels' tallies' pairs' rows') v R in
    record {
      number = ap (λ a. a.number) A.said;
      regions = ap (λ a. a.regions) A.said;
      label-count = ap (λ a. a.labels) A.said;
      span_count_lem = ap (λ a. a.spans) A.said;
      pair_count_lem = ap (λ a. a.pairs) A.said;
      row_count = ap (λ a. a.rows) A.said;
      for_labels = filled r.labels labels A.labels-left;
      for_tallies = filled r.tallies tallies A.tallies-left;
      for_pairs = filled r.pairs pairs A.pairs-left;
      for_rows = filled r.rows rows A.rows_left;
    }
