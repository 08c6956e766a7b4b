-- What the reader of result sheets answers, and what it leaves in the lists lent to it. Definitions only; assumes nothing.
use Rattle.std.specs.Prelude.{ℕ, ◌/◌, ◌≡◌, List, length, Result, Ok, Err}
use Rattle.definitions.specs.Limits.{tallies_per_span, numbers_per_pair, numbers_per_row}
use Rattle.results.specs.ResultAnswers.{ResultReading, well_formed, refused, read_verdict, at_exit}
use Rattle.refusals.specs.declared.Refusal.{Refusal}
use Rattle.refusals.specs.Refusals.{number_of}
use Rattle.result_reader.specs.declared.Plan.{Plan}
use Rattle.result_reader.specs.declared.ResultAnswer.{ResultAnswer}

abbrev pub refused_at : ℕ → ℕ → ResultAnswer
refused_at number place = record { number = number; place = place; regions = 0; labels = 0; spans = 0; pairs = 0; rows = 0 }

-- the same of a refusal by its cause
abbrev pub refused_by : Refusal → ResultAnswer
refused_by refusal = refused_at (number_of refusal.cause) refusal.place

-- "Success returns 0" (document 01); the region count and four counts of entries, or the refusal's number and place
abbrev pub answer_of : ResultReading → ResultAnswer
answer_of (well_formed r) =
    record {
      number = 0;
      place = 0;
      regions = r.regions;
      labels = length r.labels;
      spans = length r.tallies / tallies_per_span;
      pairs = length r.pairs / numbers_per_pair;
      rows = length r.rows / numbers_per_row;
    }
answer_of (refused number place) = refused_at number place

-- the same answer from where the lists stand
abbrev pub answer_in : Plan → ResultAnswer
answer_in plan =
    record {
      number = 0;
      place = 0;
      regions = plan.regions;
      labels = plan.labels.count;
      spans = plan.tallies.count;
      pairs = plan.pairs.count;
      rows = plan.rows.count;
    }

-- an answer as C is given it
abbrev pub answered : Result Plan Refusal → ResultAnswer
answered (Ok plan) = answer_in plan
answered (Err refusal) = refused_by refusal

-- The answer to a reading, and each lent list at exit: filled in its first numbers where the result was read, as it was where it is refused. Lists at entry come
-- first, those at exit after the answer.
pub record Answered (reading : ResultReading) (labels tallies pairs rows : List ℕ) (answer : ResultAnswer) (labels' tallies' pairs' rows' : List ℕ) : Type 0 where
  pub said : answer ≡ answer_of reading
  pub labels-left : labels' ≡ at_exit (λ r. r.labels) reading labels
  pub tallies-left : tallies' ≡ at_exit (λ r. r.tallies) reading tallies
  pub pairs-left : pairs' ≡ at_exit (λ r. r.pairs) reading pairs
  pub rows_left : rows' ≡ at_exit (λ r. r.rows) reading rows

abbrev pub Reads : List ℕ → List ℕ → List ℕ → List ℕ → List ℕ → ResultAnswer → List ℕ → List ℕ → List ℕ → List ℕ → Type 0
Reads bytes labels tallies pairs rows =
    Answered (read_verdict bytes (length labels) (length tallies) (length pairs) (length rows)) labels tallies pairs rows
