-- From what was judged to what is answered: the three ways in which a reading ends. Assumes nothing.
use Prim.Native.Nat.{ℕ, ◌*◌, ◌/◌}
use native.Mathlib.Omega.{arith}
use mathlib.Core.Path.{◌≡◌, refl, ap, ◌∙◌}
use mathlib.Core.Bool.{true, false, ◌&&◌, cond}
use mathlib.Core.List.{List}
use lib.ListN.{length}
use lib.Dec.{leb}
use Rattle.definitions.specs.Limits.{tallies_per_span, numbers_per_pair, numbers_per_row}
use Rattle.definitions.specs.Lists.{overwrite}
use Rattle.definitions.specs.Refusals.{or_else}
use Rattle.sheet.proofs.Filling.{held-length}
use Rattle.results.specs.ResultAnswers.{well_formed, refused, read_result, room_for, read_verdict}
use Rattle.result_reader.specs.Parts.{part_numbers, result_in, ResultHeld, room_in}
use Rattle.result_reader.specs.Contract.{refused_at, refused_by, answer_of, answer_in, Answered}
use Rattle.std.specs.Prelude.{Option, None, Some}
use Rattle.std.specs.Option.{option_or}
use Rattle.refusals.specs.declared.Refusal.{Refusal}
use Rattle.refusals.specs.Refusals.{number_of, refusal_of}
use Rattle.result_reader.specs.declared.Plan.{Plan}
use Rattle.result_reader.specs.declared.ResultAnswer.{ResultAnswer}

-- ---- the first of two breaches

pub first_of : (a b : Option ℕ) → option_or a b ≡ or_else a b
first_of None b = refl
first_of (Some place) b = refl

-- ---- a result that was found

module _ {bytes : List ℕ} {plan : Plan} (R : ResultHeld bytes plan) where
  labels_long_lem : length (part_numbers 1 bytes plan.labels) ≡ plan.labels.count * 1
  labels_long_lem = held-length R.held.for_labels.held

  tallies_long_lem : length (part_numbers tallies_per_span bytes plan.tallies) ≡ plan.tallies.count * tallies_per_span
  tallies_long_lem = held-length R.held.for_tallies.held

  pairs_long_lem : length (part_numbers numbers_per_pair bytes plan.pairs) ≡ plan.pairs.count * numbers_per_pair
  pairs_long_lem = held-length R.held.for_pairs.held

  rows_long : length (part_numbers numbers_per_row bytes plan.rows) ≡ plan.rows.count * numbers_per_row
  rows_long = held-length R.held.for_rows.held

  answer_same : answer_in plan ≡ answer_of (well_formed (result_in bytes plan))
  answer_same =
      let a : plan.labels.count ≡ length (part_numbers 1 bytes plan.labels) = omega (arith, labels_long_lem) in
      let b : plan.tallies.count ≡ length (part_numbers tallies_per_span bytes plan.tallies) / tallies_per_span = omega (arith, tallies_long_lem) in
      let c : plan.pairs.count ≡ length (part_numbers numbers_per_pair bytes plan.pairs) / numbers_per_pair = omega (arith, pairs_long_lem) in
      let d : plan.rows.count ≡ length (part_numbers numbers_per_row bytes plan.rows) / numbers_per_row = omega (arith, rows_long) in
      λ i. record { number = 0; place = 0; regions = plan.regions; labels = a i; spans = b i; pairs = c i; rows = d i }

  module _ (labels tallies pairs rows : List ℕ) where
    by_room : read_verdict bytes (length labels) (length tallies) (length pairs) (length rows)
        ≡ cond (room_in plan (length labels) (length tallies) (length pairs) (length rows)) (well_formed (result_in bytes plan)) (refused 10 0)
    unfolding read_verdict
    by_room =
        ap (λ r. room_for r (length labels) (length tallies) (length pairs) (length rows)) R.same
        ∙ (λ i. cond (leb (labels_long_lem i) (length labels) && leb (tallies_long_lem i) (length tallies) && leb (pairs_long_lem i) (length pairs) && leb (rows_long i) (length rows))
        (well_formed (result_in bytes plan)) (refused 10 0))

    pub answered-short : (refusal : Refusal) → room_in plan (length labels) (length tallies) (length pairs) (length rows) ≡ false
        → refusal_of refusal ≡ record { number = 10; place = 0 }
        → Answered (read_verdict bytes (length labels) (length tallies) (length pairs) (length rows)) labels tallies pairs rows (refused_by refusal) labels tallies pairs rows
    answered-short refusal h e =
        let v : read_verdict bytes (length labels) (length tallies) (length pairs) (length rows) ≡ refused 10 0 = by_room ∙ ap (λ t. cond t (well_formed (result_in bytes plan)) (refused 10 0)) h in
        rw v (record { said = ap (λ x. refused_at x.number x.place) e; labels-left = refl; tallies-left = refl; pairs-left = refl; rows_left = refl })

    pub answered-read : {answer : ResultAnswer} {labels' tallies' pairs' rows' : List ℕ} → room_in plan (length labels) (length tallies) (length pairs) (length rows) ≡ true
        → answer ≡ answer_in plan → labels' ≡ overwrite (part_numbers 1 bytes plan.labels) labels → tallies' ≡ overwrite (part_numbers tallies_per_span bytes plan.tallies) tallies
        → pairs' ≡ overwrite (part_numbers numbers_per_pair bytes plan.pairs) pairs → rows' ≡ overwrite (part_numbers numbers_per_row bytes plan.rows) rows
        → Answered (read_verdict bytes (length labels) (length tallies) (length pairs) (length rows)) labels tallies pairs rows answer labels' tallies' pairs' rows'
    answered-read h e a b c d =
        let v : read_verdict bytes (length labels) (length tallies) (length pairs) (length rows) ≡ well_formed (result_in bytes plan) = by_room ∙ ap (λ t. cond t (well_formed (result_in bytes plan)) (refused 10 0)) h in
        rw v (record { said = e ∙ answer_same; labels-left = a; tallies-left = b; pairs-left = c; rows_left = d })

-- ---- a sheet that is refused

pub answered-refused : (bytes : List ℕ) (refusal : Refusal) {answer : ResultAnswer} (labels tallies pairs rows : List ℕ) → read_result bytes ≡ refused (number_of refusal.cause) refusal.place
    → answer ≡ refused_by refusal → Answered (read_verdict bytes (length labels) (length tallies) (length pairs) (length rows)) labels tallies pairs rows answer labels tallies pairs rows
unfolding read_verdict
answered-refused bytes refusal labels tallies pairs rows h e =
    let v = ap (λ r. room_for r (length labels) (length tallies) (length pairs) (length rows)) h in
    rw v (record { said = e; labels-left = refl; tallies-left = refl; pairs-left = refl; rows_left = refl })
