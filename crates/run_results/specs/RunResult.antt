-- What a pass finds of a map, as a result: it keeps the three rules of result sheets and its entries are finished, whatever the map and the pass. Quotations are of document 02,
-- request 1. Assumes nothing.
use Rattle.std.specs.Prelude.{ℕ, ◌%◌, ◌≡◌, refl, true, length, Option, None}
use Rattle.std.proofs.Common.{arith, eq-eqb}
use Rattle.definitions.specs.Limits.{tallies_per_span, numbers_per_pair, numbers_per_row}
use Rattle.definitions.specs.Grid.{Map}
use Rattle.definitions.specs.Partition.{labels, region_count}
use Rattle.definitions.specs.Context.{context_of}
use Rattle.definitions.specs.Rows.{rows_of, flat_rows}
use Rattle.definitions.specs.Refusals.{or_else}
use Rattle.definitions.specs.Verdict.{pair_rows_of}
use Rattle.definitions.specs.AtExit.{tallies_of}
use Rattle.laws.specs.RegionLaws.Tallies.{tallies-length}
use Rattle.laws.specs.ListLaws.FlatRows.{flat-length}
use Rattle.results.specs.Result.{Result, rules_fault}
use Rattle.results.specs.ResultAnswers.{placed, is_finished}
use Rattle.run_results.specs.LabelsInTurn.{labels-keep}
use Rattle.run_results.specs.PairsAscend.{pairs-whole, pairs-keep}
use Rattle.run_results.specs.RowsAscend.{rows-keep}

-- "region count, then labels, tallies, pairs and kept rows"
abbrev pub run_result : ℕ → Map → Result
run_result pass M =
    record {
      regions = region_count M;
      labels = labels M;
      tallies = tallies_of (context_of M);
      pairs = pair_rows_of (context_of M);
      rows = flat_rows (rows_of pass M);
    }

pub run-keeps_rules : (pass : ℕ) (M : Map) → rules_fault (placed (run_result pass M)) ≡ None
unfolding rules_fault placed
run-keeps_rules pass M = all_none (labels-keep M) (pairs-keep M) (rows-keep pass M)
  where
    all_none : {a b c : Option ℕ} → a ≡ None → b ≡ None → c ≡ None → or_else a (or_else b c) ≡ None
    all_none e f g = rw (e, f, g) refl

-- ---- and each list has whole entries

pub run-finished : (pass : ℕ) (M : Map) → is_finished (run_result pass M) ≡ true
run-finished pass M =
    rw (
      eq-eqb (length (tallies_of (context_of M)) % tallies_per_span) 0 (omega (arith, tallies-length (context_of M))),
      eq-eqb (length (pair_rows_of (context_of M)) % numbers_per_pair) 0 (pairs-whole (context_of M)),
      eq-eqb (length (flat_rows (rows_of pass M)) % numbers_per_row) 0 (omega (arith, flat-length (rows_of pass M))),
    )
    refl
