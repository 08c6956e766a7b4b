-- What a call that runs a pass left can always be stored. What is assumed, whole: the call met its contract (`Ran`, which every call meets for every input) and answered 0.
-- Then what it left, over the cells, the spans, the pairs found and the rows kept, is the run's result, so that it keeps the rules; and a call of the writer that
-- is lent it whole answers with its bytes, or 10 where they do not fit, and nothing else.
use Rattle.std.specs.Prelude.{ℕ, ◌*◌, ◌≡◌, refl, Bool, true, List, [], ◌∷◌, leb, length, drop, Option, None}
use Rattle.std.proofs.Common.{◌∙◌}
use Rattle.std.proofs.Math.Path.{sym, ap}
use Rattle.std.proofs.Math.ListN.{take}
use Rattle.std.proofs.Math.Seq.{take-append_seam}
use Rattle.definitions.specs.Limits.{tallies_per_span, numbers_per_row}
use Rattle.definitions.specs.Lists.{overwrite}
use Rattle.definitions.specs.Grid.{cell_count, span_count}
use Rattle.definitions.specs.Partition.{region_count}
use Rattle.definitions.specs.Context.{context_of}
use Rattle.definitions.specs.Refusals.{unless}
use Rattle.definitions.specs.Verdict.{Lent, Answer, map_in, refusal, first_refusal, pair_rows_of}
use Rattle.results.specs.Result.{Result, rules_fault}
use Rattle.results.specs.ResultAnswers.{result_bytes, placed, is_finished, write_verdict}
use Rattle.run_results.specs.Held.{greatest, pairs_held}

-- the rows that an output holds: of five numbers each, as many as the answer counts
abbrev pub rows_left_lem : Answer → List ℕ → List ℕ
rows_left_lem a o = take (numbers_per_row * a.value) o

-- What was lent, the answer, and at exit labels l, tallies t, pairs p and output o: of each list what the call has filled.
abbrev pub result_left : Lent → Answer → (l t p o : List ℕ) → Result
result_left L a l t p o =
    record {
      regions = region_count (map_in L);
      labels = take (cell_count (map_in L)) l;
      tallies = take (tallies_per_span * span_count (map_in L)) t;
      pairs = take (length (pair_rows_of (context_of (map_in L)))) p;
      rows = rows_left_lem a o;
    }

-- The same as a caller finds it: a call answers with the number of rows kept, and neither with that of regions nor with that of pairs.
abbrev pub result_held : Lent → Answer → (l t p o : List ℕ) → Result
result_held L a l t p o =
    record {
      regions = greatest (take (cell_count (map_in L)) l);
      labels = take (cell_count (map_in L)) l;
      tallies = take (tallies_per_span * span_count (map_in L)) t;
      pairs = pairs_held p;
      rows = rows_left_lem a o;
    }

-- the front of a list that was written over
pub front : (n : ℕ) (new old l : List ℕ) → length new ≡ n → l ≡ overwrite new old → take n l ≡ new
front n new old l h e = ap (λ k. take k l) (sym h) ∙ ap (take (length new)) e ∙ take-append_seam new (drop (length new) old)

-- a result that keeps the rules is refused for want of room alone
pub room-alone : (r : Result) (room : ℕ) → rules_fault (placed r) ≡ None → is_finished r ≡ true
    → write_verdict r room ≡ first_refusal (refusal 10 (unless (leb (length (result_bytes r)) room)) ∷ []) (length (result_bytes r))
unfolding write_verdict
room-alone r room e f = go (rules_fault (placed r)) e (is_finished r) f
  where
    go : (o : Option ℕ) → o ≡ None → (t : Bool) → t ≡ true
        → first_refusal (refusal 15 o ∷ refusal 3 (unless t) ∷ refusal 10 (unless (leb (length (result_bytes r)) room)) ∷ []) (length (result_bytes r))
        ≡ first_refusal (refusal 10 (unless (leb (length (result_bytes r)) room)) ∷ []) (length (result_bytes r))
    go o e t f = rw (e, f) refl
