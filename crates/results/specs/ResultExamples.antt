-- Computed examples of result sheets: a small result, each rule with its place, the order of 14, 15 and 10, counts that no bytes can meet, and the writer.
-- Assumes nothing.
use Rattle.std.specs.Prelude.{ℕ, ◌^◌, ◌-◌, ◌≡◌, refl, List, [], ◌∷◌, ◌++◌, map, length, take}
use Rattle.definitions.specs.Scan.{run}
use Rattle.definitions.specs.SheetExamples.{Example, ◌gives◌}
use Rattle.definitions.specs.Verdict.{Answer}
use Rattle.results.specs.Shortest.{shortest}
use Rattle.results.specs.Result.{Result}
use Rattle.results.specs.ResultAnswers.{ResultReading, well_formed, refused, read_result, read_verdict, result_bytes, write_verdict}

abbrev pub small : Result
small =
    record {
      regions = 2;
      labels = 1 ∷ 1 ∷ 0 ∷ 2 ∷ 1 ∷ [];
      tallies = 3 ∷ 2 ∷ 1 ∷ 0 ∷ [];
      pairs = 0 ∷ 1 ∷ 2 ∷ 1 ∷ 1 ∷ 2 ∷ [];
      rows = 1 ∷ 8 ∷ 8 ∷ 8 ∷ 16 ∷ 0 ∷ 300 ∷ 8 ∷ 16 ∷ 16 ∷ [];
    }

abbrev pub small_bytes : List ℕ
small_bytes =
    2 ∷ 2
    ∷ 5 ∷ 1 ∷ 1 ∷ 0 ∷ 2 ∷ 1
    ∷ 2 ∷ 3 ∷ 2 ∷ 1 ∷ 0
    ∷ 2 ∷ 0 ∷ 1 ∷ 2 ∷ 1 ∷ 1 ∷ 2
    ∷ 2 ∷ 1 ∷ 8 ∷ 8 ∷ 8 ∷ 16 ∷ 0 ∷ 172 ∷ 2 ∷ 8 ∷ 16 ∷ 16 ∷ []

-- labels alone, pairs alone, rows alone
abbrev pub labelled : ℕ → List ℕ → Result
labelled regions labels = record { regions = regions; labels = labels; tallies = []; pairs = []; rows = [] }

abbrev pub paired : List ℕ → Result
paired pairs = record { regions = 0; labels = []; tallies = []; pairs = pairs; rows = [] }

abbrev pub listed : List ℕ → Result
listed rows = record { regions = 0; labels = []; tallies = []; pairs = []; rows = rows }

unfoldable pub again : Result → ResultReading
unfolding read_result result_bytes
again r = read_result (result_bytes r)

unfoldable pub read_examples : List (Example ResultReading)
unfolding read_result again read_verdict result_bytes shortest
read_examples =
    read_result small_bytes gives well_formed small
    ∷ again small gives well_formed small
    ∷ again (labelled 0 []) gives well_formed (labelled 0 [])
    -- labels in turn, out of turn, above the region count, and short of it: the region count stands at 1, the labels from 3 on
    ∷ again (labelled 3 (0 ∷ 1 ∷ 2 ∷ 1 ∷ 3 ∷ [])) gives well_formed (labelled 3 (0 ∷ 1 ∷ 2 ∷ 1 ∷ 3 ∷ []))
    ∷ again (labelled 3 (1 ∷ 3 ∷ 2 ∷ [])) gives refused 15 4
    ∷ again (labelled 1 (1 ∷ 2 ∷ [])) gives refused 15 4
    ∷ again (labelled 3 (1 ∷ 2 ∷ [])) gives refused 15 1
    ∷ again (labelled (2 ^ 64 - 1) (1 ∷ 2 ∷ [])) gives refused 15 1
    -- the place is that of a byte: the region count 300 has two
    ∷ again (labelled 300 (1 ∷ 3 ∷ [])) gives refused 15 5
    -- pairs: equal ones, descending ones; smaller and larger are not compared with each other
    ∷ again (paired (0 ∷ 2 ∷ 1 ∷ 0 ∷ 2 ∷ 2 ∷ [])) gives well_formed (paired (0 ∷ 2 ∷ 1 ∷ 0 ∷ 2 ∷ 2 ∷ []))
    ∷ again (paired (0 ∷ 1 ∷ 2 ∷ 0 ∷ 1 ∷ 2 ∷ [])) gives refused 15 8
    ∷ again (paired (0 ∷ 1 ∷ 2 ∷ 1 ∷ 1 ∷ 2 ∷ 1 ∷ 1 ∷ 1 ∷ [])) gives refused 15 11
    -- rows: by endpoints before number, as written
    ∷ again (listed (9 ∷ 1 ∷ 0 ∷ 0 ∷ 0 ∷ 2 ∷ 1 ∷ 0 ∷ 0 ∷ 1 ∷ [])) gives well_formed (listed (9 ∷ 1 ∷ 0 ∷ 0 ∷ 0 ∷ 2 ∷ 1 ∷ 0 ∷ 0 ∷ 1 ∷ []))
    ∷ again (listed (1 ∷ 2 ∷ 0 ∷ 0 ∷ 0 ∷ 2 ∷ 1 ∷ 0 ∷ 0 ∷ 0 ∷ [])) gives refused 15 11
    ∷ again (listed (2 ∷ 1 ∷ 0 ∷ 0 ∷ 0 ∷ 1 ∷ 1 ∷ 0 ∷ 0 ∷ 0 ∷ [])) gives refused 15 11
    -- 14 anywhere comes before 15, and 15 before 10
    ∷ read_result (result_bytes (labelled 3 (1 ∷ 2 ∷ [])) ++ (0 ∷ [])) gives refused 14 8
    ∷ read_verdict (result_bytes (labelled 3 (1 ∷ 2 ∷ []))) 0 0 0 0 gives refused 15 1
    ∷ read_verdict small_bytes 5 4 6 9 gives refused 10 0
    ∷ read_verdict small_bytes 5 4 6 10 gives well_formed small
    -- kinds
    ∷ read_result (1 ∷ 0 ∷ 0 ∷ 0 ∷ 0 ∷ 0 ∷ []) gives refused 14 0
    -- request 3: a padded number is refused "for both kinds"; a kind, a region count, a count of pairs and a label, at its first byte, before 15
    ∷ read_result (130 ∷ 0 ∷ 0 ∷ 0 ∷ 0 ∷ 0 ∷ 0 ∷ []) gives refused 14 0
    ∷ read_result (2 ∷ 128 ∷ 0 ∷ 0 ∷ 0 ∷ 0 ∷ 0 ∷ []) gives refused 14 1
    ∷ read_result (2 ∷ 0 ∷ 0 ∷ 0 ∷ 128 ∷ 128 ∷ 0 ∷ 0 ∷ []) gives refused 14 4
    ∷ read_result (2 ∷ 2 ∷ 2 ∷ 2 ∷ 129 ∷ 0 ∷ 0 ∷ 0 ∷ 0 ∷ []) gives refused 14 4
    -- a count that no bytes can meet: 2 ^ 63 spans are 2 ^ 64 tallies
    ∷ read_result (2 ∷ 0 ∷ 0 ∷ shortest (2 ^ 63) ++ (0 ∷ 0 ∷ [])) gives refused 14 15
    ∷ []

pub read_examples_lem : map (λ e. e.computed) read_examples ≡ map (λ e. e.expected) read_examples
unfolding read_examples
read_examples_lem = refl

pub written : result_bytes small ≡ small_bytes
unfolding result_bytes
written = refl

-- each beginning of the small sheet ends early, at its length
pub early-ends : map (λ n. read_result (take n small_bytes)) (run 0 (length small_bytes)) ≡ map (λ n. refused 14 n) (run 0 (length small_bytes))
unfolding read_result run
early-ends = refl

abbrev pub answer : ℕ → ℕ → Answer
answer number value = record { number = number; value = value }

unfoldable pub write_examples : List (Example Answer)
unfolding write_verdict
write_examples =
    write_verdict small 32 gives answer 0 32
    ∷ write_verdict small 31 gives answer 10 0
    ∷ write_verdict (labelled 3 (1 ∷ 2 ∷ [])) 0 gives answer 15 0
    ∷ write_verdict (paired (1 ∷ 1 ∷ 2 ∷ 0 ∷ [])) 0 gives answer 3 0
    ∷ []

pub write_examples_lem : map (λ e. e.computed) write_examples ≡ map (λ e. e.expected) write_examples
unfolding write_examples
write_examples_lem = refl
