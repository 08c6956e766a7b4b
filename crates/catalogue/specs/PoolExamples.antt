-- Computed examples of pool terms: days and their numbers, each refusal with its place, the order of the checks, the record that is shown. Assumes nothing.
use Rattle.std.specs.Prelude.{ℕ, ◌≡◌, refl, List, [], ◌∷◌, ◌++◌, map, Option, None, Some}
use Rattle.definitions.specs.SheetExamples.{Example, ◌gives◌}
use Rattle.definitions.specs.Verdict.{Answer}
use Rattle.catalogue.specs.Dates.{Date, day_of, end_of}
use Rattle.catalogue.specs.Pool.{entries_of, maps_of_day, pool_verdict, pool_at_exit}

abbrev pub date : ℕ → ℕ → ℕ → Date
date year month day = record { year = year; month = month; day = day }

unfoldable pub day_examples : List (Example (Option ℕ))
unfolding day_of end_of
day_examples =
    day_of (date 2000 1 1) gives Some 0
    ∷ day_of (date 2000 2 29) gives Some 59
    ∷ day_of (date 2000 3 1) gives Some 60
    ∷ day_of (date 2000 12 31) gives Some 365
    ∷ day_of (date 2001 1 1) gives Some 366
    ∷ day_of (date 2099 12 31) gives Some 36524
    ∷ day_of (date 2096 2 29) gives Some 35123
    ∷ day_of (date 2001 2 29) gives None
    ∷ day_of (date 2000 2 30) gives None
    ∷ day_of (date 2000 4 31) gives None
    ∷ day_of (date 2000 0 1) gives None
    ∷ day_of (date 2000 13 1) gives None
    ∷ day_of (date 2000 1 0) gives None
    ∷ day_of (date 1999 12 31) gives None
    ∷ day_of (date 2100 1 1) gives None
    ∷ end_of (date 2100 1 1) gives Some 36525
    ∷ end_of (date 2100 1 2) gives None
    ∷ end_of (date 2099 12 31) gives Some 36524
    ∷ []

pub day_examples_lem : map (λ e. e.computed) day_examples ≡ map (λ e. e.expected) day_examples
unfolding day_examples
day_examples_lem = refl

-- ---- the checks

abbrev pub answer : ℕ → ℕ → Answer
answer number value = record { number = number; value = value }

-- January 2000 of a map; its February; 30 February; a term that ends where it starts, with a bad end and without
abbrev pub january : ℕ → List ℕ
january m = m ∷ 2000 ∷ 1 ∷ 1 ∷ 2000 ∷ 2 ∷ 1 ∷ []

abbrev pub february : ℕ → List ℕ
february m = m ∷ 2000 ∷ 2 ∷ 1 ∷ 2000 ∷ 3 ∷ 1 ∷ []

abbrev pub bad : List ℕ
bad = 7 ∷ 2000 ∷ 2 ∷ 30 ∷ 2001 ∷ 1 ∷ 1 ∷ []

abbrev pub empty : List ℕ
empty = 7 ∷ 2001 ∷ 1 ∷ 1 ∷ 2001 ∷ 1 ∷ 1 ∷ []

abbrev pub records : List ℕ
records = 1 ∷ 7 ∷ 0 ∷ 0 ∷ 3 ∷ 7 ∷ 31 ∷ 1 ∷ 4 ∷ 7 ∷ 31 ∷ 3 ∷ 5 ∷ 7 ∷ 32 ∷ 4 ∷ 6 ∷ 9 ∷ 40000 ∷ 0 ∷ []

unfoldable pub pool_examples : List (Example Answer)
unfolding pool_verdict
pool_examples =
    pool_verdict [] [] (date 2000 1 1) 0 gives answer 0 0
    ∷ pool_verdict (january 9 ++ january 7) records (date 2000 1 31) 8 gives answer 0 2
    ∷ pool_verdict (january 9 ++ january 7) records (date 2000 1 31) 7 gives answer 10 0
    ∷ pool_verdict (january 9 ++ january 7) records (date 2000 2 1) 0 gives answer 0 0
    -- touching, in either order; overlapping; the same term of another map
    ∷ pool_verdict (february 7 ++ january 7) records (date 2000 2 1) 4 gives answer 0 1
    ∷ pool_verdict (january 7 ++ february 7 ++ january 7) records (date 2000 2 1) 4 gives answer 19 2
    ∷ pool_verdict (january 7 ++ january 9) records (date 2000 1 1) 8 gives answer 0 2
    -- term by term, 18 first
    ∷ pool_verdict (bad ++ empty) [] (date 2000 1 1) 0 gives answer 18 0
    ∷ pool_verdict (empty ++ bad) [] (date 2000 1 1) 0 gives answer 19 0
    ∷ pool_verdict (7 ∷ 2001 ∷ 1 ∷ 1 ∷ 2000 ∷ 13 ∷ 1 ∷ []) [] (date 2000 1 1) 0 gives answer 18 0
    -- the day asked for, behind the terms and before 10
    ∷ pool_verdict (january 7) [] (date 2100 1 1) 0 gives answer 18 1
    ∷ pool_verdict (january 7 ++ january 7) [] (date 2100 1 1) 0 gives answer 19 1
    -- a record that breaks a rule, before all of these; an unfinished entry before it
    ∷ pool_verdict bad (0 ∷ 7 ∷ 0 ∷ 0 ∷ []) (date 2100 1 1) 0 gives answer 17 0
    ∷ pool_verdict (7 ∷ []) (0 ∷ 7 ∷ 0 ∷ 0 ∷ []) (date 2100 1 1) 0 gives answer 3 0
    ∷ []

pub pool_examples_lem : map (λ e. e.computed) pool_examples ≡ map (λ e. e.expected) pool_examples
unfolding pool_examples
pool_examples_lem = refl

-- by number; of the records of one day the last, though a later one supersedes it; none for map 9 on that day
pub shown : pool_at_exit 0 (january 9 ++ february 7 ++ february 9) records (date 2000 2 1) (8 ∷ 8 ∷ 8 ∷ 8 ∷ 8 ∷ 8 ∷ 8 ∷ 8 ∷ 8 ∷ []) ≡ 7 ∷ 4 ∷ 31 ∷ 3 ∷ 9 ∷ 0 ∷ 0 ∷ 0 ∷ 8 ∷ []
unfolding day_of entries_of maps_of_day
shown = refl
