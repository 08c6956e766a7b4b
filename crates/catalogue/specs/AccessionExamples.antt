-- Computed examples of accession records: lines, each rule with its position, the order of 3, 17 and 10. Assumes nothing.
use Rattle.std.specs.Prelude.{ℕ, ◌≡◌, refl, true, false, List, [], ◌∷◌, map}
use Rattle.definitions.specs.Scan.{run}
use Rattle.definitions.specs.SheetExamples.{Example, ◌gives◌}
use Rattle.definitions.specs.Verdict.{Answer}
use Rattle.catalogue.specs.Accession.{is_current}
use Rattle.catalogue.specs.Line.{line_of, flat_line, line_verdict, line_at_exit}

abbrev pub answer : ℕ → ℕ → Answer
answer number value = record { number = number; value = value }

-- two maps, 7 and 9, by turns
abbrev pub two_maps : List ℕ
two_maps = 1 ∷ 7 ∷ 10 ∷ 0 ∷ 2 ∷ 9 ∷ 3 ∷ 0 ∷ 4 ∷ 7 ∷ 10 ∷ 1 ∷ 9 ∷ 7 ∷ 12 ∷ 4 ∷ 10 ∷ 9 ∷ 3 ∷ 2 ∷ []

unfoldable pub line_examples : List (Example Answer)
unfolding line_verdict
line_examples =
    line_verdict two_maps 4 12 gives answer 0 3
    ∷ line_verdict two_maps 10 8 gives answer 0 2
    ∷ line_verdict two_maps 4 11 gives answer 10 0
    -- unknown numbers, 0 among them, need no room
    ∷ line_verdict two_maps 3 0 gives answer 0 0
    ∷ line_verdict two_maps 0 0 gives answer 0 0
    ∷ line_verdict [] 1 0 gives answer 0 0
    -- each rule: own numbers
    ∷ line_verdict (0 ∷ 7 ∷ 1 ∷ 0 ∷ []) 1 0 gives answer 17 0
    ∷ line_verdict (1 ∷ 7 ∷ 1 ∷ 0 ∷ 1 ∷ 9 ∷ 1 ∷ 0 ∷ []) 1 0 gives answer 17 1
    -- days, with another map's record between
    ∷ line_verdict (1 ∷ 7 ∷ 5 ∷ 0 ∷ 2 ∷ 9 ∷ 1 ∷ 0 ∷ 3 ∷ 7 ∷ 4 ∷ 1 ∷ []) 1 0 gives answer 17 2
    -- a second 0; a first that supersedes; itself; a later one; another map's; one that is superseded
    ∷ line_verdict (1 ∷ 7 ∷ 5 ∷ 0 ∷ 2 ∷ 7 ∷ 5 ∷ 0 ∷ []) 1 0 gives answer 17 1
    ∷ line_verdict (1 ∷ 7 ∷ 5 ∷ 1 ∷ []) 1 0 gives answer 17 0
    ∷ line_verdict (1 ∷ 7 ∷ 5 ∷ 0 ∷ 2 ∷ 7 ∷ 5 ∷ 3 ∷ 3 ∷ 7 ∷ 5 ∷ 1 ∷ []) 1 0 gives answer 17 1
    ∷ line_verdict (1 ∷ 7 ∷ 5 ∷ 0 ∷ 2 ∷ 9 ∷ 5 ∷ 1 ∷ []) 1 0 gives answer 17 1
    ∷ line_verdict (1 ∷ 7 ∷ 5 ∷ 0 ∷ 2 ∷ 7 ∷ 5 ∷ 1 ∷ 3 ∷ 7 ∷ 5 ∷ 1 ∷ []) 1 0 gives answer 17 2
    -- unfinished comes first
    ∷ line_verdict (0 ∷ 7 ∷ 5 ∷ 0 ∷ 2 ∷ []) 1 0 gives answer 3 0
    ∷ []

pub line_examples_lem : map (λ e. e.computed) line_examples ≡ map (λ e. e.expected) line_examples
unfolding line_examples
line_examples_lem = refl

pub newest_first_lem : line_at_exit 0 two_maps 1 (0 ∷ 0 ∷ 0 ∷ 0 ∷ 0 ∷ 0 ∷ 0 ∷ 0 ∷ 0 ∷ 0 ∷ 0 ∷ 0 ∷ 77 ∷ []) ≡ 9 ∷ 7 ∷ 12 ∷ 4 ∷ 4 ∷ 7 ∷ 10 ∷ 1 ∷ 1 ∷ 7 ∷ 10 ∷ 0 ∷ 77 ∷ []
unfolding flat_line line_of
newest_first_lem = refl

pub current : map (is_current two_maps) (run 0 5) ≡ false ∷ false ∷ false ∷ true ∷ true ∷ []
unfolding is_current run
current = refl
