-- Computed examples of sheets written and converted: case J and its conversion, what cannot be converted and in which order that is said, and the writer's refusals.
-- Assumes nothing.
use Rattle.std.specs.Prelude.{ℕ, ◌≡◌, refl, true, false, List, [], ◌∷◌, ◌++◌, map, drop}
use Rattle.definitions.specs.Sheet.{well_formed, read_sheet, keptlist_cell_limit}
use Rattle.definitions.specs.SheetExamples.{Example, ◌gives◌, sheet_j, bytes_j, small, small_bytes, small3, small_bytes3, one_cell_lem}
use Rattle.definitions.specs.Verdict.{Answer}
use Rattle.map_sheets.specs.SheetBytes.{sheet_bytes}
use Rattle.map_sheets.specs.Writing.{stating, write_verdict, written_at_exit}
use Rattle.map_sheets.specs.Converting.{is_one_list, convert_verdict}

-- ---- bytes

pub written : map (sheet_bytes 1) (small ∷ sheet_j ∷ one_cell_lem 300 ∷ []) ≡ small_bytes ∷ bytes_j ∷ (1 ∷ 172 ∷ 2 ∷ 1 ∷ 1 ∷ 1 ∷ 0 ∷ 0 ∷ 0 ∷ []) ∷ []
unfolding sheet_bytes
written = refl

pub written_3 : map (sheet_bytes 3) (small3 ∷ one_cell_lem 300 ∷ []) ≡ small_bytes3 ∷ (3 ∷ 172 ∷ 2 ∷ 1 ∷ 1 ∷ 1 ∷ 0 ∷ 0 ∷ []) ∷ []
unfolding sheet_bytes
written_3 = refl

-- case J's lists are one; its conversion states the same
pub converted-J : read_sheet keptlist_cell_limit (sheet_bytes 3 sheet_j) ≡ well_formed sheet_j
unfolding read_sheet sheet_bytes
converted-J = refl

pub one_list : map is_one_list (sheet_j ∷ small ∷ small3 ∷ one_cell_lem 1 ∷ []) ≡ true ∷ false ∷ true ∷ true ∷ []
unfolding is_one_list
one_list = refl

-- ---- converting

abbrev pub answer : ℕ → ℕ → Answer
answer number value = record { number = number; value = value }

-- one cell, one span and one boundary, no anchor
abbrev pub one_span : ℕ → ℕ → List ℕ → List ℕ → List ℕ
one_span pass cell span boundary = 1 ∷ pass ∷ 1 ∷ 1 ∷ cell ∷ 1 ∷ span ++ (1 ∷ boundary ++ (0 ∷ 0 ∷ 0 ∷ 0 ∷ 0 ∷ 0 ∷ []))

abbrev pub across : List ℕ
across = 0 ∷ 0 ∷ 8 ∷ 8 ∷ []

unfoldable pub convert_examples : List (Example Answer)
unfolding convert_verdict
convert_examples =
    convert_verdict bytes_j 103 gives answer 0 103
    ∷ convert_verdict bytes_j 102 gives answer 10 0
    ∷ convert_verdict (one_span 3 1 across across) 16 gives answer 0 16
    -- turned round, another endpoint; before 10, behind 4 to 9
    ∷ convert_verdict (one_span 3 1 (8 ∷ 8 ∷ 0 ∷ 0 ∷ []) across) 0 gives answer 22 0
    ∷ convert_verdict (one_span 3 1 (0 ∷ 0 ∷ 8 ∷ 7 ∷ []) across) 16 gives answer 22 0
    ∷ convert_verdict (one_span 4 1 (0 ∷ 0 ∷ 8 ∷ 7 ∷ []) across) 0 gives answer 4 0
    ∷ convert_verdict (one_span 3 1 (0 ∷ 0 ∷ 8 ∷ 9 ∷ []) across) 0 gives answer 5 0
    ∷ convert_verdict (one_span 3 1 (8 ∷ 8 ∷ 8 ∷ 8 ∷ []) across) 0 gives answer 6 0
    ∷ convert_verdict (one_span 3 1 across (0 ∷ 0 ∷ 8 ∷ 9 ∷ [])) 0 gives answer 7 0
    ∷ convert_verdict (1 ∷ 3 ∷ 1 ∷ 1 ∷ 1 ∷ 1 ∷ across ++ (0 ∷ 1 ∷ 1 ∷ 0 ∷ [])) 0 gives answer 8 0
    ∷ convert_verdict (one_span 3 17 (8 ∷ 8 ∷ 0 ∷ 0 ∷ []) across) 0 gives answer 9 0
    -- unequal counts
    ∷ convert_verdict (1 ∷ 3 ∷ 1 ∷ 1 ∷ 1 ∷ 1 ∷ across ++ (0 ∷ 0 ∷ [])) 9 gives answer 22 0
    ∷ convert_verdict (1 ∷ 3 ∷ 1 ∷ 1 ∷ 1 ∷ 0 ∷ 1 ∷ across ++ (0 ∷ 0 ∷ 0 ∷ 0 ∷ 0 ∷ 0 ∷ [])) 16 gives answer 22 0
    -- another kind, 3 too, whatever follows; an unfinished kind
    ∷ convert_verdict (3 ∷ drop 1 bytes_j) 103 gives answer 14 0
    ∷ convert_verdict (3 ∷ []) 0 gives answer 14 0
    ∷ convert_verdict (2 ∷ 3 ∷ 0 ∷ 1 ∷ []) 0 gives answer 14 0
    ∷ convert_verdict (129 ∷ []) 0 gives answer 14 1
    -- the reader's own refusals
    ∷ convert_verdict (1 ∷ 3 ∷ 0 ∷ 1 ∷ []) 0 gives answer 1 0
    ∷ convert_verdict (1 ∷ 9 ∷ 1 ∷ 1 ∷ 1 ∷ 129 ∷ 2 ∷ []) 0 gives answer 3 0
    ∷ []

pub convert_examples_lem : map (λ e. e.computed) convert_examples ≡ map (λ e. e.expected) convert_examples
unfolding convert_examples
convert_examples_lem = refl

-- ---- writing

unfoldable pub write_examples : List (Example Answer)
unfolding write_verdict stating
write_examples =
    -- any pass, any anchor, equal endpoints
    write_verdict (stating 300 1 1 (9 ∷ []) [] (7 ∷ 7 ∷ [])) 10 gives answer 0 10
    ∷ write_verdict (stating 300 1 1 (9 ∷ []) (5 ∷ 5 ∷ 5 ∷ 5 ∷ 0 ∷ 9 ∷ 0 ∷ 9 ∷ 0 ∷ []) []) 17 gives answer 0 17
    ∷ write_verdict (stating 300 1 1 (9 ∷ []) [] (7 ∷ 7 ∷ [])) 9 gives answer 10 0
    ∷ write_verdict (stating 300 1 1 (9 ∷ []) [] (7 ∷ [])) 0 gives answer 3 0
    ∷ write_verdict (stating 300 1 1 [] [] (7 ∷ [])) 0 gives answer 2 0
    ∷ write_verdict (stating 300 1025 1 [] [] (7 ∷ [])) 0 gives answer 1 0
    -- sides whose product is 0 in 64 bits
    ∷ write_verdict (stating 1 4294967296 4294967296 [] [] []) 99 gives answer 1 0
    ∷ []

pub write_examples_lem : map (λ e. e.computed) write_examples ≡ map (λ e. e.expected) write_examples
unfolding write_examples
write_examples_lem = refl

pub exit_examples_lem : map (λ n. written_at_exit n (3 ∷ 1 ∷ []) (7 ∷ 8 ∷ 9 ∷ [])) (0 ∷ 10 ∷ []) ≡ (3 ∷ 1 ∷ 9 ∷ []) ∷ (7 ∷ 8 ∷ 9 ∷ []) ∷ []
exit_examples_lem = refl
