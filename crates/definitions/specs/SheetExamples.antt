-- Computed examples of the sheet: single numbers, small sheets and the edges of each refusal, case J, and reading alone. Assumes nothing.
use Rattle.std.specs.Prelude.{ℕ, ◌^◌, ◌-◌, ◌≡◌, refl, List, [], ◌∷◌, ◌++◌, map, length, take}
use Rattle.definitions.specs.Scan.{run}
use Rattle.definitions.specs.SheetNumber.{Read, found, failed, number}
use Rattle.definitions.specs.Sheet.{Sheet, Reading, well_formed, refused, read_sheet, plain_cell_limit, keptlist_cell_limit, read_verdict, at_exit}

infix 68 ◌gives◌
pub record Example (A : Type 0) : Type 0 where
  pub computed : A
  pub expected : A

abbrev pub ◌gives◌ : {A : Type 0} → A → A → Example A
computed gives expected = record { computed = computed; expected = expected }

-- ---- single numbers

-- nine groups of ones, all continued: 63 bits
abbrev pub nine : List ℕ
nine = 255 ∷ 255 ∷ 255 ∷ 255 ∷ 255 ∷ 255 ∷ 255 ∷ 255 ∷ 255 ∷ []

unfoldable pub number_examples : List (Example (Read ℕ))
unfolding number
number_examples =
    -- least group first; the offset behind, and the bytes from there on
    number 0 (172 ∷ 2 ∷ 7 ∷ []) gives found 300 2 (7 ∷ [])
    -- zero is one byte; padded in two, three and ten bytes, whatever follows, it is refused at its first byte, and so is 1
    ∷ number 0 (0 ∷ 7 ∷ []) gives found 0 1 (7 ∷ [])
    ∷ number 30 (128 ∷ 0 ∷ 7 ∷ []) gives failed 14 30
    ∷ number 30 (128 ∷ 128 ∷ 0 ∷ []) gives failed 14 30
    ∷ number 30 (129 ∷ 0 ∷ []) gives failed 14 30
    ∷ number 30 (129 ∷ 128 ∷ 128 ∷ 128 ∷ 128 ∷ 128 ∷ 128 ∷ 128 ∷ 128 ∷ 0 ∷ []) gives failed 14 30
    -- groups of zero without a last byte are an early end; groups of zero inside a number stay
    ∷ number 30 (129 ∷ 128 ∷ []) gives failed 14 32
    ∷ number 30 (129 ∷ 128 ∷ 128 ∷ 128 ∷ 128 ∷ 128 ∷ 128 ∷ 128 ∷ 128 ∷ []) gives failed 14 39
    ∷ number 0 (128 ∷ 128 ∷ 1 ∷ []) gives found 16384 3 []
    -- ten groups, the last of them 1
    ∷ number 0 (128 ∷ 128 ∷ 128 ∷ 128 ∷ 128 ∷ 128 ∷ 128 ∷ 128 ∷ 128 ∷ 1 ∷ []) gives found (2 ^ 63) 10 []
    ∷ number 0 (nine ++ (1 ∷ [])) gives found (2 ^ 64 - 1) 10 []
    -- a tenth byte above 1, though nothing follows it, is too long; the place is the first byte
    ∷ number 30 (nine ++ (2 ∷ [])) gives failed 14 30
    ∷ number 30 (nine ++ (128 ∷ [])) gives failed 14 30
    ∷ number 30 (nine ++ (129 ∷ 0 ∷ [])) gives failed 14 30
    -- nine continued bytes and then the end are an early end
    ∷ number 30 nine gives failed 14 39
    ∷ number 30 [] gives failed 14 30
    ∷ []

pub number_examples_lem : map (λ e. e.computed) number_examples ≡ map (λ e. e.expected) number_examples
unfolding number_examples
number_examples_lem = refl

-- ---- small sheets and refusals

unfoldable pub plain : List ℕ → Reading
unfolding read_sheet
plain bytes = read_sheet plain_cell_limit bytes

-- one cell, no spans, boundaries or anchors
abbrev pub one_cell_lem : ℕ → Sheet
one_cell_lem pass = record { pass = pass; width = 1; height = 1; cells = 1 ∷ []; spans = []; boundaries = []; anchors = [] }

-- 2 by 1 cells with two spans, a boundary and an anchor
abbrev pub small : Sheet
small =
    record {
      pass = 2;
      width = 2;
      height = 1;
      cells = 1 ∷ 255 ∷ [];
      spans = 8 ∷ 0 ∷ 8 ∷ 8 ∷ 0 ∷ 0 ∷ 16 ∷ 8 ∷ [];
      boundaries = 8 ∷ 0 ∷ 8 ∷ 8 ∷ 300 ∷ 1 ∷ 7 ∷ 0 ∷ 1 ∷ [];
      anchors = 1 ∷ 0 ∷ [];
    }

abbrev pub small_bytes : List ℕ
small_bytes =
    1 ∷ 2 ∷ 2 ∷ 1 ∷ 1 ∷ 255 ∷ 1
    ∷ 2 ∷ 8 ∷ 0 ∷ 8 ∷ 8 ∷ 0 ∷ 0 ∷ 16 ∷ 8
    ∷ 1 ∷ 8 ∷ 0 ∷ 8 ∷ 8 ∷ 172 ∷ 2 ∷ 1 ∷ 7 ∷ 0 ∷ 1
    ∷ 1 ∷ 1 ∷ 0 ∷ []

unfoldable pub sheet_examples : List (Example Reading)
unfolding plain read_sheet
sheet_examples =
    plain small_bytes gives well_formed small
    ∷ plain (1 ∷ 3 ∷ 1 ∷ 1 ∷ 1 ∷ 0 ∷ 0 ∷ 0 ∷ []) gives well_formed (one_cell_lem 3)
    -- any pass is read
    ∷ plain (1 ∷ 172 ∷ 2 ∷ 1 ∷ 1 ∷ 1 ∷ 0 ∷ 0 ∷ 0 ∷ []) gives well_formed (one_cell_lem 300)
    -- a padded kind, pass, side, cell and count, whatever their value: no check is asked of it
    ∷ plain (129 ∷ 0 ∷ 3 ∷ 1 ∷ 1 ∷ 1 ∷ 0 ∷ 0 ∷ 0 ∷ []) gives refused 14 0
    ∷ plain (1 ∷ 131 ∷ 0 ∷ 1 ∷ 1 ∷ 1 ∷ 0 ∷ 0 ∷ 0 ∷ []) gives refused 14 1
    ∷ plain (1 ∷ 3 ∷ 128 ∷ 0 ∷ 1 ∷ 1 ∷ 0 ∷ 0 ∷ 0 ∷ []) gives refused 14 2
    ∷ plain (1 ∷ 3 ∷ 0 ∷ 129 ∷ 0 ∷ 1 ∷ 0 ∷ 0 ∷ 0 ∷ []) gives refused 14 3
    ∷ plain (1 ∷ 3 ∷ 1 ∷ 1 ∷ 129 ∷ 128 ∷ 0 ∷ 0 ∷ 0 ∷ 0 ∷ []) gives refused 14 4
    ∷ plain (1 ∷ 3 ∷ 1 ∷ 1 ∷ 1 ∷ 129 ∷ 130 ∷ 0 ∷ []) gives refused 14 5
    -- bytes left over
    ∷ plain (1 ∷ 3 ∷ 1 ∷ 1 ∷ 1 ∷ 0 ∷ 0 ∷ 0 ∷ 0 ∷ 0 ∷ []) gives refused 14 8
    -- no bytes; a kind other than 1 and 3, though nothing follows; an unfinished kind
    ∷ plain [] gives refused 14 0
    ∷ plain (2 ∷ []) gives refused 14 0
    ∷ plain (4 ∷ []) gives refused 14 0
    ∷ plain (3 ∷ []) gives refused 14 1
    ∷ plain (0 ∷ 3 ∷ 1 ∷ 1 ∷ 1 ∷ 0 ∷ 0 ∷ 0 ∷ []) gives refused 14 0
    ∷ plain (130 ∷ []) gives refused 14 1
    -- a side outside, once both are read, whatever follows
    ∷ plain (1 ∷ 3 ∷ 0 ∷ []) gives refused 14 3
    ∷ plain (1 ∷ 3 ∷ 0 ∷ 1 ∷ []) gives refused 1 0
    ∷ plain (1 ∷ 3 ∷ 1 ∷ 0 ∷ []) gives refused 1 0
    ∷ plain (1 ∷ 3 ∷ 129 ∷ 8 ∷ 1 ∷ []) gives refused 1 0
    ∷ plain (1 ∷ 3 ∷ 1 ∷ 129 ∷ 8 ∷ []) gives refused 1 0
    ∷ plain (1 ∷ 3 ∷ 128 ∷ 8 ∷ 128 ∷ 8 ∷ 1 ∷ []) gives refused 14 7
    -- 17 by 241 cells are one too many for `keptlist`, 64 by 64 are not
    ∷ read_sheet keptlist_cell_limit (1 ∷ 3 ∷ 17 ∷ 241 ∷ 1 ∷ []) gives refused 1 0
    ∷ read_sheet keptlist_cell_limit (1 ∷ 3 ∷ 64 ∷ 64 ∷ []) gives refused 14 4
    ∷ plain (1 ∷ 3 ∷ 17 ∷ 241 ∷ 1 ∷ []) gives refused 14 5
    -- a cell of 256, of 255, unfinished, and too long
    ∷ plain (1 ∷ 3 ∷ 2 ∷ 1 ∷ 1 ∷ 128 ∷ 2 ∷ []) gives refused 14 5
    ∷ plain (1 ∷ 3 ∷ 2 ∷ 1 ∷ 1 ∷ 255 ∷ 1 ∷ []) gives refused 14 7
    ∷ plain (1 ∷ 3 ∷ 2 ∷ 1 ∷ 1 ∷ 128 ∷ 130 ∷ []) gives refused 14 7
    ∷ plain (1 ∷ 3 ∷ 2 ∷ 1 ∷ 1 ∷ nine ++ (2 ∷ [])) gives refused 14 5
    -- a count of 257 of spans, boundaries and anchors, of 256, and unfinished
    ∷ plain (1 ∷ 3 ∷ 1 ∷ 1 ∷ 1 ∷ 129 ∷ 2 ∷ []) gives refused 3 0
    ∷ plain (1 ∷ 3 ∷ 1 ∷ 1 ∷ 1 ∷ 0 ∷ 129 ∷ 2 ∷ []) gives refused 3 0
    ∷ plain (1 ∷ 3 ∷ 1 ∷ 1 ∷ 1 ∷ 0 ∷ 0 ∷ 129 ∷ 2 ∷ 0 ∷ []) gives refused 3 0
    ∷ plain (1 ∷ 3 ∷ 1 ∷ 1 ∷ 1 ∷ 128 ∷ 2 ∷ []) gives refused 14 7
    ∷ plain (1 ∷ 3 ∷ 1 ∷ 1 ∷ 1 ∷ 129 ∷ 130 ∷ []) gives refused 14 7
    ∷ []

pub sheet_examples_lem : map (λ e. e.computed) sheet_examples ≡ map (λ e. e.expected) sheet_examples
unfolding sheet_examples
sheet_examples_lem = refl

-- ---- kind 3

-- the small sheet with no span count and no spans: its boundary is its one span, as written
abbrev pub small_bytes3 : List ℕ
small_bytes3 =
    3 ∷ 2 ∷ 2 ∷ 1 ∷ 1 ∷ 255 ∷ 1
    ∷ 1 ∷ 8 ∷ 0 ∷ 8 ∷ 8 ∷ 172 ∷ 2 ∷ 1 ∷ 7 ∷ 0 ∷ 1
    ∷ 1 ∷ 1 ∷ 0 ∷ []

abbrev pub small3 : Sheet
small3 =
    record {
      pass = 2;
      width = 2;
      height = 1;
      cells = 1 ∷ 255 ∷ [];
      spans = 8 ∷ 0 ∷ 8 ∷ 8 ∷ [];
      boundaries = 8 ∷ 0 ∷ 8 ∷ 8 ∷ 300 ∷ 1 ∷ 7 ∷ 0 ∷ 1 ∷ [];
      anchors = 1 ∷ 0 ∷ [];
    }

-- two boundaries, the second with its greater endpoint first; it stays so
abbrev pub turned : List ℕ
turned = 0 ∷ 0 ∷ 8 ∷ 8 ∷ 5 ∷ 0 ∷ 0 ∷ 0 ∷ 0 ∷ 8 ∷ 7 ∷ 0 ∷ 1 ∷ 6 ∷ 0 ∷ 0 ∷ 0 ∷ 0 ∷ []

unfoldable pub kind3_examples : List (Example Reading)
unfolding plain read_sheet
kind3_examples =
    plain small_bytes3 gives well_formed small3
    ∷ plain (3 ∷ 3 ∷ 1 ∷ 1 ∷ 1 ∷ 0 ∷ 0 ∷ []) gives well_formed (one_cell_lem 3)
    -- a span count is a boundary count to it, and what is then left over is refused
    ∷ plain (3 ∷ 3 ∷ 1 ∷ 1 ∷ 1 ∷ 0 ∷ 0 ∷ 0 ∷ []) gives refused 14 7
    ∷ plain (131 ∷ 0 ∷ 3 ∷ 1 ∷ 1 ∷ 1 ∷ 0 ∷ 0 ∷ []) gives refused 14 0
    ∷ plain (3 ∷ 3 ∷ 1 ∷ 1 ∷ 1 ∷ 129 ∷ 2 ∷ []) gives refused 3 0
    ∷ plain (3 ∷ 3 ∷ 0 ∷ 1 ∷ []) gives refused 1 0
    ∷ plain (3 ∷ 1 ∷ 1 ∷ 1 ∷ 0 ∷ 2 ∷ turned ++ (0 ∷ [])) gives
    well_formed
    (record {
      pass = 1;
      width = 1;
      height = 1;
      cells = 0 ∷ [];
      spans = 0 ∷ 0 ∷ 8 ∷ 8 ∷ 8 ∷ 7 ∷ 0 ∷ 1 ∷ [];
      boundaries = turned;
      anchors = [];
    })
    ∷ []

pub kind3_examples_lem : map (λ e. e.computed) kind3_examples ≡ map (λ e. e.expected) kind3_examples
unfolding kind3_examples
kind3_examples_lem = refl

-- each beginning of the small sheet ends early, at its length
pub early-ends : map (λ n. plain (take n small_bytes)) (run 0 (length small_bytes)) ≡ map (λ n. refused 14 n) (run 0 (length small_bytes))
unfolding plain run
early-ends = refl

pub early-ends_3 : map (λ n. plain (take n small_bytes3)) (run 0 (length small_bytes3)) ≡ map (λ n. refused 14 n) (run 0 (length small_bytes3))
unfolding plain run
early-ends_3 = refl

-- ---- case J

-- the bits of 8.0
abbrev pub eight : ℕ
eight = 4620693217682128896

abbrev pub sheet_j : Sheet
sheet_j =
    record {
      pass = 3;
      width = 4;
      height = 3;
      cells = 0 ∷ 1 ∷ 0 ∷ 0 ∷ 1 ∷ 1 ∷ 1 ∷ 1 ∷ 0 ∷ 0 ∷ 1 ∷ 0 ∷ [];
      spans = 16 ∷ 8 ∷ 16 ∷ 16 ∷ 8 ∷ 8 ∷ 8 ∷ 16 ∷ 8 ∷ 8 ∷ 16 ∷ 8 ∷ 24 ∷ 8 ∷ 24 ∷ 16 ∷ 16 ∷ 16 ∷ 24 ∷ 16 ∷ [];
      boundaries =
          16 ∷ 8 ∷ 16 ∷ 16 ∷ eight ∷ 0 ∷ 0 ∷ 0 ∷ 0
          ∷ 8 ∷ 8 ∷ 8 ∷ 16 ∷ eight ∷ 0 ∷ 0 ∷ 0 ∷ 0
          ∷ 8 ∷ 8 ∷ 16 ∷ 8 ∷ eight ∷ 0 ∷ 0 ∷ 0 ∷ 0
          ∷ 24 ∷ 8 ∷ 24 ∷ 16 ∷ eight ∷ 0 ∷ 0 ∷ 0 ∷ 0
          ∷ 16 ∷ 16 ∷ 24 ∷ 16 ∷ eight ∷ 0 ∷ 0 ∷ 0 ∷ 0 ∷ [];
      anchors = [];
    }

abbrev pub bytes_j : List ℕ
bytes_j =
    1 ∷ 3 ∷ 4 ∷ 3
    ∷ 0 ∷ 1 ∷ 0 ∷ 0 ∷ 1 ∷ 1 ∷ 1 ∷ 1 ∷ 0 ∷ 0 ∷ 1 ∷ 0
    ∷ 5
    ∷ 16 ∷ 8 ∷ 16 ∷ 16 ∷ 8 ∷ 8 ∷ 8 ∷ 16 ∷ 8 ∷ 8 ∷ 16 ∷ 8 ∷ 24 ∷ 8 ∷ 24 ∷ 16 ∷ 16 ∷ 16 ∷ 24 ∷ 16
    ∷ 5
    ∷ 16 ∷ 8 ∷ 16 ∷ 16 ∷ 128 ∷ 128 ∷ 128 ∷ 128 ∷ 128 ∷ 128 ∷ 128 ∷ 144 ∷ 64 ∷ 0 ∷ 0 ∷ 0 ∷ 0
    ∷ 8 ∷ 8 ∷ 8 ∷ 16 ∷ 128 ∷ 128 ∷ 128 ∷ 128 ∷ 128 ∷ 128 ∷ 128 ∷ 144 ∷ 64 ∷ 0 ∷ 0 ∷ 0 ∷ 0
    ∷ 8 ∷ 8 ∷ 16 ∷ 8 ∷ 128 ∷ 128 ∷ 128 ∷ 128 ∷ 128 ∷ 128 ∷ 128 ∷ 144 ∷ 64 ∷ 0 ∷ 0 ∷ 0 ∷ 0
    ∷ 24 ∷ 8 ∷ 24 ∷ 16 ∷ 128 ∷ 128 ∷ 128 ∷ 128 ∷ 128 ∷ 128 ∷ 128 ∷ 144 ∷ 64 ∷ 0 ∷ 0 ∷ 0 ∷ 0
    ∷ 16 ∷ 16 ∷ 24 ∷ 16 ∷ 128 ∷ 128 ∷ 128 ∷ 128 ∷ 128 ∷ 128 ∷ 128 ∷ 144 ∷ 64 ∷ 0 ∷ 0 ∷ 0 ∷ 0
    ∷ 0 ∷ []

pub case-J : read_sheet keptlist_cell_limit bytes_j ≡ well_formed sheet_j
unfolding read_sheet
case-J = refl

-- ---- reading alone: lists lent of the needed length, one too short, and longer ones

unfoldable pub verdict_examples : List (Example Reading)
unfolding read_verdict
verdict_examples =
    read_verdict small_bytes 2 8 9 2 gives well_formed small
    ∷ read_verdict small_bytes 1 8 9 2 gives refused 10 0
    ∷ read_verdict small_bytes 2 7 9 2 gives refused 10 0
    ∷ read_verdict small_bytes 2 8 8 2 gives refused 10 0
    ∷ read_verdict small_bytes 2 8 9 1 gives refused 10 0
    -- a sheet of kind 3 needs room for the spans that it does not hold
    ∷ read_verdict small_bytes3 2 4 9 2 gives well_formed small3
    ∷ read_verdict small_bytes3 2 3 9 2 gives refused 10 0
    ∷ read_verdict (small_bytes ++ (0 ∷ [])) 0 0 0 0 gives refused 14 30
    ∷ []

pub verdict_examples_lem : map (λ e. e.computed) verdict_examples ≡ map (λ e. e.expected) verdict_examples
unfolding verdict_examples
verdict_examples_lem = refl

unfoldable pub exit_examples : List (Example (List ℕ))
exit_examples =
    at_exit (λ s. s.cells) (well_formed small) (7 ∷ 8 ∷ 9 ∷ 6 ∷ []) gives (1 ∷ 255 ∷ 9 ∷ 6 ∷ [])
    ∷ at_exit (λ s. s.anchors) (well_formed small) (7 ∷ 8 ∷ []) gives (1 ∷ 0 ∷ [])
    ∷ at_exit (λ s. s.cells) (refused 10 0) (7 ∷ 8 ∷ 9 ∷ []) gives (7 ∷ 8 ∷ 9 ∷ [])
    ∷ []

pub exit_examples_lem : map (λ e. e.computed) exit_examples ≡ map (λ e. e.expected) exit_examples
unfolding exit_examples
exit_examples_lem = refl
