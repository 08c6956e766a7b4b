-- Two desks, computed: each refusal with its place and its order among the others, a desk that is refused beside one that is accepted, and case J for two desks with other
-- anchors. Assumes nothing.
use Rattle.std.specs.Prelude.{ℕ, ◌≡◌, refl, Bool, true, List, [], ◌∷◌, ◌++◌}
use Rattle.definitions.specs.Scan.{all}
use Rattle.definitions.specs.Verdict.{Answer}
use Rattle.definitions.specs.Cases.{width8}
use Rattle.definitions.specs.SheetExamples.{sheet_j}
use Rattle.definitions.specs.RefusalExamples.{cells_two, span_two, boundary_two, labels_two, pairs_two, records_two, is}
use Rattle.desks.specs.Desks.{Shared, Desk, desk_answer, desk_output, shared_exit}

-- ---- two cells that one span divides

unfoldable pub ground_of : ℕ → ℕ → List ℕ → List ℕ → List ℕ → List ℕ → ℕ → Shared
unfolding records_two
ground_of w h cells spans labels pairs records =
    record {
      width = w;
      height = h;
      cells = cells;
      spans = spans;
      labels = labels;
      masks = 7 ∷ 7 ∷ 7 ∷ [];
      queue = 8 ∷ 8 ∷ 8 ∷ [];
      tallies = 5 ∷ 5 ∷ 5 ∷ [];
      pairs = pairs;
      records = records_two records;
    }

unfoldable pub ground_two : Shared
unfolding ground_of
ground_two = ground_of 2 1 cells_two span_two labels_two pairs_two 3

abbrev pub output_two : List ℕ
output_two = 6 ∷ 6 ∷ 6 ∷ 6 ∷ 6 ∷ 6 ∷ []

abbrev pub desk : ℕ → List ℕ → List ℕ → List ℕ → Desk
desk pass boundaries anchors output = record { pass = pass; boundaries = boundaries; anchors = anchors; output = output }

-- the answer to a desk on the two cells
unfoldable pub own : ℕ → List ℕ → List ℕ → List ℕ → Answer
unfolding desk_answer ground_two
own pass boundaries anchors output = desk_answer ground_two (desk pass boundaries anchors output)

-- the answer to a desk that would be refused itself (3), on lists that are
unfoldable pub both : ℕ → ℕ → List ℕ → List ℕ → List ℕ → List ℕ → ℕ → Answer
unfolding desk_answer ground_of
both w h cells spans labels pairs records = desk_answer (ground_of w h cells spans labels pairs records) (desk 9 (1 ∷ []) [] [])

-- the span as a boundary, its endpoints the other way round
abbrev pub turned_two : List ℕ
turned_two = 8 ∷ 0 ∷ 8 ∷ 8 ∷ width8 ∷ 0 ∷ 0 ∷ 0 ∷ 0 ∷ []

-- not the span
abbrev pub astray_two : List ℕ
astray_two = 8 ∷ 0 ∷ 8 ∷ 7 ∷ width8 ∷ 0 ∷ 0 ∷ 0 ∷ 0 ∷ []

-- of kind 3
abbrev pub kind_two : List ℕ
kind_two = 8 ∷ 0 ∷ 8 ∷ 8 ∷ width8 ∷ 3 ∷ 0 ∷ 0 ∷ 0 ∷ []

unfoldable pub desk_examples : List Bool
unfolding own both
desk_examples =
    is (own 3 boundary_two (1 ∷ 0 ∷ []) output_two) 0 1
    -- 20: the span up to endpoint order
    ∷ is (own 3 turned_two [] output_two) 0 1
    ∷ is (own 3 astray_two [] output_two) 20 0
    -- a boundary missing, a span missing
    ∷ is (own 3 [] [] output_two) 20 0
    ∷ is (own 3 (boundary_two ++ boundary_two) [] output_two) 20 1
    -- after 7, of whatever boundary; before 8
    ∷ is (own 3 (astray_two ++ kind_two) [] output_two) 7 1
    ∷ is (own 3 astray_two (2 ∷ 0 ∷ []) output_two) 20 0
    -- the other refusals of a desk: 3 before 4, 4 before 7, 8 before 10
    ∷ is (own 9 (8 ∷ []) [] output_two) 3 0
    ∷ is (own 3 boundary_two (0 ∷ []) output_two) 3 0
    ∷ is (own 9 kind_two [] output_two) 4 0
    ∷ is (own 3 boundary_two (1 ∷ 0 ∷ 2 ∷ 0 ∷ []) []) 8 1
    ∷ is (own 3 boundary_two [] (6 ∷ 6 ∷ 6 ∷ 6 ∷ [])) 10 0
    -- those over the shared lists come before all of these: 1, 2, 3, 5, 6, 9, 10, 11, 12
    ∷ is (both 0 1 cells_two span_two labels_two pairs_two 3) 1 0
    ∷ is (both 2 1 (1 ∷ []) span_two labels_two pairs_two 3) 2 0
    ∷ is (both 2 1 cells_two (8 ∷ []) labels_two pairs_two 3) 3 0
    ∷ is (both 2 1 cells_two (17 ∷ 8 ∷ 8 ∷ 0 ∷ []) labels_two pairs_two 3) 5 0
    ∷ is (both 2 1 cells_two (8 ∷ 8 ∷ 8 ∷ 8 ∷ []) labels_two pairs_two 3) 6 0
    ∷ is (both 2 1 (1 ∷ 17 ∷ []) span_two [] pairs_two 3) 9 1
    ∷ is (both 2 1 cells_two span_two (9 ∷ []) pairs_two 0) 10 0
    ∷ is (both 2 1 cells_two span_two labels_two [] 1) 11 0
    ∷ is (both 2 1 cells_two span_two labels_two (4 ∷ 4 ∷ []) 2) 12 0
    ∷ is (both 2 1 cells_two span_two labels_two pairs_two 2) 3 0
    ∷ []

pub desk_examples_lem : all (λ b. b) desk_examples ≡ true
unfolding all desk_examples
desk_examples_lem = refl

-- an accepted desk has its row and leaves the rest of its output; a refused one leaves all of it
pub output-accepted : desk_output ground_two (desk 3 turned_two [] output_two) ≡ 0 ∷ 8 ∷ 0 ∷ 8 ∷ 8 ∷ 6 ∷ []
unfolding desk_output ground_two
output-accepted = refl

pub output-refused : desk_output ground_two (desk 3 astray_two [] output_two) ≡ output_two
unfolding desk_output ground_two
output-refused = refl

-- the shared lists are filled, whatever the desks
pub shared-filled : (shared_exit ground_two).labels ≡ 1 ∷ 2 ∷ 9 ∷ []
unfolding shared_exit ground_two
shared-filled = refl

pub shared-cleared : (shared_exit ground_two).queue ≡ 0 ∷ 0 ∷ 8 ∷ []
unfolding shared_exit ground_two
shared-cleared = refl

-- ---- case J for two desks: one with no anchor, one with an anchor on each side of boundary 0

unfoldable pub ground_j : Shared
unfolding records_two
ground_j =
    let twelve : List ℕ = 0 ∷ 0 ∷ 0 ∷ 0 ∷ 0 ∷ 0 ∷ 0 ∷ 0 ∷ 0 ∷ 0 ∷ 0 ∷ 0 ∷ [] in
    record {
      width = sheet_j.width;
      height = sheet_j.height;
      cells = sheet_j.cells;
      spans = sheet_j.spans;
      labels = twelve;
      masks = twelve;
      queue = twelve;
      tallies = twelve;
      pairs = twelve ++ twelve;
      records = records_two 6;
    }

abbrev pub output_j : List ℕ
output_j = 6 ∷ 6 ∷ 6 ∷ 6 ∷ 6 ∷ 6 ∷ 6 ∷ 6 ∷ 6 ∷ 6 ∷ 6 ∷ 6 ∷ 6 ∷ 6 ∷ 6 ∷ 6 ∷ 6 ∷ 6 ∷ 6 ∷ 6 ∷ 6 ∷ 6 ∷ 6 ∷ 6 ∷ 6 ∷ []

pub route-J : desk_output ground_j (desk 3 sheet_j.boundaries [] output_j)
    ≡ 1 ∷ 8 ∷ 8 ∷ 8 ∷ 16 ∷ 2 ∷ 8 ∷ 8 ∷ 16 ∷ 8 ∷ 4 ∷ 16 ∷ 16 ∷ 24 ∷ 16 ∷ 3 ∷ 24 ∷ 8 ∷ 24 ∷ 16 ∷ 6 ∷ 6 ∷ 6 ∷ 6 ∷ 6 ∷ []
unfolding desk_output ground_j
route-J = refl

pub coaching-J : desk_output ground_j (desk 3 sheet_j.boundaries (1 ∷ 1 ∷ 2 ∷ 1 ∷ []) output_j)
    ≡ 1 ∷ 8 ∷ 8 ∷ 8 ∷ 16 ∷ 2 ∷ 8 ∷ 8 ∷ 16 ∷ 8 ∷ 0 ∷ 16 ∷ 8 ∷ 16 ∷ 16 ∷ 4 ∷ 16 ∷ 16 ∷ 24 ∷ 16 ∷ 3 ∷ 24 ∷ 8 ∷ 24 ∷ 16 ∷ []
unfolding desk_output ground_j
coaching-J = refl
