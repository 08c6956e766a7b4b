-- What it says that a run to rest, or a call that runs a pass, is refused by no check: each check found nothing. A run that no check before 11 refuses answers by 11,
-- 12 and its rows. Assumes nothing.
use Prim.Native.Nat.{ℕ, ◌/◌}
use Rattle.std.proofs.Common.{arith, ◌∙◌}
use Rattle.std.specs.Prelude.{◌≡◌, refl, true, List, [], ◌∷◌, ◌++◌, Option, None}
use Rattle.std.proofs.Math.Path.{ap}
use Rattle.std.proofs.Math.Bool.{◌&&◌}
use Rattle.std.proofs.Math.ListN.{length}
use Rattle.definitions.specs.Limits.{numbers_per_span, numbers_per_boundary, numbers_per_anchor}
use Rattle.definitions.specs.Grid.{Map}
use Rattle.definitions.specs.Rows.{rows_of}
use Rattle.definitions.specs.Refusals.{Refusal, unless, sides_fault, cells_fault, is_whole, pass_fault, spans_refusal, boundaries_fault, anchors_fault, elevations_fault, output_room}
use Rattle.definitions.specs.Verdict.{Lent, map_in, refusal, first_refusal, records_fault, pairs_fault, partition_has_room, verdict}
use Rattle.laws.specs.ListLaws.Lists.{All, done, more}
use Rattle.laws.specs.ListLaws.NoFault.{no_fault_lem}
use Rattle.laws.specs.TableLaws.AcceptedCalls.{refusal_none, Accepted, Numbered, refusal-numbered, spans-numbered, none_refused}
use Rattle.rest_definitions.specs.RowOrder.{start_map}
use Rattle.rest_definitions.specs.Rest.{rest_rows, rounds_of}
use Rattle.rest_definitions.specs.RestVerdict.{lists_fault, with_rounds, rest_verdict}

-- no check before 11 refuses it
pub record RestChecked (L : Lent) : Type 0 where
  pub sides : sides_fault L.width L.height ≡ None
  pub cells : cells_fault L.width L.height L.cells ≡ None
  pub whole : (is_whole numbers_per_span L.spans && is_whole numbers_per_boundary L.boundaries && is_whole numbers_per_anchor L.anchors) ≡ true
  pub lists : lists_fault L.spans L.boundaries ≡ None
  pub spans : spans_refusal L.width L.height L.spans ≡ None
  pub boundaries : boundaries_fault L.width L.height L.boundaries ≡ None
  pub anchors : anchors_fault L.width L.height L.anchors ≡ None
  pub elevations : elevations_fault L.cells ≡ None
  pub room : (partition_has_room L && output_room (length L.boundaries / numbers_per_boundary) (length L.output)) ≡ true

-- nor do 11 and 12
pub record RestAccepted (L : Lent) : Type 0 where
  pub checked : RestChecked L
  pub records : records_fault L (start_map (map_in L)) ≡ None
  pub pairs : pairs_fault L (start_map (map_in L)) ≡ None

-- a call that runs a pass and that no check before 11 refuses
pub record Unfaulted (I : Lent) : Type 0 where
  pub sides : sides_fault I.width I.height ≡ None
  pub cells : cells_fault I.width I.height I.cells ≡ None
  pub whole : (is_whole numbers_per_span I.spans && is_whole numbers_per_boundary I.boundaries && is_whole numbers_per_anchor I.anchors) ≡ true
  pub pass : pass_fault I.pass ≡ None
  pub spans : spans_refusal I.width I.height I.spans ≡ None
  pub boundaries : boundaries_fault I.width I.height I.boundaries ≡ None
  pub anchors : anchors_fault I.width I.height I.anchors ≡ None
  pub elevations : elevations_fault I.cells ≡ None
  pub room : (partition_has_room I && output_room (length I.boundaries / numbers_per_boundary) (length I.output)) ≡ true

-- the checks of `rest_verdict`, in its order
abbrev checks : Lent → List (Option Refusal)
checks L =
    refusal 1 (sides_fault L.width L.height)
    ∷ refusal 2 (cells_fault L.width L.height L.cells)
    ∷ refusal 3 (unless (is_whole numbers_per_span L.spans && is_whole numbers_per_boundary L.boundaries && is_whole numbers_per_anchor L.anchors))
    ∷ refusal 16 (lists_fault L.spans L.boundaries)
    ∷ spans_refusal L.width L.height L.spans
    ∷ refusal 7 (boundaries_fault L.width L.height L.boundaries)
    ∷ refusal 8 (anchors_fault L.width L.height L.anchors)
    ∷ refusal 9 (elevations_fault L.cells)
    ∷ refusal 10 (unless (partition_has_room L && output_room (length L.boundaries / numbers_per_boundary) (length L.output)))
    ∷ refusal 11 (records_fault L (start_map (map_in L)))
    ∷ refusal 12 (pairs_fault L (start_map (map_in L)))
    ∷ []

checks-numbered : (L : Lent) → All Numbered (checks L)
checks-numbered L =
    more (refusal-numbered 1 (sides_fault L.width L.height) (omega arith))
    (more (refusal-numbered 2 (cells_fault L.width L.height L.cells) (omega arith))
    (more (refusal-numbered 3 (unless (is_whole numbers_per_span L.spans && is_whole numbers_per_boundary L.boundaries && is_whole numbers_per_anchor L.anchors)) (omega arith))
    (more (refusal-numbered 16 (lists_fault L.spans L.boundaries) (omega arith))
    (more (spans-numbered L.width L.height L.spans)
    (more (refusal-numbered 7 (boundaries_fault L.width L.height L.boundaries) (omega arith))
    (more (refusal-numbered 8 (anchors_fault L.width L.height L.anchors) (omega arith))
    (more (refusal-numbered 9 (elevations_fault L.cells) (omega arith))
    (more (refusal-numbered 10 (unless (partition_has_room L && output_room (length L.boundaries / numbers_per_boundary) (length L.output))) (omega arith))
    (more (refusal-numbered 11 (records_fault L (start_map (map_in L))) (omega arith))
    (more (refusal-numbered 12 (pairs_fault L (start_map (map_in L))) (omega arith)) done))))))))))

checks-passed : (L : Lent) → All (λ r. r ≡ None) (checks L) → RestAccepted L
checks-passed L (more one (more two (more three (more sixteen (more five (more seven (more eight (more nine (more ten (more eleven (more twelve done))))))))))) =
    record {
      checked =
          record {
            sides = refusal_none 1 _ one;
            cells = refusal_none 2 _ two;
            whole = no_fault_lem _ 0 (refusal_none 3 _ three);
            lists = refusal_none 16 _ sixteen;
            spans = five;
            boundaries = refusal_none 7 _ seven;
            anchors = refusal_none 8 _ eight;
            elevations = refusal_none 9 _ nine;
            room = no_fault_lem _ 0 (refusal_none 10 _ ten);
          };
      records = refusal_none 11 _ eleven;
      pairs = refusal_none 12 _ twelve;
    }

pub rest-accepted : (L : Lent) → (rest_verdict L).number ≡ 0 → RestAccepted L
rest-accepted L h = checks-passed L (none_refused (length (rest_rows (map_in L))) (checks-numbered L) (unfold rest_verdict in h))

pub all_none : {l : List (Option Refusal)} (count : ℕ) → All (λ r. r ≡ None) l → first_refusal l count ≡ record { number = 0; value = count }
all_none count done = refl
all_none count (more {l = l} e a) = ap (λ r. first_refusal (r ∷ l) count) e ∙ all_none count a

-- checks that find nothing are passed over
pub skip : {l : List (Option Refusal)} (m : List (Option Refusal)) (count : ℕ) → All (λ r. r ≡ None) l → first_refusal (l ++ m) count ≡ first_refusal m count
skip m count done = refl
skip m count (more {l = l} e a) = ap (λ r. first_refusal (r ∷ (l ++ m)) count) e ∙ skip m count a

-- what 11 and 12 say of a run whose first pass takes this map
abbrev pub two_faults : Lent → Map → List (Option Refusal)
two_faults L M = refusal 11 (records_fault L M) ∷ refusal 12 (pairs_fault L M) ∷ []

-- a run that no check before 11 refuses answers by 11, 12 and its rows
pub checked-answer : (L : Lent) → RestChecked L
    → rest_verdict L ≡ with_rounds (first_refusal (two_faults L (start_map (map_in L))) (length (rest_rows (map_in L)))) (rounds_of (map_in L))
unfolding rest_verdict
checked-answer L A =
    ap (λ b. with_rounds b (rounds_of (map_in L)))
    (skip (two_faults L (start_map (map_in L))) (length (rest_rows (map_in L)))
    (more (ap (refusal 1) A.sides)
    (more (ap (refusal 2) A.cells)
    (more (ap (λ b. refusal 3 (unless b)) A.whole)
    (more (ap (refusal 16) A.lists)
    (more A.spans
    (more (ap (refusal 7) A.boundaries)
    (more (ap (refusal 8) A.anchors) (more (ap (refusal 9) A.elevations) (more (ap (λ b. refusal 10 (unless b)) A.room) done))))))))))

-- an accepted run answers with its count of rows and its rounds
pub accepted-answer : (L : Lent) → (rest_verdict L).number ≡ 0
    → rest_verdict L ≡ record { number = 0; value = length (rest_rows (map_in L)); rounds = rounds_of (map_in L) }
unfolding rest_verdict
accepted-answer L h =
    let kept = length (rest_rows (map_in L)) in
    ap (λ b. with_rounds b (rounds_of (map_in L))) (all_none kept (none_refused kept (checks-numbered L) h))

-- a call without a fault answers with its count of rows
pub verdict_of_lem : (I : Lent) → Accepted I → verdict I ≡ record { number = 0; value = length (rows_of I.pass (map_in I)) }
unfolding verdict
verdict_of_lem I B =
    rw (B.sides, B.cells, B.whole, B.pass, B.spans, B.boundaries, B.anchors, B.elevations, B.room, B.records, B.pairs) refl
