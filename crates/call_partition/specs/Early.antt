-- The first refusal of checks 1 to 10 of the call that runs a pass: all that it can be refused with before it begins. Assumes nothing.
use Rattle.std.specs.Prelude.{ℕ, ◌*◌, ◌/◌, ◌%◌, Bool, ◌&&◌, List, length, eqb, leb, Option}
use Rattle.definitions.specs.Limits.{max_entries, numbers_per_span, numbers_per_boundary, numbers_per_anchor}
use Rattle.definitions.specs.Refusals.{Refusal, or_else, unless, sides_fault, cells_fault, is_whole, pass_fault, spans_refusal, boundaries_fault, anchors_fault, elevations_fault, partition_room, output_room}
use Rattle.definitions.specs.Verdict.{refusal}

-- check 3, of a list of so many numbers
abbrev pub is_whole_of : ℕ → ℕ → Bool
is_whole_of size numbers = eqb (numbers % size) 0 && leb (numbers / size) max_entries

-- checks 1 to 3
unfoldable pub whole_refusal : ℕ → ℕ → List ℕ → List ℕ → List ℕ → List ℕ → Option Refusal
whole_refusal w h cells spans boundaries anchors =
    or_else (refusal 1 (sides_fault w h))
    (or_else (refusal 2 (cells_fault w h cells))
    (refusal 3 (unless (is_whole numbers_per_span spans && is_whole numbers_per_boundary boundaries && is_whole numbers_per_anchor anchors))))

-- checks 1 to 4
unfoldable pub sizes_refusal : ℕ → ℕ → ℕ → List ℕ → List ℕ → List ℕ → List ℕ → Option Refusal
sizes_refusal pass w h cells spans boundaries anchors =
    or_else (refusal 1 (sides_fault w h))
    (or_else (refusal 2 (cells_fault w h cells))
    (or_else (refusal 3 (unless (is_whole numbers_per_span spans && is_whole numbers_per_boundary boundaries && is_whole numbers_per_anchor anchors))) (refusal 4 (pass_fault pass))))

-- checks 5 to 9
unfoldable pub entries_refusal : ℕ → ℕ → List ℕ → List ℕ → List ℕ → List ℕ → Option Refusal
unfolding spans_refusal boundaries_fault anchors_fault elevations_fault
entries_refusal w h cells spans boundaries anchors =
    or_else (spans_refusal w h spans)
    (or_else (refusal 7 (boundaries_fault w h boundaries)) (or_else (refusal 8 (anchors_fault w h anchors)) (refusal 9 (elevations_fault cells))))

-- check 10, of labels, masks, queue, tallies and output of these lengths
abbrev pub has_room_lem : ℕ → ℕ → List ℕ → List ℕ → ℕ → ℕ → ℕ → ℕ → ℕ → Bool
has_room_lem w h spans boundaries labels masks queue tallies output =
    partition_room (w * h) (length spans / numbers_per_span) labels masks queue tallies && output_room (length boundaries / numbers_per_boundary) output

-- checks 5 to 10
abbrev pub lists_refusal : ℕ → ℕ → List ℕ → List ℕ → List ℕ → List ℕ → ℕ → ℕ → ℕ → ℕ → ℕ → Option Refusal
lists_refusal w h cells spans boundaries anchors labels masks queue tallies output =
    or_else (entries_refusal w h cells spans boundaries anchors) (refusal 10 (unless (has_room_lem w h spans boundaries labels masks queue tallies output)))

unfoldable pub early_refusal : ℕ → ℕ → ℕ → List ℕ → List ℕ → List ℕ → List ℕ → ℕ → ℕ → ℕ → ℕ → ℕ → Option Refusal
unfolding sizes_refusal entries_refusal
early_refusal pass w h cells spans boundaries anchors labels masks queue tallies output =
    or_else (sizes_refusal pass w h cells spans boundaries anchors) (lists_refusal w h cells spans boundaries anchors labels masks queue tallies output)
