-- The first refusal of a run to rest before its first pass: 1 to 3, 16, and 5 to 10. Definitions only; assumes nothing.
use Rattle.std.specs.Prelude.{ℕ, ◌*◌, ◌/◌, Bool, ◌&&◌, List, length, ltb, Option}
use Rattle.definitions.specs.Limits.{numbers_per_span, numbers_per_boundary}
use Rattle.definitions.specs.Grid.{segment_at}
use Rattle.definitions.specs.Refusals.{Refusal, or_else, unless}
use Rattle.definitions.specs.Verdict.{refusal}
use Rattle.call_partition.specs.Early.{sizes_refusal, entries_refusal, has_room_lem}
use Rattle.rest_definitions.specs.RestVerdict.{same_point_lem, lists_fault}

-- both lists have an entry i, with the same endpoints as written
abbrev pub agrees_at : List ℕ → List ℕ → ℕ → Bool
agrees_at spans boundaries i =
    let s = segment_at spans (numbers_per_span * i) in
    let b = segment_at boundaries (numbers_per_boundary * i) in
    ltb i (length spans / numbers_per_span) && ltb i (length boundaries / numbers_per_boundary) && same_point_lem s.a b.a && same_point_lem s.b b.b

-- There is no pass to ask for, so that 4 cannot come: pass 1 fits.
unfoldable pub rest_early : ℕ → ℕ → List ℕ → List ℕ → List ℕ → List ℕ → ℕ → ℕ → ℕ → ℕ → ℕ → Option Refusal
unfolding sizes_refusal lists_fault entries_refusal
rest_early w h cells spans boundaries anchors labels masks queue tallies output =
    or_else (sizes_refusal 1 w h cells spans boundaries anchors)
    (or_else (refusal 16 (lists_fault spans boundaries))
    (or_else (entries_refusal w h cells spans boundaries anchors) (refusal 10 (unless (has_room_lem w h spans boundaries labels masks queue tallies output)))))
