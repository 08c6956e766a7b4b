-- Parts of a desk's own checks, as the code takes them. Assumes nothing.
use Rattle.std.specs.Prelude.{ℕ, ◌*◌, ◌/◌, Bool, ◌&&◌, List, length, ltb, Option}
use Rattle.definitions.specs.Limits.{numbers_per_span, numbers_per_boundary}
use Rattle.definitions.specs.Grid.{segment_at}
use Rattle.definitions.specs.Refusals.{Refusal, or_else, unless, boundaries_fault, anchors_fault, output_room}
use Rattle.definitions.specs.Verdict.{refusal}
use Rattle.desks.specs.Desks.{is_span, desk_fault}

-- the boundary and the span of number i are there, and lie on each other
abbrev pub lies_on : List ℕ → List ℕ → ℕ → Bool
lies_on spans boundaries i =
    ltb i (length spans / numbers_per_span) && ltb i (length boundaries / numbers_per_boundary)
    && is_span (segment_at boundaries (numbers_per_boundary * i)) (segment_at spans (numbers_per_span * i))

-- 7, 20, 8 and 10
abbrev pub places_refusal : ℕ → ℕ → List ℕ → List ℕ → List ℕ → ℕ → Option Refusal
places_refusal w h spans boundaries anchors output =
    or_else (refusal 7 (boundaries_fault w h boundaries))
    (or_else (refusal 20 (desk_fault spans boundaries))
    (or_else (refusal 8 (anchors_fault w h anchors)) (refusal 10 (unless (output_room (length boundaries / numbers_per_boundary) output)))))
