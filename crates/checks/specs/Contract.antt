-- What the check of spans says of one span. Assumes nothing.
use Rattle.std.specs.Prelude.{ℕ, ◌*◌, not, List, Option}
use Rattle.definitions.specs.Limits.{numbers_per_span}
use Rattle.definitions.specs.Scan.{only_if}
use Rattle.definitions.specs.Grid.{Segment, segment_at}
use Rattle.definitions.specs.Refusals.{Refusal, or_else, both_on_map, endpoints_differ}

-- 5: "span endpoint above 8 × width or 8 × height"; 6: "span endpoints equal". "Numbers 5 and 6 are tested span by span, 5 first."
abbrev pub segment_refusal : ℕ → ℕ → Segment → ℕ → Option Refusal
segment_refusal w h s i =
    or_else (only_if (not (both_on_map w h s)) (record { number = 5; place = i })) (only_if (not (endpoints_differ s)) (record { number = 6; place = i }))

-- both, of span i
abbrev pub span_refusal : ℕ → ℕ → List ℕ → ℕ → Option Refusal
span_refusal w h spans i = segment_refusal w h (segment_at spans (numbers_per_span * i)) i
