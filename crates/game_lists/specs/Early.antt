-- The first refusal of the call before its first partition: 1 to 4, 16, and 5 to 10. Definitions only; assumes nothing.
use Rattle.std.specs.Prelude.{ℕ, List, leb, Option}
use Rattle.definitions.specs.Refusals.{Refusal, or_else, unless}
use Rattle.definitions.specs.Verdict.{refusal}
use Rattle.call_partition.specs.Early.{sizes_refusal, early_refusal}
use Rattle.rest_definitions.specs.RestVerdict.{lists_fault}
use Rattle.game.specs.Graph.{verdicts_room}

-- The checks of a pass, with 16 behind those of the sizes, and room for the verdicts behind all.
unfoldable pub game_early : ℕ → ℕ → ℕ → List ℕ → List ℕ → List ℕ → List ℕ → ℕ → ℕ → ℕ → ℕ → ℕ → ℕ → Option Refusal
unfolding sizes_refusal lists_fault early_refusal
game_early pass w h cells spans boundaries anchors labels masks queue tallies output verdicts =
    or_else (sizes_refusal pass w h cells spans boundaries anchors)
    (or_else (refusal 16 (lists_fault spans boundaries))
    (or_else (early_refusal pass w h cells spans boundaries anchors labels masks queue tallies output) (refusal 10 (unless (leb verdicts_room verdicts)))))
