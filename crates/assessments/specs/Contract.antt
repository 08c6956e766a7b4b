-- What the assessment of all spans answers, and leaves in the lent lists. Definitions only; assumes nothing.
use Rattle.std.specs.Prelude.{ℕ, ◌*◌, ◌/◌, ◌≤◌, ◌<◌, ◌≡◌, List, length, get_or, Option, None, Some}
use Rattle.definitions.specs.Limits.{max_entries, numbers_per_span, tallies_per_span, numbers_per_pair}
use Rattle.definitions.specs.Lists.{overwrite}
use Rattle.definitions.specs.Grid.{Map}
use Rattle.definitions.specs.Partition as partition
use Rattle.definitions.specs.Context.{context_of}
use Rattle.definitions.specs.Verdict.{pair_rows_of}
use Rattle.definitions.specs.AtExit.{tallies_of}
use Rattle.cut_steps.specs.Contract.{SpanMap}
use Rattle.cut_steps.specs.Marking.{SpansShown}
use Rattle.assessments.specs.Held.{room_of}

-- "At most 256 spans"; masks with the cut steps of each; a label for each cell; "tallies (2 per span)"
pub record AssessAsked (w h : ℕ) (cells masks spans labels tallies : List ℕ) : Type 0 where
  pub few : length spans / numbers_per_span ≤ max_entries
  pub shown : SpansShown w h cells spans masks
  pub labels_long : h * w ≤ length labels
  pub tallies_long : tallies_per_span * (length spans / numbers_per_span) ≤ length tallies

-- What the answer says of the rows of all pairs: the list of pairs, lent as `old`, has room for them, holds them, and the answer is their number; or they are too
-- many (12: "more pairs than rows"). In that case what the list holds is left free, and the caller clears it.
abbrev pub Answers : Option ℕ → (rows old now : List ℕ) → Type 0
Answers (Some count) rows old now = (length rows ≤ room_of old * numbers_per_pair) × (numbers_per_pair * count ≡ length rows) × (now ≡ overwrite rows old)
Answers None rows old now = (room_of old * numbers_per_pair < length rows) × (length now ≡ length old)

-- the lent labels are those of the map
abbrev pub Labelled : ℕ → List ℕ → Map → Type 0
Labelled cells labels M = (c : ℕ) → c < cells → get_or labels c 0 ≡ get_or (partition.labels M) c 0

pub record AssessedAs (M : Map) (tallies₀ pairs₀ tallies pairs : List ℕ) (r : Option ℕ) : Type 0 where
  pub counts : tallies ≡ overwrite (tallies_of (context_of M)) tallies₀
  pub answer : Answers r (pair_rows_of (context_of M)) pairs₀ pairs

-- of every map with these cells and spans and these labels
abbrev pub SpansAssessed : (w h : ℕ) (cells spans labels tallies₀ pairs₀ tallies pairs : List ℕ) → Option ℕ → Type 0
SpansAssessed w h cells spans labels tallies₀ pairs₀ tallies pairs r = (M : Map) → SpanMap w h cells spans M → Labelled (h * w) labels M → AssessedAs M tallies₀ pairs₀ tallies pairs r
