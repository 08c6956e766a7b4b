-- The inner regions of a proposal by the places of the mouth's rows. Definitions only; assumes nothing.
use Rattle.std.specs.Prelude.{ℕ, ◌+◌, ◌-◌, ◌*◌, ◌/◌, ◌%◌, Bool, true, cond, List, get_or, eqb, Option, None, Some}
use Rattle.context.specs.Shown.{pair_at}
use Rattle.mouth_proposals.specs.Rows.{is_outer}

-- two places a row
abbrev pub places_of : List ℕ → ℕ → ℕ
places_of starts m = 2 * (get_or starts (m + 1) 0 - get_or starts m 0)

-- the region at place k from row `first` on: the smaller of a row, then the larger
abbrev pub region_at : List ℕ → ℕ → ℕ → ℕ
region_at pairs first k = cond (eqb (k % 2) 0) (pair_at pairs (first + k / 2)).lo (pair_at pairs (first + k / 2)).hi

-- none for the region outside, if there is one
abbrev pub inner_at : List ℕ → List ℕ → ℕ → Option ℕ → ℕ → Option ℕ
inner_at pairs starts m outer k =
    cond (is_outer outer (region_at pairs (get_or starts m 0) k)) None (Some (region_at pairs (get_or starts m 0) k))

-- f holds of the region, if there is one
abbrev pub passes : (ℕ → Bool) → Option ℕ → Bool
passes f None = true
passes f (Some r) = f r
