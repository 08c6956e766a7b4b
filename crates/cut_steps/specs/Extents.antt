-- The words of ranges that leave out what a span's steps cannot reach. Definitions only; assumes nothing.
use Rattle.std.specs.Prelude.{ℕ, ◌+◌, ◌-◌, ◌*◌, ◌≤◌, ◌<◌, ◌≡◌, ◌⊎◌, cond, List, []}
use Rattle.definitions.specs.Scan.{concat_map}
use Rattle.definitions.specs.Grid.{Pair}
use Rattle.definitions.specs.Spans.{range_inclusive, candidate_axis_range}
use Rattle.span_geometry.specs.declared.strips.CandidateRange.{CandidateRange}
use Rattle.span_geometry.specs.declared.strips.Strip.{Strip}

-- no step from place m reaches the pixels from `least` to `greatest`: the middle of the place after m is at 8 m + 12, and that of the one before it at 8 m - 4
abbrev pub Beyond : (least greatest m : ℕ) → Type 0
Beyond least greatest m = (8 * m + 12 < least) ⊎ (greatest + 4 < 8 * m)

-- what is joined over all numbers is joined over the near ones, if the places beyond these pixels have nothing
abbrev pub Covers : (least greatest : ℕ) (near all : List ℕ) → Type 0
Covers least greatest near all = (f : ℕ → List Pair) → ((m : ℕ) → Beyond least greatest m → f m ≡ []) → concat_map f near ≡ concat_map f all

pub record Narrows (least greatest : ℕ) (all near : CandidateRange) : Type 0 where
  pub below : near.last ≤ all.last
  pub covers : Covers least greatest (range_inclusive near.first near.last) (range_inclusive all.first all.last)

-- the last pixel of a strip, for places behind it: 8 less along rows, since steps to cells of larger number lead to no row before their own
abbrev pub last_reached : Strip → ℕ
last_reached t = cond t.columns t.major1 (t.major1 - 8)

-- the columns, or rows, of a range are below the limit, and have all that the candidates have, if those beyond the strip have nothing
pub record NearAxis (t : Strip) (limit : ℕ) (r : CandidateRange) : Type 0 where
  pub below : r.last < limit
  pub covers : Covers t.major0 (last_reached t) (range_inclusive r.first r.last) (candidate_axis_range t.major0 t.major1 limit)
