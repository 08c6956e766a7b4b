-- The words of this crate's contracts: where the line of a strip passes between the cells of column, or row, k. Definitions only; assumes nothing.
use Rattle.std.specs.Prelude.{ℕ, ◌+◌, ◌-◌, ◌*◌, ◌≤◌, ◌<◌, ◌≡◌, cond, leb}
use Rattle.definitions.specs.Grid.{Segment}
use Rattle.definitions.specs.Spans.{pixels_per_walk_cell, middle_of, distance_between}
use Rattle.span_geometry.specs.declared.strips.Strip.{Strip}
use Rattle.span_geometry.specs.Strips.{by_columns}

abbrev pub run_of : Strip → ℕ
run_of t = t.major1 - t.major0

-- how far the middle of column, or row, k is from the strip's first end
abbrev pub reached : Strip → ℕ → ℕ
reached t k = middle_of k - t.major0

-- the run times the minor coordinate of the line, so far from the first end
abbrev pub line_total : Strip → ℕ → ℕ
line_total t u = t.minor0 * (run_of t - u) + t.minor1 * u

-- the middle of column, or row, k is between the ends
pub record Between (t : Strip) (k : ℕ) : Type 0 where
  pub from : t.major0 ≤ middle_of k
  pub to : middle_of k ≤ t.major1

-- 1 where a centre on the line counts with those before it, 0 where it counts with those past it: a side value of zero counts with the positive side
abbrev pub tie_of : Segment → ℕ
tie_of s = cond (by_columns s) 0 (cond (leb s.a.y s.b.y) 1 0)

-- m is the first place of column, or row, k that is past the line, and `rest` is by how much: its middle times the run, less the line's total
pub record Crossing (t : Strip) (tie k m rest : ℕ) : Type 0 where
  pub total : line_total t (reached t k) + tie + rest ≡ run_of t * middle_of m
  pub less : rest < pixels_per_walk_cell * run_of t

-- the strip is longer along its major axis than across it
abbrev pub Gentle : Strip → Type 0
Gentle t = distance_between t.minor0 t.minor1 ≤ run_of t

-- m and `rest` are those of column, or row, k, and the next is between the ends as well
pub record NextAsked (t : Strip) (tie k m rest : ℕ) : Type 0 where
  pub few : tie ≤ 1
  pub here : Between t k
  pub next : Between t (k + 1)
  pub crossing : Crossing t tie k m rest

-- two first places that follow one another differ by one at most
pub record Close (m n : ℕ) : Type 0 where
  pub up : n ≤ m + 1
  pub down : m ≤ n + 1
