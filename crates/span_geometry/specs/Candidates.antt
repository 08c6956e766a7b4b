-- A walk over a strip visits the candidate positions of its segment, in their order: by columns where x is the major axis, by rows where y is.
-- The definition takes the least and the greatest coordinate along the major axis, which are those of the strip's two ends. Assumes nothing.
use Rattle.std.specs.Prelude.{◌≡◌, refl, Bool, true, false, cond, List, map, ℕ, ◌≤◌, ◌<◌, min, max, leb}
use Rattle.std.proofs.Math.Path.{ap}
use Rattle.std.proofs.Common.{◌∙◌, arith, leb-true, leb-false}
use Rattle.definitions.specs.Scan.{concat_map}
use Rattle.definitions.specs.Grid.{Position, at, Segment}
use Rattle.definitions.specs.Spans.{candidate_axis_range, candidate_minor_range, candidate_positions}
use Rattle.span_geometry.specs.declared.strips.Strip.{Strip}
use Rattle.span_geometry.specs.Strips.{by_columns, strip_by_columns, strip_by_rows, strip_of, line_of}

-- the cell at k along the major axis and m across it
abbrev pub cell_of : Strip → ℕ → ℕ → Position
cell_of t k m = cond t.columns (at k m) (at m k)

-- how many cells a map of these sides has along the major axis, and across it
abbrev pub major_side : Strip → ℕ → ℕ → ℕ
major_side t w h = cond t.columns w h

abbrev pub minor_side : Strip → ℕ → ℕ → ℕ
minor_side t w h = cond t.columns h w

-- the cells near the strip's line, from a least to a greatest pixel along the major axis
abbrev pub walked_from : ℕ → ℕ → Strip → ℕ → ℕ → List Position
walked_from w h t least greatest =
    concat_map (λ k. map (cell_of t k) (candidate_minor_range (line_of t k) (minor_side t w h))) (candidate_axis_range least greatest (major_side t w h))

abbrev pub walked : ℕ → ℕ → Strip → List Position
walked w h t = walked_from w h t t.major0 t.major1

module _ (w h : ℕ) (s : Segment) where
  -- the definition's two cases
  abbrev cases : Bool → List Position
  cases t = cond t (walked_from w h (strip_by_columns s) (min s.a.x s.b.x) (max s.a.x s.b.x)) (walked_from w h (strip_by_rows s) (min s.a.y s.b.y) (max s.a.y s.b.y))

  by_cases : {t : Bool} → by_columns s ≡ t → candidate_positions w h s ≡ cases t
  unfolding candidate_positions
  by_cases e = ap cases e

  pub candidates-by_columns : s.a.x ≤ s.b.x → by_columns s ≡ true → candidate_positions w h s ≡ walked w h (strip_by_columns s)
  candidates-by_columns o e = by_cases e ∙ (λ i. walked_from w h (strip_by_columns s) (least i) (greatest i))
    where
      least : min s.a.x s.b.x ≡ s.a.x
      least = omega arith

      greatest : max s.a.x s.b.x ≡ s.b.x
      greatest = omega arith

  ends : (t : Bool) → (t ≡ true → s.a.y ≤ s.b.y) → (t ≡ false → s.b.y < s.a.y) → (min s.a.y s.b.y ≡ (cond t s.a s.b).y) × (max s.a.y s.b.y ≡ (cond t s.b s.a).y)
  ends true f g = let o : s.a.y ≤ s.b.y = f refl in omega arith
  ends false f g = let o : s.b.y < s.a.y = g refl in omega arith

  pub candidates-by_rows : by_columns s ≡ false → candidate_positions w h s ≡ walked w h (strip_by_rows s)
  candidates-by_rows e =
      let y = ends (leb s.a.y s.b.y) (leb-true s.a.y s.b.y) (leb-false s.a.y s.b.y) in
      by_cases e ∙ (λ i. walked_from w h (strip_by_rows s) (y.0 i) (y.1 i))

  pub candidates_by_strip : s.a.x ≤ s.b.x → candidate_positions w h s ≡ walked w h (strip_of s)
  candidates_by_strip o = go (by_columns s) refl
    where
      go : (t : Bool) → by_columns s ≡ t → candidate_positions w h s ≡ walked w h (cond t (strip_by_columns s) (strip_by_rows s))
      go true e = candidates-by_columns o e
      go false e = candidates-by_rows e
