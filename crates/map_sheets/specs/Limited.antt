-- A sheet that is read within one limit of cells is read within any other that its area meets, and is refused 1 at 0 within one that it does not: the limit is asked once
-- both sides are read, and nothing else depends on it. Assumes nothing.
use Rattle.std.specs.Prelude.{ℕ, ◌*◌, ◌≡◌, refl, Bool, true, false, ◌&&◌, cond, List, leb}
use Rattle.std.proofs.Common.{arith, sym, ap, ap₂, subst, ◌∙◌}
use Rattle.definitions.specs.Limits.{is_side, numbers_per_boundary, numbers_per_anchor}
use Rattle.definitions.specs.SheetNumber.{Read, found, failed, number}
use Rattle.definitions.specs.Sheet.{Reader, give, check, and_then, ◌>>=◌, times, kind, cell, entries, has_spans, spans_held, spans_stated, end, Sheet, Reading, well_formed, refused, reading, sheet, read_sheet}
use Rattle.laws.specs.SheetReading.SheetSizes.{Gives, gives_any, gives_value, gives_then}

not-read : {number place : ℕ} {s : Sheet} → refused number place ≡ well_formed s → ⊥
not-read h = let z : ◌≡◌ {A = ℕ} 0 1 = cc in omega arith

-- ---- behind the area

abbrev made : Bool → ℕ → ℕ → ℕ → List ℕ → List ℕ → List ℕ → List ℕ → Sheet
made own pass width height cells spans boundaries anchors =
    record {
      pass = pass;
      width = width;
      height = height;
      cells = cells;
      spans = spans_stated own spans boundaries;
      boundaries = boundaries;
      anchors = anchors;
    }

unfoldable behind : ℕ → ℕ → ℕ → ℕ → ℕ → Reader Sheet
behind written pass width height count = do
  cells ← times count cell
  spans ← spans_held (has_spans written)
  boundaries ← entries numbers_per_boundary
  anchors ← entries numbers_per_anchor
  _ ← end
  give (made (has_spans written) pass width height cells spans boundaries anchors)

record Sides (width height : ℕ) (s : Sheet) : Type 0 where
  pub wide : s.width ≡ width
  pub high : s.height ≡ height

gives_behind : (written pass width height count : ℕ) → Gives (behind written pass width height count) (Sides width height)
unfolding behind
gives_behind written pass width height count =
    gives_then (times count cell) _ _ _ (gives_any (times count cell)) (λ cells _.
    gives_then (spans_held (has_spans written)) _ _ _ (gives_any (spans_held (has_spans written))) (λ spans _.
    gives_then (entries numbers_per_boundary) _ _ _ (gives_any (entries numbers_per_boundary)) (λ boundaries _.
    gives_then (entries numbers_per_anchor) _ _ _ (gives_any (entries numbers_per_anchor)) (λ anchors _.
    gives_then end _ _ _ (gives_any end) (λ _ _. gives_value (Sides width height) _ (record { wide = refl; high = refl }))))))

-- ---- what follows from one limit for another

within : Sheet → ℕ → Reading
within s limit = cond (leb (s.width * s.height) limit) (well_formed s) (refused 1 0)

unfoldable at_area : ℕ → ℕ → ℕ → ℕ → ℕ → Reader Sheet
at_area most written pass width height offset bytes =
    and_then (check (is_side width && is_side height && leb (width * height) most) 1 0 (width * height) offset bytes) (behind written pass width height)

abbrev at_width_lem : ℕ → ℕ → ℕ → Reader Sheet
at_width_lem most written pass offset bytes = and_then (number offset bytes) (λ width o m. and_then (number o m) (at_area most written pass width))

module _ (first limit : ℕ) {s : Sheet} where
  area_limited : (written pass width height offset : ℕ) (bytes : List ℕ) → reading (at_area first written pass width height offset bytes) ≡ well_formed s
      → reading (at_area limit written pass width height offset bytes) ≡ within s limit
  unfolding at_area within
  area_limited written pass width height offset bytes h = go (is_side width && is_side height) (leb (width * height) first) h
    where
      rest : Read Sheet
      rest = behind written pass width height (width * height) offset bytes

      same : (r : Read Sheet) → behind written pass width height (width * height) offset bytes ≡ r → reading r ≡ well_formed s → Sides width height s
      same (found t next m) e q =
          let u : t ≡ s = cc in
          subst (Sides width height) u ((gives_behind written pass width height (width * height)).holds offset bytes e)
      same (failed n place) e q = absurd (not-read q)

      by_limit : (t : Bool) → leb (width * height) limit ≡ t → reading (behind written pass width height (width * height) offset bytes) ≡ well_formed s
          → reading (and_then (check t 1 0 (width * height) offset bytes) (behind written pass width height)) ≡ cond t (well_formed s) (refused 1 0)
      by_limit true e q = q
      by_limit false e q = refl

      go : (sides few : Bool) → reading (and_then (check (sides && few) 1 0 (width * height) offset bytes) (behind written pass width height)) ≡ well_formed s
          → reading (and_then (check (sides && leb (width * height) limit) 1 0 (width * height) offset bytes) (behind written pass width height))
          ≡ cond (leb (s.width * s.height) limit) (well_formed s) (refused 1 0)
      go true true q =
          let S = same (behind written pass width height (width * height) offset bytes) refl q in
          by_limit (leb (width * height) limit) refl q
          ∙ ap (λ n. cond (leb n limit) (well_formed s) (refused 1 0)) (ap₂ ◌*◌ (sym S.wide) (sym S.high))
      go true false q = absurd (not-read q)
      go false few q = absurd (not-read q)

  -- the numbers before it
  height_limited : (written pass width : ℕ) (r : Read ℕ) → reading (and_then r (at_area first written pass width)) ≡ well_formed s
      → reading (and_then r (at_area limit written pass width)) ≡ within s limit
  height_limited written pass width (found height o m) h = area_limited written pass width height o m h
  height_limited written pass width (failed n place) h = absurd (not-read h)

  width_limited : (written pass : ℕ) (r : Read ℕ) → reading (and_then r (λ width o m. and_then (number o m) (at_area first written pass width))) ≡ well_formed s
      → reading (and_then r (λ width o m. and_then (number o m) (at_area limit written pass width))) ≡ within s limit
  width_limited written pass (found width o m) h = height_limited written pass width (number o m) h
  width_limited written pass (failed n place) h = absurd (not-read h)

  pass_limited : (written : ℕ) (r : Read ℕ) → reading (and_then r (at_width_lem first written)) ≡ well_formed s → reading (and_then r (at_width_lem limit written)) ≡ within s limit
  pass_limited written (found pass o m) h = width_limited written pass (number o m) h
  pass_limited written (failed n place) h = absurd (not-read h)

  kind_limited : (r : Read ℕ) → reading (and_then r (λ written o m. and_then (number o m) (at_width_lem first written))) ≡ well_formed s
      → reading (and_then r (λ written o m. and_then (number o m) (at_width_lem limit written))) ≡ within s limit
  kind_limited (found written o m) h = pass_limited written (number o m) h
  kind_limited (failed n place) h = absurd (not-read h)

in_parts : (limit : ℕ) (bytes : List ℕ)
    → read_sheet limit bytes ≡ reading (and_then (kind 0 bytes) (λ written o m. and_then (number o m) (λ pass o m. and_then (number o m) (λ width o m. and_then (number o m)
    (λ height o m. and_then (check (is_side width && is_side height && leb (width * height) limit) 1 0 (width * height) o m) (behind written pass width height))))))
unfolding read_sheet sheet behind
in_parts limit bytes = refl

pub read-within : (first limit : ℕ) (bytes : List ℕ) {s : Sheet} → read_sheet first bytes ≡ well_formed s
    → read_sheet limit bytes ≡ cond (leb (s.width * s.height) limit) (well_formed s) (refused 1 0)
unfolding at_area within
read-within first limit bytes h = in_parts limit bytes ∙ kind_limited first limit (kind 0 bytes) (sym (in_parts first bytes) ∙ h)
