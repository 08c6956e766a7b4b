-- The tests that junctions.rs makes of a union's two regions when it ranks the union, as the Rust writes them, and that they are `union_regions`. The argument: a region
-- without a record has no cell, and is then within no radius; of two with cells, dominance by percent is the Rust's (ElevationMasks); all else is the same test by test.
-- Assumes nothing.
use Rattle.std.specs.Prelude.{ℕ, ◌+◌, ◌≡◌, Bool, ◌&&◌, ◌||◌, Option, None, Some}
use Rattle.std.proofs.Common.{arith, ap, ◌∙◌}
use Rattle.std.proofs.Math.Path.{refl, sym}
use Rattle.std.proofs.Math.Bool.{true, false, not, cond}
use Rattle.std.proofs.Math.Dec.{eqb, ltb}
use Rattle.std.specs.Float.Ieee.{le}
use borrow.Author.Tests.{ltb-true, lt-ltb}
use Rattle.definitions.specs.Scan.{all, only_if}
use Rattle.definitions.specs.Grid.{Segment, Pair}
use Rattle.definitions.specs.Geometry.{point, center, point_segment_distance}
use Rattle.definitions.specs.RegionRecord.{Region, has_ramp, corners, same_dominance, strictly_flat}
use Rattle.definitions.specs.Context.{Context}
use Rattle.definitions.specs.Junctions.{max_union_radius_pixels, within_radius, within_span_radius, anchored_regions, union_regions}
use Rattle.laws.specs.ListLaws.Tests.{and_fails}
use Rattle.laws.specs.RustJunctions.JunctionProposals.{UnionStruct}
use Rattle.laws.specs.RustContext.ElevationMasks.{strictly_flat_mask, dominant_same, strictly_flat_is, dominant_same_is}
use Rattle.laws.specs.RustJunctions.Bridges.{stats_of, radius_empty}
use Rattle.laws.specs.RustJunctions.Unions.{proposed}

-- ---- as the Rust writes it

module _ (C : Context) where
  --     let local = if proposal.anchored_regions == 1 {
  --         within_span_radius(first, &boundaries[proposal.index]) && within_span_radius(second, &boundaries[proposal.index])
  --     } else {
  --         within_radius(first, center(&boundaries[proposal.index])) && within_radius(second, center(&boundaries[proposal.index]))
  --     };
  unfoldable pub union_is_local : UnionStruct → Region → Region → Bool
  union_is_local x first second =
      let ends = (C.boundary x.index).endpoints in
      cond (eqb x.anchored_regions 1) (within_span_radius first ends && within_span_radius second ends) (within_radius first (center ends) && within_radius second (center ends))

  --     let (Some(first), Some(second)) = (ctx.stats.get(&proposal.pair[0]), ctx.stats.get(&proposal.pair[1])) else { continue; };
  --     let strictly_flat = (first.elevations | second.elevations).count_ones() == 1;
  --     let near_flat = proposal.anchored_regions == 1
  --         && dominant_elevation(first).zip(dominant_elevation(second)).is_some_and(|(a, b)| a == b);
  --     if first.cells + second.cells > 0 && !first.has_ramp && !second.has_ramp && local && (strictly_flat || near_flat) { .. }
  abbrev pub union_passes_in : UnionStruct → Option Region → Option Region → Bool
  union_passes_in x None t = false
  union_passes_in x (Some first) None = false
  union_passes_in x (Some first) (Some second) =
      ltb 0 (first.cells + second.cells) && not (has_ramp first) && not (has_ramp second) && union_is_local x first second
      && (strictly_flat_mask first second || eqb x.anchored_regions 1 && dominant_same first second)

  unfoldable pub union_passes : UnionStruct → Bool
  union_passes x = union_passes_in x (stats_of C x.pair.lo) (stats_of C x.pair.hi)

-- ---- and that it is the same

span-empty : (s : Region) (g : Segment) → ltb 0 s.cells ≡ false → within_span_radius s g ≡ false
unfolding within_span_radius
span-empty s g h = λ t. h t && all (λ c. le (point_segment_distance c (point g.a) (point g.b)) max_union_radius_pixels) (corners s)

module _ (C : Context) (i : ℕ) (p : Pair) where
  abbrev first : Region
  first = C.region p.lo

  abbrev second : Region
  second = C.region p.hi

  abbrev ends : Segment
  ends = (C.boundary i).endpoints

  abbrev local : Bool
  local = union_is_local C (proposed C i p) first second

  never-local : (one x y : Bool) → cond one (x && false) (y && false) ≡ false
  never-local true true y = refl
  never-local true false y = refl
  never-local false x true = refl
  never-local false x false = refl

  neither : (one : Bool) → cond one false false ≡ false
  neither true = refl
  neither false = refl

  local_first : ltb 0 first.cells ≡ false → local ≡ false
  unfolding union_is_local
  local_first h =
      (λ t. cond (eqb (anchored_regions C p) 1) (span-empty first ends h t && within_span_radius second ends) (radius_empty first (center ends) h t && within_radius second (center ends)))
      ∙ neither (eqb (anchored_regions C p) 1)

  local_second : ltb 0 second.cells ≡ false → local ≡ false
  unfolding union_is_local
  local_second h =
      (λ t. cond (eqb (anchored_regions C p) 1) (within_span_radius first ends && span-empty second ends h t) (within_radius first (center ends) && radius_empty second (center ends) h t))
      ∙ never-local (eqb (anchored_regions C p) 1) (within_span_radius first ends) (within_radius first (center ends))

  -- by the tests that are made of two records: whether they are near, and whether one elevation dominates both
  abbrev pub regions_by : Bool → Bool → Bool
  regions_by near same = not (has_ramp first) && not (has_ramp second) && near && (strictly_flat first second || eqb (anchored_regions C p) 1 && same)

  regions_is : union_regions C i p ≡ regions_by local (same_dominance first second)
  unfolding union_regions union_is_local
  regions_is = refl

  nowhere : (near same : Bool) → near ≡ false → regions_by near same ≡ false
  nowhere near same h =
      ap (λ b. not (has_ramp first) && not (has_ramp second) && b && (strictly_flat first second || eqb (anchored_regions C p) 1 && same)) h
      ∙ sym (and_fails (not (has_ramp first) && not (has_ramp second)) (strictly_flat first second || eqb (anchored_regions C p) 1 && same))

  -- what unions accept at 99 percent is what they accept by the Rust's dominant elevations, of every context: where a region has no cell, nothing is local
  pub regions_as_before : union_regions C i p ≡ regions_by local (dominant_same first second)
  regions_as_before = regions_is ∙ go (ltb 0 first.cells) refl (ltb 0 second.cells) refl
    where
      neither-way : local ≡ false → regions_by local (same_dominance first second) ≡ regions_by local (dominant_same first second)
      neither-way h = nowhere local (same_dominance first second) h ∙ sym (nowhere local (dominant_same first second) h)

      go : (a : Bool) → ltb 0 first.cells ≡ a → (b : Bool) → ltb 0 second.cells ≡ b → regions_by local (same_dominance first second) ≡ regions_by local (dominant_same first second)
      go true e true f = ap (regions_by local) (sym (dominant_same_is first second (ltb-true 0 first.cells e) (ltb-true 0 second.cells f)))
      go true e false f = neither-way (local_second f)
      go false e b f = neither-way (local_first e)

  not_local : local ≡ false → false ≡ union_regions C i p
  not_local h = sym (regions_is ∙ nowhere local (same_dominance first second) h)

  pub passes_is : union_passes C (proposed C i p) ≡ union_regions C i p
  unfolding union_passes
  passes_is = go (ltb 0 first.cells) refl (ltb 0 second.cells) refl
    where
      go : (a : Bool) → ltb 0 first.cells ≡ a → (b : Bool) → ltb 0 second.cells ≡ b → union_passes_in C (proposed C i p) (only_if a first) (only_if b second) ≡ union_regions C i p
      go true e true f =
          (λ t. lt-ltb 0 (first.cells + second.cells) (omega (arith, ltb-true 0 first.cells e)) t && not (has_ramp first) && not (has_ramp second) && local
          && (strictly_flat_is first second t || eqb (anchored_regions C p) 1 && dominant_same first second))
          ∙ sym regions_as_before
      go true e false f = not_local (local_second f)
      go false e b f = not_local (local_first e)
