-- The context of a map is checked (CheckedContext), if the map is at most 1,024 cells wide and its boundaries have kinds up to 2 and elevations up to 7, as the table of
-- refusals has it. The argument: a mask of four bits is below 16, and an edge of a region is a pixel of the map, which a double holds exactly. Assumes nothing.
use Rattle.std.specs.Prelude.{ℕ, ◌+◌, ◌*◌, ◌%◌, ◌^◌, ◌<◌, ◌≤◌, ◌≡◌, Bool, true, false, ◌&&◌, pos, T, ltb, get_or, Float}
use native.Mathlib.Omega.{arith}
use Rattle.std.proofs.Common.{mod-lt, mul-zero, le→leb, ltb-true, ltb-false}
use Rattle.std.proofs.Math.Path.{refl}
use Rattle.std.proofs.Math.Dec.{eqb}
use Rattle.std.specs.Float.{nan, inf, fin, binary64}
use Rattle.std.specs.Float.Ieee.{of_int, in_float, in_unsigned}
use Rattle.std.specs.Float.Ieee.Scale.{finite}
use Rattle.std.specs.Float.Ieee.Back.{unsigned_back}
use Rattle.definitions.specs.Scan.{any_below_lem, bit}
use Rattle.definitions.specs.Grid.{Map, Boundary, no_boundary, boundary_of, cell_count, cell_at, elevation}
use Rattle.definitions.specs.Spans.{pixels_per_walk_cell}
use Rattle.definitions.specs.Geometry.{float}
use Rattle.definitions.specs.RegionRecord.{least, mask_of, region_of}
use Rattle.definitions.specs.Partition.{labels}
use Rattle.definitions.specs.Context.{context_of}
use Rattle.laws.specs.ListLaws.Lists.{All}
use Rattle.laws.specs.ListLaws.Members.{all_default}
use Rattle.laws.specs.RegionLaws.Edges.{least_le}
use Rattle.laws.specs.RustContext.CheckedContext.{Checked}

-- `kind over 2`, `elevation over 7`: refusal 7
pub record CheckedBoundary (b : Boundary) : Type 0 where
  pub kind : b.kind ≤ 2
  pub lower : b.lower < 8
  pub upper : b.upper < 8

-- ---- edges are finite

finite-unsigned : (x : Float) (w : ℕ) → T (in_unsigned binary64 w x) → finite x ≡ true
unfolding in_unsigned
finite-unsigned nan w t = absurd t
finite-unsigned (inf s) w t = absurd t
finite-unsigned (fin s m e) w t = refl

float-finite : (n : ℕ) → n < 2 ^ 53 → finite (float n) ≡ true
unfolding float
float-finite n h = finite-unsigned (of_int binary64 (pos n)) 53 (unsigned_back binary64 53 n (whole n h) h).0
  where
    whole : (n : ℕ) → n < 2 ^ 53 → T (in_float binary64 (pos n))
    whole n h = unfold in_float in (le→leb n (2 ^ 53) (omega arith))

mask_below : (p : ℕ → Bool) → mask_of p < 16
mask_below p = go (p 0) (p 1) (p 2) (p 3)
  where
    bits : (b : Bool) → bit b ≤ 1
    bits true = omega arith
    bits false = omega arith

    go : (a b c d : Bool) → bit a + 2 * bit b + 4 * bit c + 8 * bit d < 16
    go a b c d = omega (arith, bits a, bits b, bits c, bits d)

module _ (M : Map) where
  column-within : M.width ≤ 1024 → (c : ℕ) → c < cell_count M → c % M.width * pixels_per_walk_cell ≤ 8192
  unfolding cell_count
  column-within w c h = go (ltb 0 M.width) refl
    where
      empty : (n : ℕ) → n ≡ 0 → M.height * n ≡ 0
      empty n e = rw e (mul-zero M.height)

      go : (b : Bool) → ltb 0 M.width ≡ b → c % M.width * pixels_per_walk_cell ≤ 8192
      go true e = omega (arith, mod-lt c (ltb-true 0 M.width e))
      go false e = absurd (omega (arith, empty M.width (omega (arith, ltb-false 0 M.width e))))

  boundary-checked : All CheckedBoundary M.boundaries → (i : ℕ) → CheckedBoundary (boundary_of M i)
  unfolding boundary_of
  boundary-checked a i = all_default {P = CheckedBoundary} no_boundary (record { kind = omega arith; lower = omega arith; upper = omega arith }) a i

  pub map-checked : M.width ≤ 1024 → All CheckedBoundary M.boundaries → Checked (context_of M)
  unfolding context_of region_of
  map-checked w a =
      record {
        kinds = λ i h. (boundary-checked a i).kind;
        lowers = λ i h. (boundary-checked a i).lower;
        uppers = λ i h. (boundary-checked a i).upper;
        masks = λ r. mask_below (λ e. any_below_lem (cell_count M) (λ c. eqb (get_or (labels M) c 0) r && eqb (elevation (cell_at M c)) e));
        measured = λ r. float-finite (least (cell_count M) (λ c. eqb (get_or (labels M) c 0) r) (λ c. c % M.width * pixels_per_walk_cell)) (omega (arith, least_le (cell_count M) (λ c. eqb (get_or (labels M) c 0) r) (λ c. c % M.width * pixels_per_walk_cell) 8192 (column-within w)));
      }
