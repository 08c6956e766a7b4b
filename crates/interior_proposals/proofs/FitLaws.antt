-- What the fields of ports and the corners of a region say, by the definitions. Assumes nothing.
use Prim.Native.Nat.{ℕ, ◌*◌, ◌<◌}
use mathlib.Core.Path.{◌≡◌, refl, sym, ap, subst, ◌∙◌}
use mathlib.Core.Bool.{Bool, true, false, not, ◌&&◌, ◌||◌}
use mathlib.Core.List.{List, map}
use lib.ListN.{length}
use Rattle.std.specs.Prelude.{MatchBool}
use Rattle.std.specs.List.{AllWithin, HoldsAt}
use lib.Dec.{eqb}
use lib.Ieee.{le}
use borrow.Author.Tests.{not-true, not-false}
use Rattle.definitions.specs.Limits.{numbers_per_boundary}
use Rattle.definitions.specs.Scan.{all, all_below}
use Rattle.definitions.specs.Grid.{boundary_at}
use Rattle.definitions.specs.Geometry.{Point, center, distance}
use Rattle.definitions.specs.RegionRecord.{Region, corners}
use Rattle.definitions.specs.Context.{Context, full_cut}
use Rattle.definitions.specs.RampMouths.{max_approach_radius}
use Rattle.definitions.specs.RampInteriors.{ports_fit, is_allowed_elevation, region_fits}
use Rattle.laws.specs.ListLaws.Lists.{All, all_both}
use Rattle.laws.specs.FloatLaws.DistanceRange.{DistanceInRange}
use Rattle.laws.specs.FloatLaws.PassRange.{PassInRange}
use Rattle.geometry.specs.declared.Point as geometry
use Rattle.geometry.specs.Forms.{point_form}
use Rattle.context.specs.Shown.{ShownBoundaries}
use Rattle.context.proofs.Asked.{all-asked}
use Rattle.context.proofs.Radius.{within, within_is}
use Rattle.interior_proposals.specs.declared.fits.Reach.{Reach}
use Rattle.interior_proposals.specs.Fits.{Aimed, elevation_fits, is_within}

-- ---- ports

-- f and g are what `full_cut` returned of a and b
pub ports_fit_is : {C : Context} {boundaries : List ℕ} {a b : ℕ} {f g : Bool} → ShownBoundaries C boundaries → a < C.count → b < C.count → f ≡ full_cut C a → g ≡ full_cut C b → (not (eqb (boundary_at boundaries (numbers_per_boundary * a)).kind 0) && not (eqb (boundary_at boundaries (numbers_per_boundary * b)).kind 0) && f && g && eqb (boundary_at boundaries (numbers_per_boundary * a)).ramp_id (boundary_at boundaries (numbers_per_boundary * b)).ramp_id && not (eqb (boundary_at boundaries (numbers_per_boundary * a)).kind (boundary_at boundaries (numbers_per_boundary * b)).kind)) ≡ ports_fit C a b
unfolding ports_fit
ports_fit_is {C} {boundaries} {a} {b} B l m d e =
    (λ j. not (eqb (x j).kind 0) && not (eqb (y j).kind 0) && d j && e j && eqb (x j).ramp_id (y j).ramp_id && not (eqb (x j).kind (y j).kind))
  where
    x : boundary_at boundaries (numbers_per_boundary * a) ≡ C.boundary a
    x = sym (B.at a l)

    y : boundary_at boundaries (numbers_per_boundary * b) ≡ C.boundary b
    y = sym (B.at b m)

-- p and q are the centers that were found
pub aimed : {C : Context} {boundaries : List ℕ} {a b : ℕ} {t : Reach} → ShownBoundaries C boundaries → a < C.count → b < C.count → t.lower ≡ (boundary_at boundaries (numbers_per_boundary * a)).lower → t.upper ≡ (boundary_at boundaries (numbers_per_boundary * a)).upper → point_form t.first ≡ center (boundary_at boundaries (numbers_per_boundary * a)).endpoints → point_form t.second ≡ center (boundary_at boundaries (numbers_per_boundary * b)).endpoints → Aimed C a b t
aimed {a = a} {b = b} B l m d e p q =
    record {
      lower = d ∙ ap (λ s. s.lower) (sym (B.at a l));
      upper = e ∙ ap (λ s. s.upper) (sym (B.at a l));
      first = p ∙ ap (λ s. center s.endpoints) (sym (B.at a l));
      second = q ∙ ap (λ s. center s.endpoints) (sym (B.at b m));
    }

-- ---- a corner

module _ (c p q : Point) {u : Bool} (e : u ≡ within c p) where
  pub corner_first : u ≡ true → u ≡ is_within p q c
  unfolding is_within
  corner_first h = h ∙ ap (λ b. b || le (distance c q) max_approach_radius) (sym h ∙ e ∙ within_is c p)

  pub corner-second : u ≡ false → {v : Bool} → v ≡ within c q → v ≡ is_within p q c
  unfolding is_within
  corner-second h f = f ∙ within_is c q ∙ ap (λ b. b || le (distance c q) max_approach_radius) (sym h ∙ e ∙ within_is c p)

-- ---- a region

module _ (C : Context) (a b q : ℕ) {t : Reach} (A : Aimed C a b t) where
  abbrev near : Point → Bool
  near = is_within (center (C.boundary a).endpoints) (center (C.boundary b).endpoints)

  -- s is the region's record, and t is the test of its elevations
  elevations_is : {mask : ℕ} → mask ≡ (C.region q).elevations → all_below 8 (elevation_fits mask t.lower t.upper) ≡ all_below 8 (elevation_fits (C.region q).elevations (C.boundary a).lower (C.boundary a).upper)
  elevations_is e = λ j. all_below 8 (elevation_fits (e j) (A.lower j) (A.upper j))

  fits_is : region_fits C a b q ≡ (all_below 8 (elevation_fits (C.region q).elevations (C.boundary a).lower (C.boundary a).upper) && all near (corners (C.region q)))
  unfolding region_fits is_allowed_elevation is_within
  fits_is = refl

  pub fits-fails : {mask : ℕ} {f : Bool} → mask ≡ (C.region q).elevations → f ≡ all_below 8 (elevation_fits mask t.lower t.upper) → not f ≡ true → false ≡ region_fits C a b q
  fits-fails {f = f} e d h = sym (fits_is ∙ ap (λ x. x && all near (corners (C.region q))) (sym (elevations_is e) ∙ sym d ∙ not-true f h))

  module _ (R : PassInRange C) (l : List geometry.Point) {s : Region} (same : s ≡ C.region q) (c : map point_form l ≡ corners s) where
    -- a corner is in range of both centers
    abbrev InRange : Point → Type 0
    InRange x = DistanceInRange x (center (C.boundary a).endpoints) × DistanceInRange x (center (C.boundary b).endpoints)

    -- v is the answer at a corner
    abbrev pub Answer : Bool → geometry.Point → Type 0
    Answer v x = DistanceInRange (point_form x) (point_form t.first) → DistanceInRange (point_form x) (point_form t.second) → is_within (point_form t.first) (point_form t.second) (point_form x) ≡ v

    told : (v : Bool) (x : geometry.Point) → InRange (point_form x) → Answer v x → near (point_form x) ≡ v
    told v x (h, k) f = sym (λ j. is_within (A.first j) (A.second j) (point_form x)) ∙ f (moved a h A.first) (moved b k A.second)
      where
        moved : (i : ℕ) → DistanceInRange (point_form x) (center (C.boundary i).endpoints) → {p : Point} → p ≡ center (C.boundary i).endpoints → DistanceInRange (point_form x) p
        moved i h e = subst (λ y. DistanceInRange (point_form x) y) (sym e) h

    -- and r that of all corners
    pub fits-corners : {mask : ℕ} {f : Bool} → mask ≡ (C.region q).elevations → f ≡ all_below 8 (elevation_fits mask t.lower t.upper) → not f ≡ false → (r : Bool)
        → MatchBool r (AllWithin (Answer true) l 0 (length l)) ((k : ℕ) × (k < length l) × HoldsAt (Answer false) l k) → r ≡ region_fits C a b q
    fits-corners {f = f} e d h r answers =
        let found : map point_form l ≡ corners (C.region q) = c ∙ ap corners same in
        all-asked point_form near Answer told l (subst (All InRange) (sym found) (all_both (R.corners_to_center q a) (R.corners_to_center q b))) r answers
        ∙ ap (all near) found ∙ sym (fits_is ∙ ap (λ z. z && all near (corners (C.region q))) (sym (elevations_is e) ∙ sym d ∙ not-false f h))
