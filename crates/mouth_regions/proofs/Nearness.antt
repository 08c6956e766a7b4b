-- Corners near a ramp or a mouth, by the distances that the code compares. Assumes nothing.
use Prim.Native.Nat.{ℕ, ◌<◌}
use mathlib.Core.Path.{◌≡◌, refl, sym, ap, ◌∙◌, subst}
use mathlib.Core.Bool.{Bool, true, false, ◌&&◌, ◌||◌}
use mathlib.Core.List.{List, map}
use lib.ListN.{length}
use Rattle.std.specs.Prelude.{MatchBool}
use Rattle.std.specs.List.{AllWithin, HoldsAt}
use lib.Ieee.{le}
use Rattle.definitions.specs.Scan.{all}
use Rattle.definitions.specs.Grid.{Segment}
use Rattle.definitions.specs.Geometry.{Point, center, distance}
use Rattle.definitions.specs.RegionRecord.{Region, corners}
use Rattle.definitions.specs.Context.{Context}
use Rattle.definitions.specs.RampMouths.{max_approach_radius}
use Rattle.laws.specs.ListLaws.Lists.{All}
use Rattle.laws.specs.FloatLaws.Pixels.{PixelPoint, PixelSegment, PixelRegion, pixel-half, center-half, corners-pixel}
use Rattle.laws.specs.FloatLaws.DistanceRange.{DistanceInRange, distance-in_range}
use Rattle.context.proofs.Asked.{all-asked}
use Rattle.context.proofs.Radius.{within, within_is}
use Rattle.geometry.specs.declared.Point as code
use Rattle.geometry.specs.Forms.{point_form}
use Rattle.mouth_regions.specs.Near.{corner_near, region_near}

module _ (ramp mouth c : Point) (broad : Bool) {u : Bool} (e : u ≡ within c ramp) where
  pub near-ramp : u ≡ true → u ≡ corner_near ramp mouth broad c
  unfolding corner_near
  near-ramp h = h ∙ ap (λ b. b || broad && le (distance c mouth) max_approach_radius) (sym h ∙ e ∙ within_is c ramp)

  pub near-mouth : u ≡ false → broad ≡ true → {v : Bool} → v ≡ within c mouth → v ≡ corner_near ramp mouth broad c
  unfolding corner_near
  near-mouth h b f = f ∙ within_is c mouth ∙ (λ i. (sym h ∙ e ∙ within_is c ramp) i || sym b i && le (distance c mouth) max_approach_radius)

  pub near_none : u ≡ false → broad ≡ false → broad ≡ corner_near ramp mouth broad c
  unfolding corner_near
  near_none h b = b ∙ (λ i. (sym h ∙ e ∙ within_is c ramp) i || sym b i && le (distance c mouth) max_approach_radius)

-- a corner and a centre are in range
corner-in_range : {c p : Point} {s : Segment} → PixelPoint c → PixelSegment s → p ≡ center s → DistanceInRange c p
corner-in_range {c} {p} {s} hc hs e = subst (λ q. DistanceInRange c q) (sym e) (distance-in_range c (center s) (pixel-half hc) (center-half hs))

-- what is asked of a region, by its corners
pub near_is : (C : Context) (m a : ℕ) (broad : Bool) (R : Region) → region_near C m a broad R ≡ all (corner_near (center (C.boundary a).endpoints) (center (C.boundary m).endpoints) broad) (corners R)
unfolding region_near
near_is C m a broad R = refl

-- ---- a region's corners, each asked about the centres p and q

module _ (broad : Bool) (p q : Point) where
  -- v is the answer at a corner
  abbrev pub Answer : Bool → code.Point → Type 0
  Answer v x = DistanceInRange (point_form x) p → DistanceInRange (point_form x) q → corner_near p q broad (point_form x) ≡ v

  module _ {s t : Segment} (e : p ≡ center s) (f : q ≡ center t) (hs : PixelSegment s) (ht : PixelSegment t) where
    test : Point → Bool
    test = corner_near (center s) (center t) broad

    answered : {v : Bool} {x : code.Point} → PixelPoint (point_form x) → Answer v x → test (point_form x) ≡ v
    unfolding test
    answered {x = x} h a = sym (λ i. corner_near (e i) (f i) broad (point_form x)) ∙ a (corner-in_range h hs e) (corner-in_range h ht f)

    pub corners-asked : (l : List code.Point) (R : Region) → map point_form l ≡ corners R → PixelRegion R → (r : Bool)
        → MatchBool r (AllWithin (Answer true) l 0 (length l)) ((k : ℕ) × (k < length l) × HoldsAt (Answer false) l k) → r ≡ all (corner_near (center s) (center t) broad) (corners R)
    unfolding test
    corners-asked l R g h r a = all-asked point_form test Answer (λ v x. answered) l (subst (All PixelPoint) (sym g) (corners-pixel h)) r a ∙ ap (all test) g
