-- REQUEST 10 of document 02. For any two boundaries of an accepted map the separation of pass 1 is within 2 ^ -32 pixel of the exact distance of the two
-- segments, and zero exactly when they share a point (`accepted-separations`); segments without length are included, as nothing here asks for a length. What is
-- assumed: that a call which runs a pass accepts the map (its answer has number 0), of which checks 1 and 7 matter: they keep coordinates up to 8,192. The
-- exact square (`exact_square_is`) and the test for a shared point (`intersects_exactly`) are right for all whole coordinates. Calls.antt says the same of what
-- the list of separations holds at exit.
use Rattle.std.specs.Prelude.{◌≡◌, refl, ◌↔◌, Bool, true, false, cond, ℕ, T, eqb, Float}
use Rattle.std.proofs.Common.{sym, ap, ◌∙◌, eq-eqb, ne_eqb}
use Rattle.std.proofs.lemmas.Bool.{false≢true}
use Rattle.std.specs.Float.{binary64}
use Rattle.std.specs.Float.Ieee.{fits, of_bits, to_bits}
use Rattle.std.specs.Float.Ieee.Bits.{of_bits-to_bits}
use Rattle.definitions.specs.Grid.{Segment, Map, boundary_of}
use Rattle.definitions.specs.Hypotenuse.{magnitude}
use Rattle.definitions.specs.Geometry.{float}
use Rattle.definitions.specs.RampGeometry.{intersects, segment_distance}
use Rattle.definitions.specs.Context.{context_of}
use Rattle.definitions.specs.RampMouths.{separation_of}
use Rattle.definitions.specs.Verdict.{Lent, map_in, verdict}
use Rattle.laws.specs.FloatLaws.Pixels.{PixelSegment}
use Rattle.laws.specs.FloatLaws.MapPixels.{OnMap, map-pixel}
use Rattle.laws.specs.FloatLaws.FiniteSeparations.{Clear, separation-clear}
use Rattle.laws.specs.RustPasses.Accepted.{accepted-on_map}
use Rattle.separations.specs.Distance.{SharePoint, ExactSquare, Fraction, exact_square, Within}
use Rattle.separations.specs.PlaneLaws.Crossing.{intersects-share}
use Rattle.separations.specs.PlaneLaws.Sharing.{share-intersects}
use Rattle.separations.specs.PlaneLaws.LeastDistance.{meet-exact, apart-exact, exact-again}
use Rattle.separations.proofs.PlaneLaws.Perpendicular.{least_square, least_same}
use Rattle.separations.proofs.PlaneLaws.Sizes.{Small, small-square}
use Rattle.separations.proofs.ErrorLaws.Turned.{separation-turned}
use Rattle.separations.proofs.ErrorLaws.SegmentErrors.{meets-zero, zero-magnitude, separation-within, separation-zero}

-- ---- of all segments of whole coordinates

-- "the segments share a point"
pub intersects_exactly : (s t : Segment) → (intersects s t ≡ true) ↔ SharePoint s t
intersects_exactly s t = (intersects-share s t, share-intersects s t)

-- the fraction that is computed is the square of the distance
pub exact_square_is : (s t : Segment) → ExactSquare s t (exact_square s t).num (exact_square s t).den
unfolding exact_square
exact_square_is s t = go (intersects s t) refl
  where
    Exactly : Fraction → Type 0
    Exactly f = ExactSquare s t f.num f.den

    go : (b : Bool) → intersects s t ≡ b → Exactly (cond b (record { num = 0; den = 1 }) (least_square s t))
    go true e = meet-exact s t (intersects-share s t e)
    go false e = exact-again (least_same s t).second (least_same s t).is (apart-exact s t (λ h. false≢true (sym e ∙ share-intersects s t h)))

-- ---- of boundaries

-- what holds of a separation x of two segments
pub record SeparationHolds (s t : Segment) (x : Float) : Type 0 where
  -- a finite double with the sign clear
  pub clear : Clear x
  -- the exact square, as it is computed; numerator and denominator fit 64 bits
  pub exact : ExactSquare s t (exact_square s t).num (exact_square s t).den
  pub small : Small (exact_square s t)
  -- within 2 ^ -32 of the exact distance, however its square is written
  pub within : {num den : ℕ} → ExactSquare s t num den → Within x num den
  -- it is 0.0 exactly when the two share a point
  pub zero : (x ≡ float 0) ↔ SharePoint s t

-- with coordinates up to 8,192
pub separation-holds : {s t : Segment} → PixelSegment s → PixelSegment t → SeparationHolds s t (segment_distance s t)
separation-holds {s} {t} hs ht =
    record {
      clear = separation-clear hs ht;
      exact = exact_square_is s t;
      small = small-square hs ht;
      within = λ {num} {den} e. separation-within hs ht e;
      zero = (λ e. (separation-zero hs ht).0 (ap magnitude e ∙ zero-magnitude), λ h. meets-zero s t (share-intersects s t h));
    }

-- of a double that binary64 has, the bits are all zero just for 0.0
bits-zero : {x : Float} → T (fits binary64 x) → to_bits binary64 x ≡ 0 → x ≡ float 0
unfolding of_bits float
bits-zero {x} h e = sym (of_bits-to_bits binary64 x h) ∙ ap (of_bits binary64) e

pub zero_bits : {s t : Segment} {x : Float} → SeparationHolds s t x → (to_bits binary64 x ≡ 0) ↔ SharePoint s t
unfolding to_bits float
zero_bits H = (λ e. H.zero.0 (bits-zero H.clear.held e), λ h. ap (to_bits binary64) (H.zero.1 h))

-- so that a test of the bits does for `intersects`
pub zero_test : {s t : Segment} → PixelSegment s → PixelSegment t → eqb (to_bits binary64 (segment_distance s t)) 0 ≡ intersects s t
zero_test {s} {t} hs ht = go (intersects s t) refl
  where
    go : (b : Bool) → intersects s t ≡ b → eqb (to_bits binary64 (segment_distance s t)) 0 ≡ b
    go true e = eq-eqb (to_bits binary64 (segment_distance s t)) 0 ((zero_bits (separation-holds hs ht)).1 (intersects-share s t e))
    go false e = ne_eqb (to_bits binary64 (segment_distance s t)) 0 (λ z. false≢true (sym e ∙ share-intersects s t ((zero_bits (separation-holds hs ht)).0 z)))

-- boundaries i and j of a map, and their separation in pass 1
abbrev pub OfBoundaries : Map → ℕ → ℕ → Type 0
OfBoundaries M i j = SeparationHolds (boundary_of M i).endpoints (boundary_of M j).endpoints (separation_of (context_of M) i j)

pub map-separations : {M : Map} → OnMap M → (i j : ℕ) → OfBoundaries M i j
unfolding separation_of context_of
map-separations {M} h i j = separation-holds ((map-pixel h).ends i) ((map-pixel h).ends j)

-- which of the two comes first does not matter
pub separations-turned : {M : Map} → OnMap M → (i j : ℕ) → separation_of (context_of M) i j ≡ separation_of (context_of M) j i
unfolding separation_of context_of
separations-turned {M} h i j = separation-turned ((map-pixel h).ends i) ((map-pixel h).ends j)

pub accepted-separations : (L : Lent) → (verdict L).number ≡ 0 → (i j : ℕ) → OfBoundaries (map_in L) i j
accepted-separations L success i j = map-separations (accepted-on_map L success) i j
