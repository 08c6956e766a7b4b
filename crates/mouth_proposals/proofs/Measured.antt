-- What is measured of two boundaries of the list is what the definitions measure in a context that the list shows. Assumes nothing.
use Prim.Native.Nat.{ℕ, ◌+◌, ◌*◌, ◌<◌}
use mathlib.Core.Path.{◌≡◌, refl, sym, ap, ap₂, ◌∙◌, subst⁻¹}
use mathlib.Core.Bool.{Bool, true, false, not, ◌&&◌}
use mathlib.Core.List.{List}
use lib.ListN.{get_or}
use lib.Ieee.{Float, binary64, le, mul, of_bits}
use Rattle.definitions.specs.Limits.{numbers_per_boundary}
use Rattle.definitions.specs.Grid.{Segment, segment_at}
use Rattle.definitions.specs.Geometry.{float}
use Rattle.definitions.specs.RampGeometry.{fmin, fmax, overlapping_ramp_representative}
use Rattle.definitions.specs.Context.{Context, width}
use Rattle.definitions.specs.RampMouths.{max_overlay_width_ratio, broad_mouth, nearby_representative, overlay_representative, overlay_only}
use Rattle.laws.specs.FloatLaws.Pixels.{PixelSegment}
use Rattle.geometry.specs.Widths.{is_twice_as_wide}
use Rattle.context.specs.Shown.{ShownBoundaries}
use Rattle.mouth_proposals.proofs.Literals.{ratio_is}

pub pixels_at : {s t : Segment} → s ≡ t → PixelSegment t → PixelSegment s
pixels_at e h = subst⁻¹ PixelSegment e h

module _ {C : Context} {boundaries : List ℕ} (S : ShownBoundaries C boundaries) where
  pub endpoints-shown : (i : ℕ) → i < C.count → {s : Segment} → s ≡ segment_at boundaries (numbers_per_boundary * i) → s ≡ (C.boundary i).endpoints
  endpoints-shown i l e = e ∙ sym (ap (λ b. b.endpoints) (S.at i l))

  pub width-shown : (i : ℕ) → i < C.count → {w : Float} → w ≡ of_bits binary64 (get_or boundaries (numbers_per_boundary * i + 4) 0) → w ≡ width C i
  unfolding width
  width-shown i l e = e ∙ sym (ap (λ b. of_bits binary64 b.width_bits) (S.at i l))

  pub broad_is : (m a : ℕ) → m < C.count → a < C.count → is_twice_as_wide boundaries m a ≡ broad_mouth C m a
  unfolding is_twice_as_wide broad_mouth
  broad_is m a l k = λ i. le (mul binary64 (float 2) (width-shown a k refl i)) (width-shown m l refl i)

module _ (C : Context) (m a : ℕ) {mouth ramp : Float} (mw : mouth ≡ width C m) (rw' : ramp ≡ width C a) where
  -- the widths that are compared
  module _ {larger smaller : Float} (hi : larger ≡ fmax mouth ramp) (lo : smaller ≡ fmin mouth ramp) where
    compared : le larger (mul binary64 (of_bits binary64 0x3FF8000000000000) smaller)
        ≡ le (fmax (width C m) (width C a)) (mul binary64 max_overlay_width_ratio (fmin (width C m) (width C a)))
    compared = λ i. le ((hi ∙ ap₂ fmax mw rw') i) (mul binary64 (ratio_is i) ((lo ∙ ap₂ fmin mw rw') i))

    pub overlay_by : {b r : Bool} → le larger (mul binary64 (of_bits binary64 0x3FF8000000000000) smaller) ≡ b
        → r ≡ overlapping_ramp_representative (C.boundary m).endpoints (C.boundary a).endpoints → (b && r) ≡ overlay_representative C m a
    unfolding overlay_representative
    overlay_by e h = λ i. (sym e ∙ compared) i && h i

    pub overlay-not : le larger (mul binary64 (of_bits binary64 0x3FF8000000000000) smaller) ≡ false → false ≡ overlay_representative C m a
    unfolding overlay_representative
    overlay-not e = ap (λ b. b && overlapping_ramp_representative (C.boundary m).endpoints (C.boundary a).endpoints) (sym e ∙ compared)

pub overlay_only_lem : (C : Context) (m a : ℕ) {w n o : Bool} → w ≡ broad_mouth C m a → n ≡ nearby_representative C m a → o ≡ overlay_representative C m a → ((o && not n) && not w) ≡ overlay_only C m a
unfolding overlay_only
overlay_only_lem C m a {w} {n} {o} e f g = go o (not n) ∙ (λ i. g i && not (f i) && not (e i))
  where
    go : (x y : Bool) → ((x && y) && not w) ≡ (x && y && not w)
    go true y = refl
    go false y = refl
