-- What is asked of a union's two regions, from the answers of the tests that it consists of; and that no ramp cell is no ramp. Assumes nothing.
use Prim.Native.Nat.{ℕ}
use native.Mathlib.Omega.{arith}
use mathlib.Core.Path.{◌≡◌, refl, ap, ap₂, ◌∙◌}
use mathlib.Core.Bool.{Bool, true, false, not, ◌&&◌}
use lib.Dec.{eqb, ltb}
use borrow.Author.Tests.{eq-eqb, ne_eqb, ltb-true, ltb-false}
use Rattle.definitions.specs.Grid.{Segment}
use Rattle.definitions.specs.Geometry.{Point, center}
use Rattle.definitions.specs.RegionRecord.{Region}
use Rattle.definitions.specs.Junctions.{within_radius, within_span_radius}
use Rattle.junction_regions.specs.Tests.{is_local}

-- as the code asks it of a count, and as the definition does
pub no_ramp_lem : (n : ℕ) → eqb n 0 ≡ not (ltb 0 n)
no_ramp_lem n = go (ltb 0 n) refl
  where
    go : (b : Bool) → ltb 0 n ≡ b → eqb n 0 ≡ not b
    go true e = ne_eqb n 0 (λ z. omega (arith, z, ltb-true 0 n e))
    go false e = eq-eqb n 0 (omega (arith, ltb-false 0 n e))

module _ (s t : Region) (ends : Segment) where
  pub local-span : {one p q : Bool} → one ≡ true → p ≡ within_span_radius s ends → q ≡ within_span_radius t ends → (p && q) ≡ is_local s t ends one
  unfolding is_local
  local-span h e f = rw h (ap₂ ◌&&◌ e f)

  -- m is the boundary's center
  pub local-middle : {one p q : Bool} {m : Point} → one ≡ false → m ≡ center ends → p ≡ within_radius s m → q ≡ within_radius t m → (p && q) ≡ is_local s t ends one
  unfolding is_local
  local-middle h k e f = rw h (ap₂ ◌&&◌ (e ∙ ap (within_radius s) k) (f ∙ ap (within_radius t) k))
