-- `ramp_geometry::Ramp::overlap` meets its contract: each number is what its function ensures. Assumes nothing.
use mathlib.Core.Path.{◌≡◌, ◌∙◌}
use lib.Ieee.{Float, binary64, sub, of_bits}
use Rattle.definitions.specs.Geometry.{float}
use Rattle.definitions.specs.RampGeometry.{fmin, fmax}
use Rattle.geometry.proofs.Literals.{zero_is}
use Rattle.geometry.proofs.ramp_geometry.Ramp.overlap.Goals as goal

-- n is the ramp's length, first and second are the two projections
by_parts : (n : Float) {first second a b least greatest upper lower r : Float} → first ≡ a → second ≡ b → least ≡ fmin first second → greatest ≡ fmax first second
    → upper ≡ fmin n greatest → lower ≡ fmax (of_bits binary64 0x0000000000000000) least → r ≡ fmax (sub binary64 upper lower) (of_bits binary64 0x0000000000000000)
    → r ≡ fmax (sub binary64 (fmin n (fmax a b)) (fmax (float 0) (fmin a b))) (float 0)
by_parts n {first} {second} {a} {b} {least} {greatest} {upper} {lower} da db dl dg du dw dr = dr ∙ (λ i. fmax (sub binary64 (up i) (low i)) (zero_is i))
  where
    up : upper ≡ fmin n (fmax a b)
    up = du ∙ (λ i. fmin n (dg i)) ∙ (λ i. fmin n (fmax (da i) (db i)))

    low : lower ≡ fmax (float 0) (fmin a b)
    low = dw ∙ (λ i. fmax (zero_is i) (dl i)) ∙ (λ i. fmax (float 0) (fmin (da i) (db i)))

pub returns : goal.returns
returns c =
    by_parts c.args.self.length c.project-start.ensures c.project-end.ensures c.fmin-candidate_min.ensures c.fmax-candidate_max.ensures
    c.fmin.ensures c.fmax.ensures c.fmax-2.ensures
