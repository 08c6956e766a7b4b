-- What `points::distance` and `points::point_segment_distance` ensure, r being their answer, at points that are known to be others in range. Assumes nothing.
use mathlib.Core.Path.{◌≡◌, ◌∙◌, subst⁻¹}
use lib.Ieee.{Float}
use Rattle.definitions.specs.Geometry.{Point, distance, point_segment_distance}
use Rattle.laws.specs.FloatLaws.DistanceRange.{DistanceInRange, nearest_point}

pub distance_at : {p q P Q : Point} {r : Float} → p ≡ P → q ≡ Q → DistanceInRange P Q → (DistanceInRange p q → r ≡ distance p q) → r ≡ distance P Q
distance_at {p} {q} {P} {Q} d e h f = f (subst⁻¹ (λ P. DistanceInRange P q) d (subst⁻¹ (DistanceInRange P) e h)) ∙ (λ i. distance (d i) (e i))

pub segment_distance_at : {p a b P A B : Point} {r : Float} → p ≡ P → a ≡ A → b ≡ B → DistanceInRange P (nearest_point P A B)
    → (DistanceInRange p (nearest_point p a b) → r ≡ point_segment_distance p a b) → r ≡ point_segment_distance P A B
segment_distance_at {p} {a} {b} {P} {A} {B} d e g h f = f (all d e g h) ∙ (λ i. point_segment_distance (d i) (e i) (g i))
  where
    all : p ≡ P → a ≡ A → b ≡ B → DistanceInRange P (nearest_point P A B) → DistanceInRange p (nearest_point p a b)
    all d e g h =
        subst⁻¹ (λ z. DistanceInRange z (nearest_point z a b)) d
        (subst⁻¹ (λ z. DistanceInRange P (nearest_point P z b)) e (subst⁻¹ (λ z. DistanceInRange P (nearest_point P A z)) g h))
