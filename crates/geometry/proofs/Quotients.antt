-- What `cosine` and `normal_offset` have in common: a sum or a difference of two products, without its sign, by a length. Assumes nothing.
use mathlib.Core.Path.{◌≡◌, refl, ◌∙◌}
use mathlib.Core.Bool.{false}
use lib.Ieee.{Float, nan, inf, fin, binary64, mul, div}
use Rattle.std.specs.Float.{float_with_sign}
use Rattle.definitions.specs.RampGeometry.{fabs}

-- `abs` of the library is that of the definitions
without_sign : (x : Float) → float_with_sign false x ≡ fabs x
unfolding float_with_sign fabs
without_sign nan = refl
without_sign (inf s) = refl
without_sign (fin s m e) = refl

-- r is what `abs` answers, n the length
pub quotient-of :
    (join : Float → Float → Float) (n : Float) {p q u v a b c d r : Float} → p ≡ a → q ≡ b → u ≡ c → v ≡ d → r ≡ float_with_sign false (join (mul binary64 p q) (mul binary64 u v))
    → div binary64 r n ≡ div binary64 (fabs (join (mul binary64 a b) (mul binary64 c d))) n
quotient-of join n e f g h k = λ i. div binary64 ((k ∙ without_sign _ ∙ (λ j. fabs (join (mul binary64 (e j) (f j)) (mul binary64 (g j) (h j))))) i) n
