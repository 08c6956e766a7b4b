-- What a test of six parts says. Assumes nothing.
use mathlib.Core.Path.{◌≡◌, refl}
use mathlib.Core.Bool.{Bool, true, false, ◌&&◌, false≢true}

pub first_two : (p q s t u w : Bool) → (p && q && s && t && u && w) ≡ true → (p ≡ true) × (q ≡ true)
first_two true true s t u w e = (refl, refl)
first_two true false s t u w e = absurd (false≢true e)
first_two false q s t u w e = absurd (false≢true e)
