-- The kind of a boundary by its number, which it keeps. Definitions only; assumes nothing.
use Rattle.std.specs.Prelude.{ℕ, cond, eqb}
use Rattle.geometry.specs.declared.boundaries.BoundaryKind.{BoundaryKind}
use Rattle.geometry.specs.declared.boundaries.BoundaryKind.TheVariants.{Plain, Lower, Upper, Other}

abbrev pub kind_of : ℕ → BoundaryKind
kind_of n = cond (eqb n 0) Plain (cond (eqb n 1) Lower (cond (eqb n 2) Upper (Other n)))

abbrev pub number_of : BoundaryKind → ℕ
number_of Plain = 0
number_of Lower = 1
number_of Upper = 2
number_of (Other n) = n
