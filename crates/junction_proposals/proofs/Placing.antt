-- What the lists that are lent have at a boundary. Assumes nothing.
use Prim.Native.Nat.{ℕ, ◌<◌}
use native.Mathlib.Omega.{arith}
use mathlib.Core.List.{List}
use Rattle.geometry.specs.Placed.{Placed}
use Rattle.junction_proposals.specs.Lent.{LentBoundaries}

pub placed : {boundaries : List ℕ} {count i : ℕ} → LentBoundaries boundaries count → i < count → Placed boundaries i
placed {i} h l = record { whole = omega (arith, h.long); pixels = h.pixels i l }
