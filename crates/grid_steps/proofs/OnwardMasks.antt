-- Masks that have the bit of each cut step at its smaller cell, and no other: of every step the bit there says whether it is cut (`onward-marks`). Assumes nothing.
use Prim.Native.Nat.{ℕ}
use mathlib.Core.Path.{ap, ◌∙◌}
use mathlib.Core.Bool.{◌&&◌}
use mathlib.Core.List.{List}
use lib.Dec.{ltb}
use borrow.Author.Tests.{lt-ltb}
use Rattle.definitions.specs.Scan.{any}
use Rattle.definitions.specs.Grid.{Map, Pair, pair_eq, position_of}
use Rattle.grid_steps.specs.Masks.{reached, step_pair, OnwardMarks, OnwardBits}
use Rattle.grid_steps.proofs.Square.{four}

pub onward-marks : (M : Map) (masks : List ℕ) (E : List Pair) → OnwardBits M masks E → OnwardMarks M masks E
onward-marks M masks E b c d i s l =
    let f = four M (position_of M c) d s in
    b c d i f.near_x f.near_y ∙ ap (λ t. t && ltb c (reached M c d) && any (pair_eq (step_pair M c d)) E) s ∙ ap (λ t. t && any (pair_eq (step_pair M c d)) E) (lt-ltb c (reached M c d) l)
