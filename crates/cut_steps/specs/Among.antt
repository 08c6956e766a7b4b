-- Masks that show steps show any among them. Assumes nothing.
use Rattle.std.specs.Prelude.{◌&&◌, List, ℕ}
use Rattle.std.proofs.Common.{ap₂}
use Rattle.definitions.specs.Scan.{any}
use Rattle.definitions.specs.Grid.{Map, Pair, pair_eq}
use Rattle.laws.specs.ListLaws.Tests.{both}
use Rattle.grid_steps.specs.Masks.{step_pair, is_onward}
use Rattle.cut_steps.specs.Marking.{Shown}
use Rattle.cut_steps.specs.Visits.{Among}

pub shown-among : {M : Map} {masks : List ℕ} {E F : List Pair} → Among F E → Shown M masks E → Shown M masks F
shown-among {M} {E = E} {F} sub S =
    record {
      long = S.long;
      steps = S.steps;
      bits = λ c d i a b e.
          let f = pair_eq (step_pair M c d) in
          let t = both (is_onward M c d) (any f F) e in
          S.bits c d i a b (ap₂ ◌&&◌ t.0 (sub f t.1));
    }
