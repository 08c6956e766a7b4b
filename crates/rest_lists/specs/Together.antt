-- The lists of a run as they are lent together. Definitions only; assumes nothing.
use Rattle.std.specs.Prelude.{◌≡◌, length}
use Rattle.rest_lists.specs.declared.kept.KeptLists.{KeptLists}

-- y refers to the lists of x, which are as long as they were
pub record SameKept (x y : KeptLists) : Type 0 where
  pub numbers : y.numbers.ghost_name ≡ x.numbers.ghost_name
  pub spans : y.spans.ghost_name ≡ x.spans.ghost_name
  pub boundaries : y.boundaries.ghost_name ≡ x.boundaries.ghost_name
  pub numbers_long : length y.numbers.now ≡ length x.numbers.now
  pub spans_long : length y.spans.now ≡ length x.spans.now
  pub boundaries_long : length y.boundaries.now ≡ length x.boundaries.now
