-- What filling the lent lists promises, before and after. Definitions only; assumes nothing.
use Rattle.std.specs.Prelude.{ℕ, ◌≡◌, List}
use Rattle.definitions.specs.Limits.{tallies_per_span, numbers_per_pair, numbers_per_row}
use Rattle.definitions.specs.Lists.{overwrite}
use Rattle.result_reader.specs.declared.Plan.{Plan}
use Rattle.result_reader.specs.declared.ResultLists.{ResultLists}
use Rattle.result_reader.specs.Parts.{part_numbers}

-- what was judged stands in front of each list
pub record Filled (bytes : List ℕ) (plan : Plan) (x y : ResultLists) : Type 0 where
  pub labels : y.labels.now ≡ overwrite (part_numbers 1 bytes plan.labels) x.labels.now
  pub tallies : y.tallies.now ≡ overwrite (part_numbers tallies_per_span bytes plan.tallies) x.tallies.now
  pub pairs : y.pairs.now ≡ overwrite (part_numbers numbers_per_pair bytes plan.pairs) x.pairs.now
  pub rows : y.rows.now ≡ overwrite (part_numbers numbers_per_row bytes plan.rows) x.rows.now

-- y refers to the lists of x
pub record SameLists (x y : ResultLists) : Type 0 where
  pub labels : y.labels.ghost_name ≡ x.labels.ghost_name
  pub tallies : y.tallies.ghost_name ≡ x.tallies.ghost_name
  pub pairs : y.pairs.ghost_name ≡ x.pairs.ghost_name
  pub rows : y.rows.ghost_name ≡ x.rows.ghost_name
