-- `row_runs::row::south_end` meets its contract: `find` gives the first cell whose step to the south is not cut. Assumes nothing.
use Rattle.std.proofs.Common.{rules, tests, ℕ, Bool, ◌≡◌, true, false}
use Rattle.std.proofs.lemmas.Iterator.{first_from_Range}
use Rattle.grid_steps.specs.Masks.{cut_bit}
use Rattle.row_runs.proofs.Passing.{until_found}
use Rattle.row_runs.proofs.row.south_end.Goals as goal

pub returns : goal.returns
returns c =
    let test : ℕ → Bool = λ d. cut_bit c.args.masks.now d 7 in
    rw c.unwrap_or.ensures (until_found {f = test} c.requires.0 _ (first_from_Range _ _ _ c.find.result (λ i. test i ≡ false) (λ i. test i ≡ true) c.find.ensures.ran (λ x q k. search (rules, tests)) (λ x q k. search (rules, tests))))
