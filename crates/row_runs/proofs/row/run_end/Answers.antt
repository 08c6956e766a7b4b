-- `row_runs::row::run_end` meets its contract: `find` gives the first cell that the run has not. Assumes nothing.
use Rattle.std.proofs.Common.{rules, tests, ℕ, Bool, ◌≡◌, true, false}
use Rattle.std.proofs.lemmas.Iterator.{first_from_Range}
use Rattle.row_runs.specs.Stretch.{goes_on}
use Rattle.row_runs.proofs.Passing.{until_found}
use Rattle.row_runs.proofs.row.run_end.Goals as goal

pub returns : goal.returns
returns c =
    let test : ℕ → Bool = goes_on c.args.grid.terrain.cells.now c.args.grid.masks.now in
    rw c.unwrap_or.ensures (until_found {f = test} c.requires.1 _ (first_from_Range _ _ _ c.find.result (λ i. test i ≡ false) (λ i. test i ≡ true) c.find.ensures.ran (λ x q k. search (rules, tests)) (λ x q k. search (rules, tests))))
