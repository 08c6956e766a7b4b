-- `checks::cells::elevations_fault` meets its contract: the chain counts the cells before the first that its test refuses. Assumes nothing.
use Rattle.std.proofs.Common.{rules, tests, refl, ◌≡◌, ◌&&◌, not, leb, length, get_or, true, false, ℕ, Bool}
use Rattle.std.proofs.lemmas.Iterator.{IsFirst-from_position, YieldsList-from_slice}
use Rattle.definitions.specs.Grid.{is_walkable, elevation}
use Rattle.definitions.specs.Refusals.{elevations_fault}
use Rattle.checks.proofs.Chunks.{found_by_place}
use Rattle.checks.proofs.cells.elevations_fault.Goals as goal

pub returns : goal.returns
unfolding elevations_fault
returns c =
    let fits : ℕ → Bool = λ x. not (is_walkable x && leb 4 (elevation x)) in
    let cells = c.args.cells.now in
    found_by_place 0 fits (λ i. fits (get_or cells i 0)) (length cells) cells c.position.result refl (λ i h. refl)
    (IsFirst-from_position _ _ c.position.result (λ x. fits x ≡ false) (λ x. fits x ≡ true) c.position.ensures.ran (YieldsList-from_slice cells cc) (λ x q k. search (rules, tests)) (λ x q k. search (rules, tests)))
