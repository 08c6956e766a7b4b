-- `RankedBoard::region_for` meets its contract: `find` gives the first region that serves. Assumes nothing.
use Rattle.std.proofs.Common.{rules, arith, tests, ℕ, true, false, ◌-◌, ◌≤◌, ◌<◌}
use Rattle.std.specs.Prelude.{MatchOption}
use Rattle.std.proofs.lemmas.Iterator.{first_from_Range}
use Rattle.game_verdicts.specs.Words.{Served}
use Rattle.game_verdicts.specs.Forms.{is_runner}
use Rattle.game_verdicts.proofs.Reading.{least_found, found-few}
use Rattle.game_verdicts.proofs.RankedBoard.region_for.Goals as goal

pub returns : goal.returns
returns c =
    let s = c.args.self in
    let p = c.args.place in
    let board = s.board.now in
    let No : ℕ → Type 0 = λ d. Served board.near s.ranks.now p.runner p.guard (is_runner p.side) (d - 1) false in
    let Yes : ℕ → Type 0 = λ d. Served board.near s.ranks.now p.runner p.guard (is_runner p.side) (d - 1) true in
    let found : MatchOption c.find.result ((k : ℕ) → 1 ≤ k → k < board.regions → No k) (λ i. (1 ≤ i) × (i < board.regions) × Yes i × ((k : ℕ) → 1 ≤ k → k < i → No k)) =
    first_from_Range _ _ _ c.find.result Yes No c.find.ensures.ran (λ x q k. search (rules, tests)) (λ x q k. (search (rules, tests), search (rules, tests))) in
    record {
      answer = λ G goal P. rw c.unwrap_or.ensures (least_found board.near s.ranks.now board.regions p.runner p.guard (is_runner p.side) (omega (arith, c.requires.runner)) G goal P c.find.result found);
      bound = rw c.unwrap_or.ensures (found-few board.near s.ranks.now board.regions p.runner p.guard (is_runner p.side) c.find.result c.requires.few found);
    }
