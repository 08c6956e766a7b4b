-- `row_runs::row::alike_end` meets its contract: the first word that has one, or the cells behind the words. Assumes nothing.
use Rattle.std.proofs.Common.{rules, tests, arith, ℕ, ◌+◌, ◌-◌, ◌*◌, ◌/◌, ◌≤◌, ◌<◌, Bool, ◌≡◌, sym, subst}
use Rattle.std.specs.Prelude.{Option, None, Some, MatchOption}
use Rattle.row_runs.specs.Stretch.{Until, walks_as}
use Rattle.row_runs.specs.Words.{FirstOfEight}
use Rattle.row_runs.proofs.Passing.{Passing, passing_eights, passing-stops_on, passing-ends_on}
use Rattle.row_runs.proofs.MappedRanges.{first_given_from_Range}
use Rattle.row_runs.proofs.row.alike_end.Goals as goal

module _ (test : ℕ → Bool) (from end : ℕ) (order : from ≤ end) where
  abbrev Word : ℕ → Option ℕ → Type 0
  Word k r = FirstOfEight test (from + 8 * k) r

  -- what is found in the words
  abbrev Found : Option ℕ → Type 0
  Found r = MatchOption r (Passing test from end (from + 8 * ((end - from) / 8))) (Until test from end)

  found_is : (r : Option ℕ)
      → MatchOption r ((k : ℕ) → 0 ≤ k → k < (end - from) / 8 → Word k None) (λ y. (i : ℕ) × (0 ≤ i) × (i < (end - from) / 8) × Word i (Some y) × ((k : ℕ) → 0 ≤ k → k < i → Word k None))
      → Found r
  found_is None all = passing_eights ((end - from) / 8) (omega arith) (λ k l. all k (omega arith) l)
  found_is (Some y) (i, low, high, hit, before) = passing-stops_on (passing_eights i (omega arith) (λ k l. before k (omega arith) l)) (omega arith) hit.0 hit.1

  ends : (r : Option ℕ) (e : ℕ) {Rest : Type 0} → (Rest → Until test (from + 8 * ((end - from) / 8)) end e) → Found r → MatchOption r Rest (λ y. e ≡ y) → Until test from end e
  ends None e rest found h = passing-ends_on found (rest h)
  ends (Some y) e rest found h = subst (Until test from end) (sym h) found

pub returns : goal.returns
returns c =
    let a = c.args in
    let test : ℕ → Bool = walks_as a.walkable a.cells.now in
    let first = first_given_from_Range _ _ (λ x r q k. search (rules, tests)) (λ k. Word test a.from a.end c.requires.0 k None) (λ k r. Word test a.from a.end c.requires.0 k (Some r)) (λ x k. search (rules, tests)) (λ x y k. search (rules, tests)) c.find_map.result c.find_map.ensures.runs in
    ends test a.from a.end c.requires.0 c.find_map.result c.unwrap_or_else.result (λ k. search (rules, tests)) (found_is test a.from a.end c.requires.0 c.find_map.result first) c.unwrap_or_else.ensures
