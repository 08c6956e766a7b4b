-- `pairs::span_end` meets its contract: what is found is the first row of another span. Assumes nothing.
use Rattle.std.proofs.Common.{rules, tests, arith, ℕ, ◌≡◌, ◌≤◌, ◌<◌, ◌*◌, List, get_or}
use Rattle.std.specs.Prelude.{Option, None, Some, MatchOption}
use Rattle.std.specs.Option.{unwrap_or}
use Rattle.std.proofs.lemmas.Iterator.{first_from_Range}
use Rattle.definitions.specs.Limits.{numbers_per_pair}
use Rattle.context.specs.Rows.{SpanEnd}
use Rattle.context.proofs.pairs.span_end.Goals as goal

module _ (pairs : List ℕ) (span : ℕ) where
  abbrev Same : ℕ → Type 0
  Same k = get_or pairs (numbers_per_pair * k) 0 ≡ span

  abbrev Other : ℕ → Type 0
  Other k = get_or pairs (numbers_per_pair * k) 0 ≡ span → ⊥

  ends : (rows first : ℕ) (r : Option ℕ) → first ≤ rows
      → MatchOption r ((k : ℕ) → first ≤ k → k < rows → Same k) (λ i. (first ≤ i) × (i < rows) × Other i × ((k : ℕ) → first ≤ k → k < i → Same k))
      → SpanEnd pairs rows first span (unwrap_or r rows)
  ends rows first None order h = record { from = order; upto = omega arith; same = h; other = λ l. absurd (omega arith) }
  ends rows first (Some i) order h = record { from = h.0; upto = omega (arith, h.1); same = h.3; other = λ l. h.2 }

pub returns : goal.returns
returns c =
    let pairs = c.args.pairs.now in
    let span = c.args.span in
    rw c.unwrap_or.ensures
    (ends pairs span c.args.rows c.args.first c.find.result c.requires.ordered
    (first_from_Range _ _ _ c.find.result (Other pairs span) (Same pairs span) c.find.ensures.ran (λ x q k. search (rules, tests)) (λ x q k. search (rules, tests))))
