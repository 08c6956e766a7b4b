-- `junction_proposals::proposals::find_proposals` meets its contract, from what its two callees ensure. Assumes nothing.
use Rattle.std.proofs.Common.{rules, ℕ, suc, ◌<◌, ◌≡◌, ◌++◌, ◌∙◌, ap}
use Rattle.definitions.specs.Scan.{collect, filter}
use Rattle.definitions.specs.Context.{Context}
use Rattle.definitions.specs.Junctions.{proposals}
use Rattle.junction_proposals.specs.Lent.{ShowsIn}
use Rattle.junction_proposals.specs.Rows.{bridge_in, row_at, rows_of, is_allowed, RowFits}
use Rattle.junction_proposals.proofs.Proposing.{rows_fit, rows-proposed}
use Rattle.junction_proposals.proofs.proposals.find_proposals.Goals as goal

pub returns-clause-rows_fit : goal.returns-clause-rows_fit
returns-clause-rows_fit c =
    let l = c.args.lists.now in
    let name = c.find_bridges.ensures.same ∙ c.find_unions.ensures.same in
    let e = c.find_bridges.ensures.rows ∙ ap (λ m. m ++ collect l.regions (λ k. bridge_in l (suc k))) c.find_unions.ensures.rows in
    let fit : (k : ℕ) → k < c.find_bridges.new.list.count → RowFits l.count l.regions (row_at c.find_bridges.new.list.rows.now k) =
    rows_fit l.boundaries.now l.full.now l.counts.now l.marks.now _ l.count l.regions _ e c.requires.lent.pairs in
    search rules

pub returns-clause-allowed : goal.returns-clause-allowed
returns-clause-allowed c =
    let l = c.args.lists.now in
    let name = c.find_bridges.ensures.same ∙ c.find_unions.ensures.same in
    let e = c.find_bridges.ensures.rows ∙ ap (λ m. m ++ collect l.regions (λ k. bridge_in l (suc k))) c.find_unions.ensures.rows in
    let are : (C : Context) → ShowsIn l C → filter (is_allowed C) (rows_of c.find_bridges.new.list.rows.now c.find_bridges.new.list.count) ≡ proposals C =
    rows-proposed l.boundaries.now l.full.now l.counts.now l.marks.now _ l.count l.regions _ e in
    search rules
