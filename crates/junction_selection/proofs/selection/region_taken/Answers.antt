-- `junction_selection::selection::region_taken` meets its contract, by what `any` gives. Assumes nothing.
use Rattle.std.proofs.Common.{rules, tests, arith, length, ◌<◌, ◌≡◌, true, false, ℕ, Bool, List}
use Rattle.std.proofs.lemmas.Iterator.{cases_from_any, YieldsList-from_slice}
use Rattle.std.proofs.lemmas.Iterator.Adapters.{serves_from_places}
use Rattle.std.proofs.lemmas.List.{get_or_default}
use Rattle.definitions.specs.Junctions.{Proposal, region_conflict}
use Rattle.junction_proposals.specs.declared.proposals.Candidate.{Candidate}
use Rattle.junction_proposals.specs.Rows.{row_at}
use Rattle.junction_selection.proofs.Conflicts.{any-of_taken}
use Rattle.junction_selection.proofs.selection.region_taken.Goals as goal

-- what a taken proposal has against row p
abbrev against : List Candidate → ℕ → Proposal → Bool
against rows p q = region_conflict q.kind (row_at rows p).kind q (row_at rows p)

pub any-requires-clause-callable : goal.any-requires-clause-callable
any-requires-clause-callable c =
    serves_from_places (YieldsList-from_slice c.args.taken.now cc) (λ x q e. search (rules, tests))
    (λ x k l e.
    let below : x.now < length c.args.rows.now = omega (arith, e, get_or_default c.args.taken.now k x.now 0 l, c.requires.taken_rows k l) in
    let p = c.requires.row_within in
    search (rules, tests))

pub returns : goal.returns
returns c =
    let rows = c.args.rows.now in
    let p = c.args.p in
    any-of_taken (against rows p) rows c.args.taken.now _
    (cases_from_any _ _ c.any.result (λ q. against rows p (row_at rows q) ≡ true) (λ q. against rows p (row_at rows q) ≡ false) c.any.ensures.ran
    (YieldsList-from_slice c.args.taken.now cc) (λ x q k. search (rules, tests)) (λ x q k. search (rules, tests)))
