-- `ranked_rows::refused_by` meets its contract, by what `position` gives. Assumes nothing.
use Rattle.std.proofs.Common.{rules, tests, arith, ap, ◌<◌}
use Rattle.std.proofs.lemmas.Iterator.{YieldsList-from_slice}
use Rattle.std.proofs.lemmas.Iterator.Adapters.{serves_from_places}
use Rattle.std.proofs.lemmas.List.{get_or_default}
use Rattle.definitions.specs.Limits.{max_entries}
use Rattle.ranked_rows.specs.Contract.{no_row}
use Rattle.ranked_rows.proofs.refused_by.Goals as goal

pub position-requires-clause-callable : goal.position-requires-clause-callable
position-requires-clause-callable c =
    serves_from_places (YieldsList-from_slice c.args.listed.now cc) (λ x q e. search (rules, tests))
    (λ x k l e.
    let below : x.now.candidate.index < max_entries =
    omega (arith, ap (λ r. r.candidate.index) e, ap (λ r. r.candidate.index) (get_or_default c.args.listed.now k x.now no_row l), c.requires.boundaries.0 k l) in
    let own : c.args.candidate.index < max_entries = c.requires.boundaries.1 in
    search (rules, tests))
