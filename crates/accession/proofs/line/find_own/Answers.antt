-- `accession::line::find_own` meets its contract. Assumes nothing.
use Rattle.std.proofs.Common.{rules, tests, ◌≡◌, get_or}
use Rattle.std.proofs.lemmas.Iterator.{first_from_find, YieldsList-from_slice}
use Rattle.accession.proofs.Searching.{found}
use Rattle.accession.proofs.line.find_own.Goals as goal

pub returns : goal.returns
returns c =
    let own = c.args.own in
    found c.args.records.now c.as_chunks.ensures.front c.as_chunks.ensures.front_len own c.find.result
    (first_from_find _ _ c.find.result (λ e. get_or e 0 0 ≡ own) (λ e. get_or e 0 0 ≡ own → ⊥) c.find.ensures.ran (YieldsList-from_slice c.as_chunks.result.0.now cc) (λ x q k. search (rules, tests)) (λ x q k. search (rules, tests)))
