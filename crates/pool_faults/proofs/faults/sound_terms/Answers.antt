-- `faults::sound_terms` meets its contract. Assumes nothing.
use Rattle.std.proofs.Common.{rules, tests, arith, ◌<◌}
use Rattle.std.specs.Bool.{⊤}
use Rattle.std.proofs.lemmas.Iterator.{first_from_Range}
use Rattle.catalogue.specs.Terms.{term_at, term_count, days_of}
use Rattle.pool_terms.specs.Contract.{first_in, end_in}
use Rattle.pool_faults.proofs.TermScan.{sound_found}
use Rattle.pool_faults.proofs.faults.sound_terms.Goals as goal

pub returns : goal.returns
returns c =
    let l = c.args.terms.now in
    sound_found l c.args.known (term_count l) c.find.result c.unwrap_or.ensures c.requires.0 c.requires.1
    (first_from_Range _ _ _ c.find.result (λ i. ⊤) (λ i. first_in (days_of (term_at l i)) < end_in (days_of (term_at l i))) c.find.ensures.ran (λ x q k. tt) (λ x q k. (search rules, grind (arith, tests))))
