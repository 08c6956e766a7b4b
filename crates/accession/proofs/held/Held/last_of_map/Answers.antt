-- `accession::held::Held::last_of_map` meets its contract, by what `find` gives from the back (`behind`). Assumes nothing.
use Rattle.std.proofs.Common.{rules, tests, ◌≡◌, true, false, subst, ap, ◌∙◌}
use Rattle.catalogue.specs.Accession.{on_same_map}
use Rattle.range_laws.specs.Backwards.{last_from_range}
use Rattle.accession.proofs.Chains.{Behind, behind, by_number}
use Rattle.accession.proofs.held.Held.last_of_map.Goals as goal

pub returns-in-Some : goal.returns-in-Some
unfolding on_same_map
returns-in-Some g c =
    let l = c.args.records.now in
    let i = c.args.i in
    let n = c.args.self.now.count in
    subst (Behind l i n c.rev.result c.rev.ensures.source c.requires.places.1) c.in-Some.is
    (behind l i n c.rev.result c.rev.ensures.source c.requires.places.1 c.find-behind.result
    (last_from_range c.rev.result _ _ c.find-behind.result (λ k. on_same_map l i k ≡ true) (λ k. on_same_map l i k ≡ false) c.find-behind.ensures.ran (λ x q k. search (rules, tests)) (λ x q k. search (rules, tests))))

pub returns-in-None : goal.returns-in-None
unfolding on_same_map
returns-in-None g c =
    let l = c.args.records.now in
    let i = c.args.i in
    let n = c.args.self.now.count in
    c.last_held.ensures ∙ by_number l i _ n (ap (λ r. r.on_map) c.accession_at-number.ensures)
    ∙ subst (Behind l i n c.rev.result c.rev.ensures.source c.requires.places.1) c.in-None.is
    (behind l i n c.rev.result c.rev.ensures.source c.requires.places.1 c.find-behind.result
    (last_from_range c.rev.result _ _ c.find-behind.result (λ k. on_same_map l i k ≡ true) (λ k. on_same_map l i k ≡ false) c.find-behind.ensures.ran (λ x q k. search (rules, tests)) (λ x q k. search (rules, tests))))
