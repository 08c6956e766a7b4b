-- `candidates::is_candidate` meets its contract: where no boundary spoils the component, its edges are those that it owns. Assumes nothing.
use Rattle.std.proofs.Common.{rules, tests, ◌≡◌, ◌<◌, true, false, eqb, sym, ap, ◌∙◌}
use borrow.Author.Tests.{eq-eqb, ne_eqb}
use Rattle.laws.specs.ListLaws.Chains.{any_from_range}
use Rattle.definitions.specs.Context.{Context}
use Rattle.definitions.specs.RampInteriors.{components, component_of}
use Rattle.interior_proposals.specs.Candidates.{Mapped, spoils_at}
use Rattle.interior_proposals.proofs.CandidateLaws.{spoilt, unspoilt, unnamed, counted_owned}
use Rattle.interior_proposals.proofs.candidates.is_candidate.Goals as goal

pub returns-then-name_of-r : goal.returns-then-name_of-r
returns-then-name_of-r c =
    let k = c.args.known in
    let own : (C : Context) → Mapped C c.args.context.pairs.now c.args.context.starts.now k.names.now k.marks.now c.args.r → eqb c.name_of.result c.args.r ≡ eqb (component_of C (components C) c.args.r) c.args.r = λ C M. ap (λ n. eqb n c.args.r) c.name_of.ensures ∙ M.told.at c.args.r M.from M.upto in
    λ C M e O. sym (unnamed C _ (sym (own C M) ∙ ne_eqb _ _ c.if-name_of-r.true))

pub returns-then-any : goal.returns-then-any
returns-then-any c =
    λ C M e O.
    spoilt C _ e _
    (any_from_range _ _ _ c.any.result (λ i. i < C.count → spoils_at C c.args.r i ≡ true) (λ i. i < C.count → spoils_at C c.args.r i ≡ false)
    c.any.ensures.ran (λ x q k l. let o = O x l in search (rules, tests)) (λ x q k. (search (rules, tests), λ l. let o = O x l in search (rules, tests)))) c.if-any.true

pub returns : goal.returns
returns c =
    let k = c.args.known in
    let own : (C : Context) → Mapped C c.args.context.pairs.now c.args.context.starts.now k.names.now k.marks.now c.args.r → eqb c.name_of.result c.args.r ≡ eqb (component_of C (components C) c.args.r) c.args.r = λ C M. ap (λ n. eqb n c.args.r) c.name_of.ensures ∙ M.told.at c.args.r M.from M.upto in
    λ C M e O.
    counted_owned C _ _ M.from M.upto O (own C M) (eq-eqb _ _ c.if-name_of-r.false) e
    (unspoilt C _ e _
    (any_from_range _ _ _ c.any.result (λ i. i < C.count → spoils_at C c.args.r i ≡ true) (λ i. i < C.count → spoils_at C c.args.r i ≡ false)
    c.any.ensures.ran (λ x q k l. let o = O x l in search (rules, tests)) (λ x q k. (search (rules, tests), λ l. let o = O x l in search (rules, tests)))) c.if-any.false)
    c.edge_count-edges.ensures
