-- `junction_proposals::unions::ports_pass` meets its contract, by what `all` gives of the union's incidents. Assumes nothing.
use Rattle.std.proofs.Common.{rules, tests, ◌≡◌, ◌∙◌, ap, ◌<◌, subst, sym}
use Rattle.std.specs.List.{list_all}
use Rattle.std.proofs.lemmas.Iterator.{YieldsList-from_slice}
use Rattle.std.proofs.lemmas.Iterator.Adapters.{serves_from_places}
use Rattle.std.proofs.lemmas.Iterator.Search.{all_from_yields_List}
use Rattle.geometry.specs.Placed.{Placed}
use mathlib.Core.Path.{refl}
use mathlib.Core.Bool.{Bool, true, false, not, ◌&&◌, ◌||◌}
use lib.Dec.{eqb}
use Rattle.context.specs.Rows.{pair_form}
use Rattle.laws.specs.ListLaws.ScansOfAll.{all_ext}
use Rattle.junction_proposals.specs.Ports.{is_port, names_either}
use Rattle.junction_proposals.specs.Unions.{passes_at, ports_pass}
use Rattle.junction_proposals.proofs.Incidents.{listed_below, all_listed}
use Rattle.junction_proposals.proofs.Placing.{placed}
use Rattle.junction_proposals.proofs.unions.ports_pass.Goals as goal

-- a boundary that names a region of the union, and is not the union's own, is a port
regroup : (own named passes : Bool) → (not named || (own || passes)) ≡ (not (not own && named) || passes)
regroup true true passes = refl
regroup true false passes = refl
regroup false true passes = refl
regroup false false passes = refl

pub all-requires-clause-callable : goal.all-requires-clause-callable
all-requires-clause-callable c =
    let l = c.args.lists.now in
    let p = pair_form c.args.divider.now.union in
    let xs = c.args.divider.now.incidents.now in
    let own : Placed l.boundaries.now c.args.divider.now.index = placed c.requires.boundaries_lent c.requires.index_within in
    serves_from_places (YieldsList-from_slice xs cc) (λ x q k. search (rules, tests))
    (λ x k h e. let port : Placed l.boundaries.now x.now = placed c.requires.boundaries_lent (subst (λ j. j < l.count) (sym e) (listed_below l.full.now p l.count k x.now c.requires.incidents h)) in search (rules, own, port))

pub returns : goal.returns
unfolding ports_pass is_port
returns c =
    let xs = c.args.divider.now.incidents.now in
    let l = c.args.lists.now in
    let p = pair_form c.args.divider.now.union in
    let passed = all_from_yields_List (λ j. eqb j c.args.divider.now.index || passes_at c.args.lists.now.boundaries.now c.args.one c.args.divider.now.index j) _ _ c.all.result c.all.ensures.ran (YieldsList-from_slice xs cc) (λ x b q k. search (rules, tests)) in
    passed ∙ ap (list_all (λ j. eqb j c.args.divider.now.index || passes_at l.boundaries.now c.args.one c.args.divider.now.index j)) c.requires.incidents
    ∙ all_listed l.full.now p _ l.count ∙ all_ext _ _ l.count (λ j k. regroup (eqb j c.args.divider.now.index) (names_either l.full.now p j) (passes_at l.boundaries.now c.args.one c.args.divider.now.index j))
