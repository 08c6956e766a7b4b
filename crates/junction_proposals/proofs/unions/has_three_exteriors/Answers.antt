-- `junction_proposals::unions::has_three_exteriors` meets its contract, by what `fold` gives. Assumes nothing.
use Rattle.std.proofs.Common.{rules, tests, ◌∙◌, sym, ap}
use lib.Dec.{leb}
use Rattle.std.specs.List.{fold}
use Rattle.std.proofs.lemmas.Iterator.{YieldsList-from_slice}
use Rattle.std.proofs.lemmas.Iterator.Consumers.{fold_from_yields_List}
use Rattle.context.specs.Rows.{pair_form}
use Rattle.junction_proposals.specs.Unions.{with_incident}
use Rattle.junction_proposals.specs.declared.unions.Exteriors.TheVariants as found
use Rattle.junction_proposals.proofs.Exteriors.{size, three_found, not-three}
use Rattle.junction_proposals.proofs.unions.has_three_exteriors.Goals as goal

pub returns-in-Many : goal.returns-in-Many
returns-in-Many c =
    let full = c.args.lists.now.full.now in
    let p = pair_form c.args.divider.now.union in
    let i = c.args.divider.now.index in
    let folded = fold_from_yields_List _ (with_incident full i p) found.None c.fold-exteriors.result c.fold-exteriors.ensures.ran (YieldsList-from_slice c.args.divider.now.incidents.now cc) (λ a x b q k. search (rules, tests)) in
    ap (λ s. leb 3 (size s)) (sym c.in-Many.is) ∙ three_found full i p c.args.lists.now.count (folded ∙ ap (fold (with_incident full i p) found.None) c.requires.incidents)

pub returns-in_default : goal.returns-in_default
returns-in_default c =
    let full = c.args.lists.now.full.now in
    let p = pair_form c.args.divider.now.union in
    let i = c.args.divider.now.index in
    let folded = fold_from_yields_List _ (with_incident full i p) found.None c.fold-exteriors.result c.fold-exteriors.ensures.ran (YieldsList-from_slice c.args.divider.now.incidents.now cc) (λ a x b q k. search (rules, tests)) in
    not-three c.fold-exteriors.result c.in_default.not-Many ∙ three_found full i p c.args.lists.now.count (folded ∙ ap (fold (with_incident full i p) found.None) c.requires.incidents)
