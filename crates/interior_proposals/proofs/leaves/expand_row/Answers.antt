-- `leaves::expand_row` meets its contract, by its tests. Assumes nothing.
use mathlib.Core.Path.{refl, ap, ap₂, sym, ◌∙◌}
use mathlib.Core.Bool.{◌||◌, cond}
use Rattle.interior_proposals.proofs.LeafLaws.{row_inside, row_unclear, row_no_leaf, row-leaf}
use Rattle.interior_proposals.proofs.leaves.expand_row.Goals as goal
use Rattle.interior_proposals.proofs.leaves.expand_row.Goals.{then-a, else-a}

pub returns-then-is_named-clause-expanded : goal.returns-then-is_named-clause-expanded
returns-then-is_named-clause-expanded c =
    λ C i rs es v W I M. row_inside C i _ rs es v _ _ W I M refl refl (sym (ap₂ ◌||◌ c.is_named.ensures c.is_named-2.ensures) ∙ c.if-is_named.true)

pub returns-then-a-b-clause-expanded : goal.returns-then-a-b-clause-expanded
returns-then-a-b-clause-expanded c =
    λ C i rs es v W I M. row_unclear C i _ rs es v _ _ W I M refl refl (sym (ap₂ ◌||◌ c.is_named.ensures c.is_named-2.ensures) ∙ c.if-is_named.false) c.is_exterior-a.ensures c.is_exterior-b.ensures c.if-a-b.true

pub returns-then-not-is_leaf-clause-expanded : goal.returns-then-not-is_leaf-clause-expanded
returns-then-not-is_leaf-clause-expanded c =
    λ C i rs es v W I M. row_no_leaf C i _ rs es v _ _ W I M refl refl (sym (ap₂ ◌||◌ c.is_named.ensures c.is_named-2.ensures) ∙ c.if-is_named.false) c.is_exterior-a.ensures c.is_exterior-b.ensures c.if-a-b.false (elim c.if-a.branch [ then-a w ↦ w.leaf-is ∙ sym (ap (λ t. cond t c.args.pair.hi c.args.pair.lo) w.if-a.true) | else-a w ↦ w.leaf-is ∙ sym (ap (λ t. cond t c.args.pair.hi c.args.pair.lo) w.if-a.false) ]) c.is_leaf.ensures c.if-not-is_leaf.true-raw

pub returns-clause-expanded : goal.returns-clause-expanded
returns-clause-expanded c =
    λ C i rs es v W I M. row-leaf C i _ rs es v _ _ W I M refl refl (sym (ap₂ ◌||◌ c.is_named.ensures c.is_named-2.ensures) ∙ c.if-is_named.false) c.is_exterior-a.ensures c.is_exterior-b.ensures c.if-a-b.false (elim c.if-a.branch [ then-a w ↦ w.leaf-is ∙ sym (ap (λ t. cond t c.args.pair.hi c.args.pair.lo) w.if-a.true) | else-a w ↦ w.leaf-is ∙ sym (ap (λ t. cond t c.args.pair.hi c.args.pair.lo) w.if-a.false) ]) c.is_leaf.ensures c.if-not-is_leaf.false-raw c.set_name.ensures
