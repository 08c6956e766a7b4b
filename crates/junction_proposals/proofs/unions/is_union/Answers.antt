-- `junction_proposals::unions::is_union` meets its contract, from what `has_union_shape` ensures of a full pair. Assumes nothing.
use mathlib.Core.Path.{sym, ap, ◌∙◌}
use Rattle.definitions.specs.Context.{holds}
use Rattle.context.specs.Rows.{full_pair_of}
use Rattle.junction_proposals.specs.Unions.{shape_at, is_union_at}
use Rattle.junction_proposals.proofs.unions.is_union.Goals as goal

pub returns-in-Some : goal.returns-in-Some
unfolding is_union_at
returns-in-Some c =
    let l = c.args.lists.now in
    c.has_union_shape.ensures ∙ sym (ap (λ o. holds (full_pair_of o) (λ p. shape_at l.boundaries.now l.full.now l.count c.args.index p l.counts.now l.marks.now)) c.in-Some.is)

pub returns-in-None : goal.returns-in-None
unfolding is_union_at
returns-in-None c =
    let l = c.args.lists.now in
    sym (ap (λ o. holds (full_pair_of o) (λ p. shape_at l.boundaries.now l.full.now l.count c.args.index p l.counts.now l.marks.now)) c.in-None.is)
