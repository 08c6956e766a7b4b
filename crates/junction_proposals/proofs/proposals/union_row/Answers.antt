-- `junction_proposals::proposals::union_row` meets its contract, from what `is_union` ensures of a boundary with a full pair. Assumes nothing.
use mathlib.Core.Path.{◌≡◌, refl, sym, ap, ◌∙◌}
use mathlib.Core.Bool.{Bool, true, false}
use Rattle.std.specs.Bool.{then_some}
use Rattle.definitions.specs.Scan.{only_if}
use Rattle.definitions.specs.Context.{holds}
use Rattle.definitions.specs.Junctions.{Proposal}
use Rattle.context.specs.Rows.{full_pair_of}
use Rattle.junction_proposals.specs.declared.proposals.Candidate.{Candidate}
use Rattle.junction_proposals.specs.Unions.{shape_at, is_union_at}
use Rattle.junction_proposals.specs.Rows.{form, found_form, union_of, union_at}
use Rattle.junction_proposals.proofs.proposals.union_row.Goals as goal

found : (b : Bool) (x : Candidate) → found_form (then_some b x) ≡ only_if b (form x)
found true x = refl
found false x = refl

pub returns-in_err-union : goal.returns-in_err-union
unfolding union_at
returns-in_err-union c =
    let l = c.args.lists.now in
    ap found_form c.from_residual.ensures ∙ sym (ap (λ o. union_of l.boundaries.now l.full.now l.counts.now l.marks.now l.count c.args.i (full_pair_of o)) c.in_err-union.was)

pub returns : goal.returns
unfolding union_at is_union_at
returns c =
    let l = c.args.lists.now in
    let u = c.in_ok-union.union in
    let row : Proposal = record { index = c.args.i; kind = 0; first = u.lo; second = u.hi } in
    let full = c.in_ok-union.was in
    ap found_form c.then_some.ensures ∙ found _ _
    ∙ ap (λ b. only_if b row) (c.is_union.ensures ∙ ap (λ o. holds (full_pair_of o) (λ p. shape_at l.boundaries.now l.full.now l.count c.args.i p l.counts.now l.marks.now)) full)
    ∙ sym (ap (λ o. union_of l.boundaries.now l.full.now l.counts.now l.marks.now l.count c.args.i (full_pair_of o)) full)
