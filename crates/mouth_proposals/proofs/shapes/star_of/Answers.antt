-- `shapes::star_of` meets its contract: the shape goes by which regions of the first row stand in all rows. Assumes nothing.
use Rattle.std.proofs.Common.{rules, tests, ◌≡◌, ap, ◌∙◌, ℕ}
use Rattle.std.specs.Prelude.{Option, None, Some, MatchOption}
use Rattle.std.specs.Option.{IsSomeAnd}
use Rattle.context.specs.Shown.{pairs_between}
use Rattle.mouth_proposals.specs.declared.shapes.Shape.{Shape}
use Rattle.mouth_proposals.specs.declared.shapes.Shape.TheVariants as shape
use Rattle.mouth_proposals.specs.Rows.{shape_form}
use Rattle.mouth_proposals.proofs.ShapeTests.{starred, star-shape}
use Rattle.mouth_proposals.proofs.shapes.star_of.Goals as goal

-- what `map` gives of a variant's name
mapped : {L : ℕ → Shape → Type 0} (o : Option ℕ) (r : Option Shape) → ((x : ℕ) (y : Shape) → L x y → y ≡ shape.Star x) → MatchOption o (r ≡ None) (λ x. IsSomeAnd r (L x)) → r ≡ starred o
mapped None r k h = h
mapped (Some x) None k h = absurd h
mapped (Some x) (Some y) k h = ap Some (k x y h)

pub returns : goal.returns
returns c =
    ap (shape_form (pairs_between c.args.pairs.now c.args.rows.start c.args.rows.end)) (mapped c.region_of.result c.map.result (λ x y k. search (rules, tests)) c.map.ensures.cases)
    ∙ star-shape c.args.pairs.now c.args.rows.start c.args.rows.end c.requires.0 c.row_at-p.ensures c.in_all-lo.ensures c.in_all-hi.ensures c.region_of.ensures
