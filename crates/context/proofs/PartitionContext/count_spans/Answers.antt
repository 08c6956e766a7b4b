-- `PartitionContext::count_spans` meets its contract. The invariant: the list has counted the spans passed. Assumes nothing.
use native.Mathlib.Omega.{arith}
use mathlib.Core.Path.{refl, sym, ap, ap₂, ◌∙◌, subst}
use lib.ListN.{length}
use Rattle.context.specs.Rows.{NamedRow}
use Rattle.context.specs.Shown.{pairs_between}
use Rattle.context.specs.Packed.{count_pairs, count_spans, Packed}
use Rattle.context.proofs.IncidentCounts.{spans-length, spans-packed, spans_more}
use borrow.Author.Rules.{rules}
use Rattle.context.proofs.PartitionContext.count_spans.Goals as goal

pub loop-i-init : goal.loop-i-init
unfolding count_spans
loop-i-init c = refl

pub count_rows-requires-clause-named_rows : goal.count_rows-requires-clause-named_rows
count_rows-requires-clause-named_rows c =
    let at = c.loop-i in
    let same = ap length at.invariant ∙ spans-length _ at.i _ in
    λ k h m. subst (λ n. NamedRow c.args.self.pairs.now n k) (sym same) (c.requires.named_rows.named at.i c.loop-i-test.true k (omega (arith, h, c.rows.ensures.0)) (omega (arith, m, c.rows.ensures.1)))

pub count_rows-requires-clause-places : goal.count_rows-requires-clause-places
count_rows-requires-clause-places c =
    let at = c.loop-i in
    (search rules, subst (Packed at.i) (sym at.invariant) (spans-packed _ at.i _ (search rules) c.requires.counts_clear))

pub loop-i-preserved : goal.loop-i-preserved
loop-i-preserved c =
    spans_more _ _ _ c.loop-i.invariant
    (c.count_rows.ensures ∙ ap₂ (λ first end. count_pairs c.loop-i.i c.loop-i.counts (pairs_between c.args.self.pairs.now first end)) c.rows.ensures.0 c.rows.ensures.1)
