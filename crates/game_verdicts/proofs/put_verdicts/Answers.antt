-- `put_verdicts` meets its contract. The loop's invariant (`Putting`): the verdicts of the first c places are stored. Assumes nothing.
use Rattle.std.proofs.Common.{ap, subst, ◌∙◌, ◌<◌}
use Rattle.game.specs.Graph.{place_at, numbers_of}
use Rattle.game.specs.Ranks.{verdict_by}
use Rattle.game_search.specs.Words.{rank_at}
use Rattle.game_verdicts.proofs.Reading.{putting-starts, putting_more}
use Rattle.game_verdicts.proofs.put_verdicts.Goals as goal

pub loop-c-init : goal.loop-c-init
loop-c-init c = putting-starts _ _ _ _ _

pub loop-c-preserved : goal.loop-c-preserved
unfolding place_at
loop-c-preserved c =
    putting_more _ _ _ _ _ _ _ _ _ c.loop-c.invariant (subst (λ n. c.loop-c.c < n) c.place_count-count.ensures c.loop-c-test.true)
    (λ G P. c.verdict_at.ensures G P ∙ ap (λ x. numbers_of (verdict_by G (rank_at c.args.ranks.now) x)) c.place_at.ensures.is) c.put_verdict.ensures c.put_verdict.auto.verdicts
