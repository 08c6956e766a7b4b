-- `RankedBoard::verdict_at` meets its contract. Assumes nothing.
use Rattle.std.proofs.Common.{sym, ap, ◌∙◌}
use Rattle.std.specs.Prelude.{ltb}
use Rattle.game_verdicts.specs.Forms.{is_runner}
use Rattle.game_verdicts.proofs.Reading.{back, verdict-told}
use Rattle.game_verdicts.proofs.RankedBoard.verdict_at.Goals as goal

pub returns : goal.returns
returns c =
    let s = c.args.self in
    let p = c.args.place in
    λ G P.
    let rank = c.rank-rank.ensures ∙ sym (back s.ranks.now p.runner p.guard (is_runner p.side)) in
    verdict-told s.board.now.near s.board.now.regions s.board.now.goal G P s.ranks.now p.runner p.guard (is_runner p.side) _ c.rank-rank.result _ _ rank c.winner-winner.ensures c.saturating_sub.ensures
    (c.region_at.ensures G P (c.winner-winner.ensures ∙ ap (ltb 0) rank))
