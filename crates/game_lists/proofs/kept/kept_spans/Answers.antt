-- `game_lists::kept::kept_spans` meets its contract: the spans are copied, and those without a mark move to the front. Assumes nothing.
use Rattle.game_lists.proofs.KeptSpans.{kept-front}
use Rattle.game_lists.proofs.kept.kept_spans.Goals as goal

pub returns-clause-kept : goal.returns-clause-kept
returns-clause-kept c =
    let a = c.args in
    kept-front a.spans.now a.kept.now a.removed.now c.requires.0 c.copy_block.ensures c.keep_blocks.ensures.list _ c.keep_blocks.ensures.answer
