-- `cell::side_changes` meets its contract: it is an entry of the word. Assumes nothing.
use Rattle.cut_steps.proofs.cell.side_changes.Goals as goal

pub returns : goal.returns
returns c =
    c.side_word.ensures c.args.ahead c.args.j c.requires.1 c.requires.2
