-- `sheet::read_sheet` meets its contract: reading alone limits the cells no further than the sides do. Assumes nothing.
use Rattle.definitions.specs.Sheet.{read_verdict}
use Rattle.sheet.proofs.read_sheet.Goals as goal

pub returns : goal.returns
unfolding read_verdict
returns c =
    c.read_within.ensures
