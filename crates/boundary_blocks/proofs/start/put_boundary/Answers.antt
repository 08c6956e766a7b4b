-- `boundary_blocks::start::put_boundary` meets its contract, by the search; written so that a wrong body is refused sooner. Assumes nothing.
use Rattle.std.proofs.Common.{rules, arith}
use Rattle.std.proofs.lemmas.Grind.{common_steps}
use Rattle.boundary_blocks.proofs.start.put_boundary.Goals as goal

pub copy_block-requires-2 : goal.copy_block-requires-2
copy_block-requires-2 c = search rules

pub returns : goal.returns
returns c = grind (arith, common_steps)
