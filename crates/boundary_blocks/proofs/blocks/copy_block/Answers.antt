-- `boundary_blocks::blocks::copy_block` meets its contract: a range of the one list is copied over one of the other. Assumes nothing.
use Rattle.boundary_blocks.proofs.Copying.{put_part}
use Rattle.boundary_blocks.proofs.blocks.copy_block.Goals as goal

pub returns : goal.returns
returns c =
    let given = c.args in
    put_part given.to.now given.place given.at given.size given.from.now c.requires.0 c.requires.1 c.copy_from_slice.ensures.after
