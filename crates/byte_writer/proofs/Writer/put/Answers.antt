-- `byte_writer::Writer::put` meets its contract: the bytes from byte-index on are still to be written. Assumes nothing.
use Rattle.std.proofs.Common.{arith, ◌∷◌, []}
use Rattle.std.proofs.lemmas.List.{drop_more}
use Rattle.byte_writer.specs.Chains.{writing_room, writing_goes_on}
use Rattle.byte_writer.proofs.Writer.put.Goals as goal

pub put_byte-requires : goal.put_byte-requires
put_byte-requires c =
    writing_room (_ ∷ []) _ (drop_more c.args.bytes.now c.loop-byte.byte-index 0 c.loop-byte-test.true) c.loop-byte.invariant.1

pub loop-byte-preserved : goal.loop-byte-preserved
loop-byte-preserved c = (
  omega arith,
  writing_goes_on (_ ∷ []) _ (drop_more c.args.bytes.now c.loop-byte.byte-index 0 c.loop-byte-test.true) c.loop-byte.invariant.1 c.put_byte.ensures,
)
