-- `topology::numbers::numbers_of` meets its contract, from what `bits_of` ensures. Assumes nothing.
use Rattle.context.specs.Records.{record_of}
use Rattle.topology.proofs.Numbering.{as_numbers}
use Rattle.topology.proofs.numbers.numbers_of.Goals as goal

pub returns : goal.returns
returns c =
    as_numbers (record_of c.args.r)
    c.bits_of.ensures c.bits_of-2.ensures c.bits_of-3.ensures c.bits_of-4.ensures
