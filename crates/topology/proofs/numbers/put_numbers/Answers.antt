-- `topology::numbers::put_numbers` meets its contract: the record's numbers are copied in. Assumes nothing.
use Rattle.std.proofs.Common.{◌∙◌}
use Rattle.context.specs.Records.{record_of}
use Rattle.ranked_rows.proofs.Judging.{row_copied}
use Rattle.topology.specs.Numbers.{record_numbers}
use Rattle.topology.proofs.numbers.put_numbers.Goals as goal

pub returns : goal.returns
returns c =
    row_copied c.args.numbers.now (record_numbers (record_of c.args.r)) c.args.at c.requires (c.copy_from_slice.ensures.after ∙ c.numbers_of-n.ensures)
