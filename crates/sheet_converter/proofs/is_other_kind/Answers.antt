-- `sheet_converter::is_other_kind` meets its contract, by the search; written so that a wrong body is refused sooner. Assumes nothing.
use Rattle.std.proofs.Common.{rules}
use Rattle.sheet_converter.proofs.is_other_kind.Goals as goal

pub returns : goal.returns
returns c = search rules
