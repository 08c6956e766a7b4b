-- `result_writer::RunResult::fits` meets its contract: the room is enough where something or nothing is left of it. Assumes nothing.
use Rattle.std.proofs.Common.{◌∙◌, length}
use Rattle.results.specs.ResultAnswers.{result_bytes}
use Rattle.result_writer.specs.Contract.{result_of}
use Rattle.result_writer.proofs.Spending.{has_room}
use Rattle.result_writer.proofs.RunResult.fits.Goals as goal

pub returns : goal.returns
returns c = c.is_some.ensures ∙ has_room c.args.room (length (result_bytes (result_of c.args.self))) c.spend.ensures
