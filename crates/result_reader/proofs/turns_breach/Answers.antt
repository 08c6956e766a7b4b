-- `result_reader::turns_breach` meets its contract: by how far the labels are in turn. Assumes nothing.
use Rattle.laws.specs.ListLaws.Options.{only_then}
use Rattle.std.proofs.Common.{sym, ◌∙◌}
use Rattle.result_reader.proofs.Lists.{turns_behind, turns-broken}
use Rattle.result_reader.proofs.turns_breach.Goals as goal

pub returns-in-Ok : goal.returns-in-Ok
returns-in-Ok c = c.then_some.ensures ∙ only_then _ _ ∙ sym (turns_behind _ _ _ c.in-Ok.is)

pub returns-in-Err : goal.returns-in-Err
returns-in-Err c = turns-broken _ _ c.in-Err.is
